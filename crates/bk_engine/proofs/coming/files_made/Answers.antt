use Rattle.std.proofs.Common.{rules, []}
use Rattle.bk_paged.specs.Making.{MayBeMade}
use Rattle.bk_engine.proofs.Fills.{may-fill}
use Rattle.bk_engine.proofs.coming.files_made.Goals as goal

pub returns-clause-fills : goal.returns-clause-fills
returns-clause-fills c =
    let may : MayBeMade c.in_ok-made.made.items [] = search rules in
    may-fill c.args.files.now c.in_ok-made.made.items [] c.in_ok-made.ensures.files may
