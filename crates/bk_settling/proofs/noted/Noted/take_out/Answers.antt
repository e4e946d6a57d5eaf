use Rattle.std.proofs.Common.{◌∙◌, sym}
use Rattle.std.specs.Prelude.{string_bytes}
use Rattle.bk_settling.proofs.Lists.{found_at}
use Rattle.bk_settling.proofs.noted.Noted.take_out.Goals as goal

pub returns-in-Some-clause-kept : goal.returns-in-Some-clause-kept
returns-in-Some-clause-kept c other differ among =
    let at = found_at string_bytes c.args.self.now.names.items c.args.name.now c.in-Some.at (sym c.find.ensures ∙ c.in-Some.is) in
    c.drop_at.ensures.kept c.args.name.now other at.1 differ among
