use Rattle.std.proofs.Common.{ap, sym, subst, ℕ, List, map}
use Rattle.std.specs.Prelude.{string_bytes}
use Rattle.bk_settling.specs.Noted.{IsAmong}
use Rattle.bk_settling.proofs.Lists.{among_rest}
use Rattle.bk_settling.proofs.noted.Noted.drop_at.Goals as goal

pub returns-clause-kept : goal.returns-clause-kept
returns-clause-kept c name other is differ among =
    let Among : List (List ℕ) → Type 0 = λ names. IsAmong names other in
    subst Among (sym (ap (map string_bytes) c.remove.ensures.items)) (among_rest string_bytes c.args.self.now.names.items c.args.at name other is differ among)
