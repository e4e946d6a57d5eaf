use Rattle.std.proofs.Common.{ℕ, List, sym, subst}
use Rattle.bk_log.specs.Log.{Kept as KeptLog}
use Rattle.bk_paged.specs.Making.{AreNoted}
use Rattle.bk_paged.proofs.Removed.{found_none, found_some}
use Rattle.bk_paged.proofs.removing.find_facts.Goals as goal

pub returns-in_default-clause-found : goal.returns-in_default-clause-found
returns-in_default-clause-found g c t files names = found_none (λ (log : KeptLog). AreNoted log.note files) c.in_ok-log.field-0 c.in_default.is (c.in_ok-log.ensures.found t files names)

pub returns-clause-found : goal.returns-clause-found
returns-clause-found g c t files names =
    let Of : List ℕ → Type 0 = λ n. AreNoted n files in
    c.facts_in.ensures.found files (subst Of (sym c.note.ensures) (found_some (λ (log : KeptLog). AreNoted log.note files) c.in_ok-log.field-0 c.in-Some.log c.in-Some.is (c.in_ok-log.ensures.found t files names)))
