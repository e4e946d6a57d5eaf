-- What was answered of a restore, once it is known which.
use Rattle.std.proofs.Common.{◌≡◌, ℕ, List, Option, Ok, Err, subst}
use Rattle.std.specs.Prelude.{IfOk, Result}
use Rattle.bk_archive.specs.Opened.{AnswersSet, IsOpened, set_of}
use Rattle.bk_archive.specs.declared.opening.OpenedSet.{OpenedSet}
use Rattle.bk_machine.specs.World.{World}
use Rattle.bk_machine.specs.statements.Restore.{set_at}
use Rattle.bk_world.specs.declared.rule.Rule.{Rule}
use Rattle.bk_world.specs.Medium.{medium_at}

-- the file of the set that was found
pub named-so : (name : List ℕ) (r : Result OpenedSet Rule) (opened : OpenedSet) → r ≡ Ok opened → IfOk r (λ (o : OpenedSet). o.medium.name ≡ name) → opened.medium.name ≡ name
named-so name r opened is holds = subst (λ (x : Result OpenedSet Rule). IfOk x (λ (o : OpenedSet). o.medium.name ≡ name)) is holds

-- the set
pub found-so : (w : World) (path : List ℕ) (at : ℕ) (file : Option (List ℕ)) (r : Result OpenedSet Rule) (opened : OpenedSet) → r ≡ Ok opened → AnswersSet w path at file (set_of r) → IsOpened w path at file opened.set
found-so w path at file r opened is answers = subst (λ (x : Result OpenedSet Rule). AnswersSet w path at file (set_of x)) is answers

-- and the rule
pub refused-so : (w : World) (path : List ℕ) (at : ℕ) (file : Option (List ℕ)) (r : Result OpenedSet Rule) (rule : Rule) → r ≡ Err rule → AnswersSet w path at file (set_of r) → set_at at (medium_at w.media path) ≡ Err rule
refused-so w path at file r rule is answers = subst (λ (x : Result OpenedSet Rule). AnswersSet w path at file (set_of x)) is answers
