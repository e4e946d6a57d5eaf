-- A check in memory that comes first, and those behind it.
use Rattle.std.proofs.Common.{◌≡◌, Result, Ok, sym, ap, subst}
use Rattle.bk_machine.specs.Checks.{Checked, ◌>>=◌}
use Rattle.bk_plans.specs.declared.refusal.Refusal.{Refusal}
use Rattle.bk_plans.specs.declared.refusal.Refusal.TheVariants.{Broken, NoMemory}
use Rattle.bk_plans.specs.Checking.{IsCheck, IsRefused}

-- where the first is passed, those behind it decide
pub passed-on : {A B C : Type 0} (view : C → B) (result : Result C Refusal) (first : Checked A) (next : A → Checked B) (a : A) → first ≡ Ok a → IsCheck view result (next a) → IsCheck view result (first >>= next)
passed-on view result first next a is rest = subst (λ (c : Checked _). IsCheck view result (c >>= next)) (sym is) rest

-- where the first refuses, they all do
pub refused-first : {A B : Type 0} (refusal : Refusal) (first : Checked A) (next : A → Checked B) → IsRefused refusal first → IsRefused refusal (first >>= next)
refused-first (Broken rule) first next is = ap (λ (c : Checked _). c >>= next) is
refused-first NoMemory first next is = tt
