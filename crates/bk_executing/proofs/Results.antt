-- What holds of results, and of a device that is the same.
use Rattle.std.proofs.Common.{◌≡◌, ℕ, List, Ok, Err, refl, subst}
use Rattle.std.specs.Prelude.{IfErr, IfOk, IsErrOf, OnErr, OnOk, Result}
use Rattle.bk_device.specs.Disk.{Disk, Files}
use Rattle.bk_device.specs.Effects.{Effect}
use Rattle.bk_device.specs.Troubles.{IsPassing}
use Rattle.bk_device.specs.declared.trouble.Trouble.{Trouble}
use Rattle.bk_device.specs.declared.trouble.Trouble.TheVariants.{Broken}

-- what holds of each value
pub on-all : {A E Q : Type 0} (result : Result A E) → ((value : A) → result ≡ Ok value → Q) → OnOk result Q
on-all (Ok value) holds = holds value refl
on-all (Err error) holds = tt

pub of-ok : {A E P : Type 0} (result : Result A E) (value : A) → result ≡ Ok value → OnOk result P → P
of-ok {P = P} result value is holds = subst (λ r. OnOk r P) is holds

-- what passes isn't broken
pub not-broken : {A : Type 0} (result : Result A Trouble) → IfErr result IsPassing → IsErrOf result Broken → ⊥
not-broken result passing is = subst (λ r. IfErr r IsPassing) is passing

-- what holds of any result holds on its error
pub on-error : {A E : Type 0} (result : Result A E) {P : Type 0} → P → OnErr result P
on-error (Ok value) holds = tt
on-error (Err error) holds = holds

-- an effect from a device that is the same
pub moved : {D : Type 0} {own : List ℕ → Type 0} {P : Files → Type 0} (disk : D → Disk) (x y : D) {b : Disk} → y ≡ x → Effect own P (disk y) b → Effect own P (disk x) b
moved {own = own} {P = P} disk x y {b = b} same effect = subst (λ d. Effect own P (disk d) b) same effect
