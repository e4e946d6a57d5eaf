-- Effects: on devices that are the same, of acts that are cut off, and of what is done to no medium.
use Rattle.std.proofs.Common.{◌≡◌, ◌⊎◌, ℕ, List, inl, inr, sym, subst}
use Rattle.bk_device.specs.Compose.{effect_weaken}
use Rattle.bk_device.specs.Disk.{Disk, Files}
use Rattle.bk_device.specs.Effects.{Effect}
use Rattle.bk_engine.specs.Touched.{NoMedium, TouchesOnly}
use Rattle.bk_engine.specs.TouchLaws.{wider-touch}

-- ---- devices that are the same

-- what was done from a device on was done from one that is the same
pub moved : {D : Type 0} {own : List ℕ → Type 0} {P : Files → Type 0} (disk : D → Disk) (x y : D) {b : Disk} → y ≡ x → Effect own P (disk y) b → Effect own P (disk x) b
moved {own = own} {P = P} disk x y {b = b} same effect = subst (λ d. Effect own P (disk d) b) same effect

-- and what was done to one was done to one that is the same
pub moved-on : {D : Type 0} {own : List ℕ → Type 0} {P : Files → Type 0} (disk : D → Disk) (x y : D) {a : Disk} → y ≡ x → Effect own P a (disk x) → Effect own P a (disk y)
moved-on {own = own} {P = P} disk x y {a = a} same effect = subst (λ d. Effect own P a (disk d)) (sym same) effect

-- ---- what a crash leaves of an act

-- the world before it
pub uncut : {own : List ℕ → Type 0} {P Q : Files → Type 0} {a b : Disk} → Effect own P a b → Effect own (λ image. P image ⊎ Q image) a b
uncut effect = effect_weaken (λ image left. inl left) effect

-- or the one behind it
pub cut : {own : List ℕ → Type 0} {P Q : Files → Type 0} {a b : Disk} → Effect own Q a b → Effect own (λ image. P image ⊎ Q image) a b
cut effect = effect_weaken (λ image left. inr left) effect

-- ---- what is touched

-- what is done to no medium
pub none-touch : {named : List ℕ → Type 0} {a b : Disk} → TouchesOnly NoMedium a b → TouchesOnly named a b
none-touch effect = wider-touch (λ path no. absurd no) effect
