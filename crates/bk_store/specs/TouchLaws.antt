-- Which files calls on a store touched, one behind the other.
use Rattle.std.proofs.Common.{◌≡◌, sym, subst}
use Rattle.bk_device.specs.Compose.{effect_then}
use Rattle.bk_device.specs.Disk.{Disk}
use Rattle.bk_paged.specs.Paged.{Kept, Touches}
use Rattle.bk_paged.specs.StandLaws.{none-touches, touches-as}

-- what touches the files of a database, then what touches those of the same one
pub touches-then : (p q : Kept) {a b c : Disk} → q.log.db ≡ p.log.db → q.facts.files ≡ p.facts.files → Touches p a b → Touches q b c → Touches p a c
touches-then p q db files first second = effect_then first (touches-as p q db files second)

-- what touches them on the same device
pub moved-touches : {D : Type 0} (disk : D → Disk) (x y : D) (p : Kept) {b : Disk} → y ≡ x → Touches p (disk y) b → Touches p (disk x) b
moved-touches disk x y p {b} same touches = subst (λ (d : _). Touches p (disk d) b) same touches

-- where the device is the same
pub unmoved-touches : {D : Type 0} (disk : D → Disk) (x y : D) (p : Kept) → y ≡ x → Touches p (disk x) (disk y)
unmoved-touches disk x y p same = subst (λ (d : _). Touches p (disk x) (disk d)) (sym same) (none-touches p (disk x))
