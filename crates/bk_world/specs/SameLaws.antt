-- A GUID and a name are like themselves.
use Rattle.std.proofs.Common.{◌≡◌, ℕ, true, List, refl, arith}
use Rattle.std.proofs.lemmas.Bool.Decides.{nat_tests}
use Rattle.std.proofs.lemmas.Slice.Eq.{bytes_eq-Decides}
use Rattle.bk_ids.specs.declared.guid.Guid.{Guid}
use Rattle.bk_ids.specs.Name.{same_name, lowered}
use Rattle.bk_world.specs.History.{is_guid}

pub is_guid-refl : (g : Guid) → is_guid g g ≡ true
is_guid-refl g = grind (arith, nat_tests)

pub same_name-refl : (name : List ℕ) → same_name name name ≡ true
same_name-refl name = (bytes_eq-Decides (lowered name) (lowered name)).1 refl
