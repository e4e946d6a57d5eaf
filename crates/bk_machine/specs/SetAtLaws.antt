-- A set that is found at a position of a medium is one of it.
use Rattle.std.proofs.Common.{◌≡◌, ℕ, zero, suc, List, [], ◌∷◌, length, Option, None, Some, subst, arith}
use Rattle.std.specs.Prelude.{Contains, Ok, slice_get}
use Rattle.bk_world.specs.declared.header.Header.{Header}
use Rattle.bk_world.specs.declared.rule.Rule.TheVariants.{NoSuchSet}
use Rattle.bk_world.specs.Medium.{Reading, Slot, damaged, medium, medium_at, no_set, not_media, readable}
use Rattle.bk_machine.specs.CheckLaws.{passed, was-found}
use Rattle.bk_machine.specs.Checks.{or_refuse}
use Rattle.bk_machine.specs.Sound.{SetIn}
use Rattle.bk_machine.specs.World.{World}
use Rattle.bk_machine.specs.statements.Restore.{read_slot, set_at, slot_at, slots_of}

-- a slot at a place of some is one of them
there-at : (slots : List Slot) (i : ℕ) (slot : Slot) → slice_get slots i ≡ Some slot → Contains slots slot
there-at [] i slot e = absurd cc
there-at (s ∷ slots) zero slot e = let same : s ≡ slot = cc in (zero, omega arith, same)
there-at (s ∷ slots) (suc i) slot e = let rest : Contains slots slot = there-at slots i slot e in (suc rest.0, omega (arith, rest.1), rest.2)

slot-there : (slots : List Slot) (n : ℕ) (slot : Slot) → slot_at slots n ≡ Some slot → Contains slots slot
slot-there slots zero slot e = absurd cc
slot-there slots (suc n) slot e = there-at slots n slot e

was-read : (slot : Slot) (header : Header) → read_slot slot ≡ Ok header → slot ≡ readable header
was-read (readable h) header e = cc
was-read (damaged stored found) header e = absurd cc
was-read no_set header e = absurd cc

had-slots : (o : Option Reading) (slots : List Slot) → slots_of o ≡ Ok slots → o ≡ Some (medium slots)
had-slots None slots e = absurd cc
had-slots (Some not_media) slots e = absurd cc
had-slots (Some (medium there)) slots e = cc

pub set-in : (w : World) (path : List ℕ) (n : ℕ) (header : Header) → set_at n (medium_at w.media path) ≡ Ok header → SetIn w path header
unfolding set_at
set-in w path n header e =
    let one = passed (slots_of (medium_at w.media path)) _ header e in
    let two = passed (or_refuse (slot_at one.found n) (NoSuchSet n (length one.found))) _ header one.then in
    let is : two.found ≡ readable header = was-read two.found header two.then in
    let there : Contains one.found two.found = slot-there one.found n two.found (was-found (slot_at one.found n) (NoSuchSet n (length one.found)) two.found two.is) in
    (one.found, had-slots (medium_at w.media path) one.found one.is, subst (λ (s : Slot). Contains one.found s) is there)
