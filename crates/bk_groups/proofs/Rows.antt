-- When rows compare as equal; what a free cell is, and that empty groups are sound.
use Rattle.std.proofs.Common.{◌≡◌, ℕ, ◌<◌, ◌^◌, Bool, true, List, [], length, Option, Some, None, sym, ap, subst, ◌∙◌, arith, ⊎_elim, MatchOption, IfSome}
use Rattle.std.specs.Prelude.{◌==◌, ◌&&◌, ◌↔◌, IsTrue}
use Rattle.std.specs.Ordering.{nat_cmp, ordering_then, is_eq}
use Rattle.std.specs.declared.cmp.Ordering.{Ordering}
use Rattle.std.specs.declared.cmp.Ordering.TheVariants.{Equal}
use Rattle.std.specs.BTreeMap.{is_at}
use Rattle.std.proofs.lemmas.Bool.{cases_Bool, and_from, and_parts, eq-eqb, eqb-true, false_from_ne_true, both_ways}
use Rattle.std.proofs.lemmas.List.{length-map}
use Rattle.bk_ids.specs.declared.record.Place.{Place}
use Rattle.bk_world.specs.declared.database.FileSpec.{FileSpec}
use Rattle.bk_world.specs.LemmasTests.{nat_cmp-same}
use Rattle.bk_groups.specs.FileSpace.{FileSpace}
use Rattle.bk_groups.specs.Groups.{Space, IsCell, IsFreeCell, LiesIn, row_cmp, place_among, group_of, untouched_room}
use Rattle.bk_groups.specs.Sound.{IsSound, AreFree, bit_at_place, room_of, rooms_of}
use Rattle.bk_groups.proofs.Agreement.{same_row}

-- the test of a map's key
pub is_at-row_cmp : (row other : ℕ × ℕ) → is_at (row_cmp row) other ≡ (other.0 == row.0 && other.1 == row.1)
is_at-row_cmp row other = ⊎_elim
    (λ yes.
    let e : row ≡ other = same_row row other yes in
    yes ∙ sym (and_from _ _ (eq-eqb other.0 row.0 (ap (λ (r : ℕ × ℕ). r.0) (sym e))) (eq-eqb other.1 row.1 (ap (λ (r : ℕ × ℕ). r.1) (sym e)))))
    (λ no. no ∙ sym (false_from_ne_true _ (λ both.
    let parts = and_parts _ _ both in
    let table : nat_cmp row.0 other.0 ≡ Equal = nat_cmp-same row.0 other.0 (sym (eqb-true _ _ parts.0)) in
    let key : nat_cmp row.1 other.1 ≡ Equal = nat_cmp-same row.1 other.1 (sym (eqb-true _ _ parts.1)) in
    let yes : is_at (row_cmp row) other ≡ true = ap (λ (o : Ordering). is_eq (ordering_then o (nat_cmp row.1 other.1))) table ∙ ap is_eq key in
    both_ways _ no yes)))
    (cases_Bool (is_at (row_cmp row) other))

-- what the files say of a free cell, as callers see it
pub free_cell-found : (files : List FileSpace) (tables : List (ℕ × ℕ)) (places : List ((ℕ × ℕ) × Place)) (space : Space) (table group : ℕ) → IsSound files places
    → record { rooms = rooms_of files; tables = tables; places = places } ≡ space
    → Some group ≡ group_of space table
    → (found : Option Place)
    → MatchOption found
    ((at : Place) → LiesIn (rooms_of files) group at → bit_at_place files at ≡ 0)
    (λ at. LiesIn (rooms_of files) group at × (bit_at_place files at ≡ 1))
    → MatchOption found
    (IfSome (group_of space table) (λ g. (at : Place) → LiesIn space.rooms g at → ¬ IsFreeCell space at))
    (λ at. IsFreeCell space at × IfSome (group_of space table) (λ g. LiesIn space.rooms g at))
free_cell-found files tables places space table group sound view is None none =
    let rooms : rooms_of files ≡ space.rooms = ap (λ (s : Space). s.rooms) view in
    let same : places ≡ space.places = ap (λ (s : Space). s.places) view in
    subst (λ g. IfSome g (λ g. (at : Place) → LiesIn space.rooms g at → ¬ IsFreeCell space at)) is
    (λ at lies free.
    let here : LiesIn (rooms_of files) group at = subst (λ r. LiesIn r group at) (sym rooms) lies in
    let one = sound.agrees.free at here.0 (λ row e. free row.0 row.1 (ap (λ ps. place_among ps row) (sym same) ∙ e)) in
    let zero_bit = none at here in
    absurd (omega arith))
free_cell-found files tables places space table group sound view is (Some at) found =
    let rooms : rooms_of files ≡ space.rooms = ap (λ (s : Space). s.rooms) view in
    let same : places ≡ space.places = ap (λ (s : Space). s.places) view in (
      (λ t k e.
          let taken = sound.agrees.taken (t, k) at (ap (λ ps. place_among ps (t, k)) same ∙ e) in
          let one = found.1 in
          absurd (omega arith)),
      subst (λ g. IfSome g (λ g. LiesIn space.rooms g at)) is (subst (λ r. LiesIn r group at) rooms found.0),
    )

-- groups without rows
pub IsSound-new : (specs : List FileSpec) (files : List FileSpace) (places : List ((ℕ × ℕ) × Place)) → length specs < 2 ^ 16 → AreFree specs files → places ≡ []
    → IsSound files places
IsSound-new specs files places few free empty =
    let nobody : (row : ℕ × ℕ) (at : Place) → place_among places row ≡ Some at → ⊥ =
    λ row at e. let clash : None ≡ Some at = sym (ap (λ ps. place_among ps row) empty) ∙ e in cc in
    record {
      few = omega (arith, few, length-map files room_of, length-map specs untouched_room, ap length free.rooms);
      agrees = record {
        cell = λ row at e. absurd (nobody row at e);
        taken = λ row at e. absurd (nobody row at e);
        free = λ at cell no_row. free.bits at cell;
        alone = λ row other at e f. absurd (nobody row at e);
      };
    }

-- the test of a free cell, as callers see it
pub is_free-shown : (files : List FileSpace) (tables : List (ℕ × ℕ)) (places : List ((ℕ × ℕ) × Place)) (space : Space) (at : Place) (r : Bool) → IsSound files places
    → record { rooms = rooms_of files; tables = tables; places = places } ≡ space
    → (IsTrue r ↔ (IsCell (rooms_of files) at × (bit_at_place files at ≡ 1)))
    → (IsTrue r ↔ (IsCell space.rooms at × IsFreeCell space at))
is_free-shown files tables places space at r sound view iff =
    let rooms : rooms_of files ≡ space.rooms = ap (λ (s : Space). s.rooms) view in
    let same : places ≡ space.places = ap (λ (s : Space). s.places) view in (
      (λ yes.
          let found = iff.0 yes in (
            subst (λ c. IsCell c at) rooms found.0,
            λ t k e.
                let taken = sound.agrees.taken (t, k) at (ap (λ ps. place_among ps (t, k)) same ∙ e) in
                let one = found.1 in
                absurd (omega arith),
          )),
      λ shown.
          let cell : IsCell (rooms_of files) at = subst (λ c. IsCell c at) (sym rooms) shown.0 in
          iff.1 (cell, sound.agrees.free at cell (λ row e. shown.1 row.0 row.1 (ap (λ ps. place_among ps row) (sym same) ∙ e))),
    )
