-- When the keys of the map of rows compare as equal.
use Rattle.std.proofs.Common.{◌≡◌, true, sym, ap, ◌∙◌, ⊎_elim}
use Rattle.std.specs.Ordering.{nat_cmp, ordering_then, is_eq}
use Rattle.std.specs.declared.cmp.Ordering.{Ordering}
use Rattle.std.specs.declared.cmp.Ordering.TheVariants.{Equal}
use Rattle.std.specs.BTreeMap.{is_at}
use Rattle.std.proofs.lemmas.Bool.{cases_Bool, and_from, and_parts, eq-eqb, eqb-true, false_from_ne_true, both_ways}
use Rattle.std.proofs.lemmas.Map.Lookups.{exact_pairs, exact_unsigned}
use Rattle.bk_groups.specs.Groups.{row_cmp}
use Rattle.bk_world.specs.Records.{RowId, is_row}
use Rattle.bk_lemmas.specs.Tests.{equal_from_is_eq, nat_cmp-same}

-- rows that compare as equal are equal
pub same_row : (id other : RowId) → is_at (row_cmp id) other ≡ true → id ≡ other
same_row id other e = exact_pairs nat_cmp nat_cmp exact_unsigned exact_unsigned id other (equal_from_is_eq (row_cmp id other) e)

-- the test of the map's keys is whether two rows are one
pub key_is : (id other : RowId) → is_at (row_cmp id) other ≡ is_row id other
key_is id other = ⊎_elim
    (λ yes.
    let e : id ≡ other = same_row id other yes in
    yes ∙ sym (and_from _ _ (eq-eqb id.0 other.0 (ap (λ (r : RowId). r.0) e)) (eq-eqb id.1 other.1 (ap (λ (r : RowId). r.1) e))))
    (λ no. no ∙ sym (false_from_ne_true _ (λ both.
    let parts = and_parts _ _ both in
    let table : nat_cmp id.0 other.0 ≡ Equal = nat_cmp-same id.0 other.0 (eqb-true _ _ parts.0) in
    let key : nat_cmp id.1 other.1 ≡ Equal = nat_cmp-same id.1 other.1 (eqb-true _ _ parts.1) in
    let yes : is_at (row_cmp id) other ≡ true = ap (λ (o : Ordering). is_eq (ordering_then o (nat_cmp id.1 other.1))) table ∙ ap is_eq key in
    both_ways _ no yes)))
    (cases_Bool (is_at (row_cmp id) other))
