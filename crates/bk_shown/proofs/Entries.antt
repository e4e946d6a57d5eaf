-- Entries of rows, and the committed rows among them.
use Rattle.std.proofs.Common.{◌≡◌, Bool, true, false, cond, List, [], ◌∷◌, ℕ, Option, Some, None, refl, sym, ◌∙◌, ap, subst}
use Rattle.std.specs.Prelude.{◌||◌, is_some}
use Rattle.std.specs.List.{AllByRecursion}
use Rattle.std.specs.List.Sorted.{IsStrictlySortedBy}
use Rattle.std.specs.BTreeMap.{is_at}
use Rattle.std.specs.Map.{keys_of, lookup}
use Rattle.std.specs.Ordering.{is_eq}
use Rattle.std.specs.declared.cmp.Ordering.{Ordering}
use Rattle.std.specs.declared.cmp.Ordering.TheVariants.{Less}
use Rattle.bk_groups.specs.Groups.{row_cmp}
use Rattle.bk_world.specs.Records.{RowId, is_row}
use Rattle.bk_world.specs.RowLaws.{row-same}
use Rattle.bk_shown.specs.Rows.{Reserves, RowEntries, RowValues, SetsEntry, committed_of, entry_among, has_entry, held, value_among, with_value}
use Rattle.bk_shown.proofs.MapKeys.{same_row}

-- the value of a row among committed ones
abbrev pub value_in : RowValues → RowId → Option (List ℕ)
value_in rows id = lookup (is_at (row_cmp id)) rows

-- ---- a row whose entry is set

held-cond : (t : Bool) (a b : Option (Option (List ℕ))) → held (cond t a b) ≡ cond t (held a) (held b)
held-cond true a b = refl
held-cond false a b = refl

some-cond : (t : Bool) (a b : Option (Option (List ℕ))) → is_some (cond t a b) ≡ cond t (is_some a) (is_some b)
some-cond true a b = refl
some-cond false a b = refl

pub value-set : (old new : RowEntries) (id : RowId) (entry : Option (Option (List ℕ))) → SetsEntry old new id entry → (other : RowId)
    → value_among new other ≡ cond (is_row id other) (held entry) (value_among old other)
value-set old new id entry sets other = ap held (sets other) ∙ held-cond (is_row id other) entry (entry_among old other)

pub entry-set : (old new : RowEntries) (id : RowId) (entry : Option (Option (List ℕ))) → SetsEntry old new id entry → (other : RowId)
    → has_entry new other ≡ cond (is_row id other) (is_some entry) (has_entry old other)
entry-set old new id entry sets other = ap is_some (sets other) ∙ some-cond (is_row id other) entry (entry_among old other)

-- a row gets an entry and isn't committed
pub reserves : (old new : RowEntries) (id : RowId) → has_entry old id ≡ false → SetsEntry old new id (Some None) → Reserves id old new
reserves old new id none sets = record {
  values = λ other. value-set old new id (Some None) sets other ∙ value other (is_row id other) refl;
  entries = λ other. entry-set old new id (Some None) sets other ∙ entry (is_row id other) (has_entry old other);
}
  where
    gone : (e : Option (Option (List ℕ))) → is_some e ≡ false → None ≡ held e
    gone None e = refl
    gone (Some v) e = absurd (cc)

    value : (other : RowId) (t : Bool) → is_row id other ≡ t → cond t None (value_among old other) ≡ value_among old other
    value other true is = gone (entry_among old id) none ∙ ap (value_among old) (row-same id other is)
    value other false isnt = refl

    entry : (t b : Bool) → cond t true b ≡ (t || b)
    entry true b = refl
    entry false b = refl

-- ---- the committed rows

passed-on : (P : RowId → Type 0) (es : RowEntries) → AllByRecursion P (keys_of es) → AllByRecursion P (keys_of (committed_of es))
passed-on P [] all = tt
passed-on P (e ∷ es) all = by e.1 (passed-on P es all.1)
  where
    by : (v : Option (List ℕ)) → AllByRecursion P (keys_of (committed_of es)) → AllByRecursion P (keys_of (with_value e.0 v (committed_of es)))
    by None rest = rest
    by (Some value) rest = (all.0, rest)

pub committed-sorted : (es : RowEntries) → IsStrictlySortedBy row_cmp (keys_of es) → IsStrictlySortedBy row_cmp (keys_of (committed_of es))
unfolding IsStrictlySortedBy
committed-sorted [] sorted = tt
committed-sorted (e ∷ es) sorted = by e.1 (committed-sorted es sorted.1)
  where
    by : (v : Option (List ℕ)) → IsStrictlySortedBy row_cmp (keys_of (committed_of es)) → IsStrictlySortedBy row_cmp (keys_of (with_value e.0 v (committed_of es)))
    by None rest = rest
    by (Some value) rest = (passed-on (λ (r : RowId). row_cmp e.0 r ≡ Less) es sorted.0, rest)

absent : (k : RowId) (es : RowEntries) → AllByRecursion (λ (r : RowId). row_cmp k r ≡ Less) (keys_of es) → entry_among es k ≡ None
absent k [] all = refl
absent k (e ∷ es) all = ap (λ (o : Ordering). cond (is_eq o) (Some e.1) (entry_among es k)) all.0 ∙ absent k es all.1

pub committed-values : (es : RowEntries) → IsStrictlySortedBy row_cmp (keys_of es) → (id : RowId) → value_in (committed_of es) id ≡ value_among es id
unfolding IsStrictlySortedBy
committed-values [] sorted id = refl
committed-values (e ∷ es) sorted id = by e.1 (is_at (row_cmp id) e.0) refl (committed-values es sorted.1 id)
  where
    by : (v : Option (List ℕ)) (t : Bool) → is_at (row_cmp id) e.0 ≡ t → value_in (committed_of es) id ≡ value_among es id
        → value_in (with_value e.0 v (committed_of es)) id ≡ held (cond t (Some v) (entry_among es id))
    by (Some value) true is rest = ap (λ b. cond b (Some value) (value_in (committed_of es) id)) is
    by (Some value) false isnt rest = ap (λ b. cond b (Some value) (value_in (committed_of es) id)) isnt ∙ rest
    by None false isnt rest = rest
    by None true is rest =
        rest ∙ ap held (absent id es (subst (λ (k : RowId). AllByRecursion (λ (r : RowId). row_cmp k r ≡ Less) (keys_of es)) (sym (same_row id e.0 is)) sorted.0))
