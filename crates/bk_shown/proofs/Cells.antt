-- The row that two cells spell is the one that is read from them.
use Rattle.std.proofs.Common.{◌≡◌, ℕ, ◌<◌, ◌≤◌, ◌^◌, true, List, [], ◌++◌, Option, Some, None, refl, sym, ap, ◌∙◌, arith}
use Rattle.std.specs.Prelude.{◌||◌, is_some}
use Rattle.std.specs.Option.{option_or}
use Rattle.bk_bytes.specs.Cell.{Row, IsCellValue, cell_bytes, cell_form}
use Rattle.bk_bytes.specs.CellLaws.{cell_form-IsCodec, cell_form-Fits, cell_form-spelling}
use Rattle.bk_bytes.specs.CodecLaws.{one_spelling}
use Rattle.bk_undo.specs.Spelled.{cell}
use Rattle.bk_shown.specs.Values.{IsValue, IsTextOf, id_in}

cell-one : (a b : Option Row) → IsCellValue a → IsCellValue b → cell_bytes a ≡ cell_bytes b → a ≡ b
cell-one a b fits_a fits_b same =
    (one_spelling cell_form cell_form-IsCodec a b [] [] (cell_form-Fits a fits_a) (cell_form-Fits b fits_b)
    (ap (λ (bytes : List ℕ). bytes ++ []) (cell_form-spelling a ∙ same ∙ sym (cell_form-spelling b)))).0

fits-cell : (table key : ℕ) (value : Option (List ℕ)) → table < 2 ^ 32 → key ≤ 9223372036854775807 → IsValue value → IsCellValue (cell table key value)
fits-cell table key None t k v = tt
fits-cell table key (Some text) t k v = let low : key < 2 ^ 64 = omega (arith, k) in record { table = t; key = low; value = v.0 }

-- the cell that is read from the bytes of a row is the row's
pub read-one : (bytes : List ℕ) (found : Option Row) (table key : ℕ) (value : Option (List ℕ)) → IsCellValue found → bytes ≡ cell_bytes found → table < 2 ^ 32 → key ≤ 9223372036854775807
    → IsValue value → bytes ≡ cell_bytes (cell table key value) → found ≡ cell table key value
read-one bytes found table key value fits is t k v spelled = cell-one found (cell table key value) fits (fits-cell table key value t k v) (sym is ∙ spelled)

-- and the value that is taken from it is the row's
pub value-one : (table key : ℕ) (value found : Option (List ℕ)) → IsValue value → IsTextOf (cell table key value) found → found ≡ value
value-one table key None found v e = e
value-one table key (Some text) found v e = e v.1

-- the row of the one cell or the other
pub either-none : (table key : ℕ) (b v : Option (List ℕ)) → (is_some b || is_some v) ≡ true → (old new : Option Row) → old ≡ cell table key b → new ≡ cell table key v
    → option_or (id_in new) (id_in old) ≡ None → ⊥
either-none table key b v there old new is_old is_new none = by b v there (ap (λ (o : Option Row). option_or (id_in o) (id_in (cell table key b))) (sym is_new) ∙ ap (λ (o : Option Row). option_or (id_in new) (id_in o)) (sym is_old) ∙ none)
  where
    by : (b v : Option (List ℕ)) → (is_some b || is_some v) ≡ true → option_or (id_in (cell table key v)) (id_in (cell table key b)) ≡ None → ⊥
    by None None there e = absurd (cc)
    by None (Some y) there e = absurd (cc)
    by (Some x) None there e = absurd (cc)
    by (Some x) (Some y) there e = absurd (cc)

pub either-some : (table key : ℕ) (b v : Option (List ℕ)) → (is_some b || is_some v) ≡ true → (old new : Option Row) → old ≡ cell table key b → new ≡ cell table key v
    → option_or (id_in new) (id_in old) ≡ Some (table, key)
either-some table key b v there old new is_old is_new =
    ap (λ (o : Option Row). option_or (id_in o) (id_in old)) is_new ∙ ap (λ (o : Option Row). option_or (id_in (cell table key v)) (id_in o)) is_old ∙ by b v there
  where
    by : (b v : Option (List ℕ)) → (is_some b || is_some v) ≡ true → option_or (id_in (cell table key v)) (id_in (cell table key b)) ≡ Some (table, key)
    by None None there = absurd (cc)
    by None (Some y) there = refl
    by (Some x) None there = refl
    by (Some x) (Some y) there = refl
