-- What the layers above may take of cells that are written into the bytes of a page.
use Rattle.std.proofs.Common.{◌≡◌, ◌≢◌, ◌<◌, ◌^◌, ℕ, zero, suc, ◌+◌, ◌*◌, List, ◌∷◌, ◌++◌, length, map, set, get_or, refl, ap, ap₂, subst, ◌∙◌, sym, ⊎_elim, arith}
use Rattle.std.specs.Prelude.{nat_lt}
use Rattle.std.specs.List.{range_with_len}
use Rattle.std.proofs.lemmas.Bool.{cases_eq, cond-true, lt-ltb}
use Rattle.std.proofs.lemmas.List.{same_lists, length-set, get_or-set_same, get_or-set_other}
use Rattle.std.proofs.lemmas.List.FromFn.{length-map-range_with_len, get_or-map-range_with_len}
use Rattle.bk_page.specs.Page.{part, lsn_of, cell_at, with_lsn, with_cell}
use Rattle.bk_page.specs.Changes.{WritesCell, WritesLsn, SameCells}
use Rattle.bk_page.specs.Laws.{with_cell-writes, with_lsn-writes}
use Rattle.bk_page.specs.PartLaws.{part-with_field_before, part-with_field_after}
use Rattle.bk_bytes.specs.Field.{bytes_of}
use Rattle.bk_bytes.specs.FieldLaws.{length-bytes_of}
use Rattle.bk_redo.specs.PageStates.{PageState, cells_of, page_of}
use Rattle.bk_redo.specs.Frames.{Becomes, cell_redone, unused_bytes}

-- a function of the first n numbers with another value at one of them
map_other : {X : Type 0} (f g : ℕ → X) (n i : ℕ) (value : X) → g i ≡ value → ((k : ℕ) → k < n → k ≢ i → g k ≡ f k) → map g (range_with_len 0 n) ≡ set (map f (range_with_len 0 n)) i value
map_other {X = X} f g n i value here others =
    let fs : List X = map f (range_with_len 0 n) in
    let gs : List X = map g (range_with_len 0 n) in
    let f_size : length fs ≡ n = length-map-range_with_len f 0 n in
    let g_size : length gs ≡ n = length-map-range_with_len g 0 n in
    same_lists gs (set fs i value) (g_size ∙ sym f_size ∙ sym (length-set fs i value)) (λ k d low.
    let within : k < n = omega arith in
    let g_at : get_or gs k d ≡ g k = get_or-map-range_with_len g 0 n k k d within (omega arith) in
    let f_at : get_or fs k d ≡ f k = get_or-map-range_with_len f 0 n k k d within (omega arith) in
    ⊎_elim
    (λ (same : k ≡ i). g_at ∙ ap g same ∙ here ∙ sym (ap (λ (j : ℕ). get_or (set fs i value) j d) same ∙ get_or-set_same fs i value d (omega arith)))
    (λ (apart : k ≢ i). g_at ∙ others k within apart ∙ sym f_at ∙ sym (get_or-set_other fs i k value d apart))
    (cases_eq k i))

map_same : {X : Type 0} (f g : ℕ → X) (from n : ℕ) → ((k : ℕ) → k < from + n → g k ≡ f k) → map g (range_with_len from n) ≡ map f (range_with_len from n)
map_same f g from zero each = refl
map_same {X = X} f g from (suc n) each = ap₂ (λ (x : X) (xs : List X). x ∷ xs) (each from (omega arith)) (map_same f g (from + 1) n (λ k low. each k (omega arith)))

cells-set : (old new : List ℕ) (slot : ℕ) (image : List ℕ) → WritesCell old new slot image → cells_of new ≡ set (cells_of old) slot image
unfolding cells_of
cells-set old new slot image written = map_other (cell_at old) (cell_at new) 63 slot image written.cell (λ k low apart. written.others k low apart)

cells-same : (old new : List ℕ) → SameCells old new → cells_of new ≡ cells_of old
unfolding cells_of
cells-same old new same = map_same (cell_at old) (cell_at new) 0 63 (λ k low. same k (omega arith))

-- each part that tells nothing stays
unused-same : (old new : List ℕ) → part new 14 18 ≡ part old 14 18 → part new 64 32 ≡ part old 64 32 → part new 8160 32 ≡ part old 8160 32 → unused_bytes new ≡ unused_bytes old
unfolding unused_bytes
unused-same old new first second third = ap₂ (λ (a b : List ℕ). a ++ b) (ap₂ (λ (a b : List ℕ). a ++ b) first second) third

unused-with_cell : (old image : List ℕ) (slot : ℕ) → length old ≡ 8192 → length image ≡ 128 → slot < 63 → unused_bytes (with_cell old slot image) ≡ unused_bytes old
unused-with_cell old image slot size image_size low =
    let at : ℕ = 96 + 128 * slot in
    unused-same old (with_cell old slot image)
    (part-with_field_before old at image 14 18 (omega arith) (omega arith))
    (part-with_field_before old at image 64 32 (omega arith) (omega arith))
    (part-with_field_after old at image 8160 32 (omega arith) (omega arith))

unused-with_lsn : (old : List ℕ) (lsn : ℕ) → length old ≡ 8192 → unused_bytes (with_lsn old lsn) ≡ unused_bytes old
unused-with_lsn old lsn size =
    let field : List ℕ = bytes_of 8 lsn in
    let len : length field ≡ 8 = length-bytes_of 8 lsn in
    unused-same old (with_lsn old lsn)
    (part-with_field_after old 0 field 14 18 (omega arith) (omega arith))
    (part-with_field_after old 0 field 64 32 (omega arith) (omega arith))
    (part-with_field_after old 0 field 8160 32 (omega arith) (omega arith))

-- a cell, and then the number
pub becomes_written : (old image : List ℕ) (slot lsn : ℕ) → length old ≡ 8192 → length image ≡ 128 → slot < 63 → lsn < 2 ^ 64
    → Becomes old (record { lsn = lsn; cells = set (cells_of old) slot image }) (with_lsn (with_cell old slot image) lsn)
becomes_written old image slot lsn size image_size low fits =
    let mid : List ℕ = with_cell old slot image in
    let first : WritesCell old mid slot image = with_cell-writes old image slot size image_size low in
    let second : WritesLsn mid (with_lsn mid lsn) lsn = with_lsn-writes mid lsn first.size fits in
    let cells : cells_of (with_lsn mid lsn) ≡ set (cells_of old) slot image = cells-same mid (with_lsn mid lsn) second.cells ∙ cells-set old mid slot image first in
    record {
      held = ap₂ (λ (n : ℕ) (cs : List (List ℕ)). let page : PageState = record { lsn = n; cells = cs } in page) second.lsn cells;
      place = record { number = second.place.number ∙ first.place.number; file = second.place.file ∙ first.place.file };
      digest = second.digest ∙ first.digest;
      unused = unused-with_lsn mid lsn first.size ∙ unused-with_cell old image slot size image_size low;
    }

-- a page with a lower number
pub becomes_redone : (old image : List ℕ) (slot lsn : ℕ) → length old ≡ 8192 → length image ≡ 128 → slot < 63 → lsn < 2 ^ 64 → lsn_of old < lsn
    → Becomes old (cell_redone slot image lsn (page_of old)) (with_lsn (with_cell old slot image) lsn)
becomes_redone old image slot lsn size image_size low fits older =
    let written : PageState = record { lsn = lsn; cells = set (cells_of old) slot image } in
    subst (λ (page : PageState). Becomes old page (with_lsn (with_cell old slot image) lsn))
    (sym (cond-true (nat_lt (lsn_of old) lsn) written (page_of old) (lt-ltb (lsn_of old) lsn older)))
    (becomes_written old image slot lsn size image_size low fits)
