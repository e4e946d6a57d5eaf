-- The page that a formatted one holds.
use Rattle.std.proofs.Common.{◌≡◌, ◌≤◌, ◌<◌, ◌^◌, ℕ, zero, suc, ◌+◌, List, ◌∷◌, map, refl, ap₂, ◌∙◌, arith}
use Rattle.std.specs.Prelude.{replicate}
use Rattle.std.specs.List.{range_with_len}
use Rattle.bk_page.specs.Page.{lsn_of, cell_at, fresh_page}
use Rattle.bk_page.specs.Changes.{IsFresh}
use Rattle.bk_page.specs.Laws.{fresh_page-fresh}
use Rattle.bk_redo.specs.PageStates.{PageState, free_cell, fresh, cells_of, page_of}

-- a function that has one value from a number on
map_same : {X : Type 0} (f : ℕ → X) (value : X) (from n : ℕ) → ((k : ℕ) → from ≤ k → k < from + n → f k ≡ value) → map f (range_with_len from n) ≡ replicate n value
map_same f value from zero each = refl
map_same {X = X} f value from (suc n) each =
    ap₂ (λ (x : X) (xs : List X). x ∷ xs) (each from (omega arith) (omega arith)) (map_same f value (from + 1) n (λ k low high. each k (omega arith) (omega arith)))

free-cell : replicate 128 0 ≡ free_cell
unfolding free_cell
free-cell = refl

cells-fresh : (bytes : List ℕ) → ((slot : ℕ) → slot < 63 → cell_at bytes slot ≡ free_cell) → cells_of bytes ≡ replicate 63 free_cell
unfolding cells_of
cells-fresh bytes free = map_same (cell_at bytes) free_cell 0 63 (λ k low high. free k (omega arith))

made_fresh : (lsn : ℕ) (cells : List (List ℕ)) → lsn ≡ 0 → cells ≡ replicate 63 free_cell → (let page : PageState = record { lsn = lsn; cells = cells } in page ≡ fresh)
unfolding fresh
made_fresh lsn cells none free = ap₂ (λ (n : ℕ) (cs : List (List ℕ)). let page : PageState = record { lsn = n; cells = cs } in page) none free

pub page_of-fresh_page : (file number : ℕ) → file < 2 ^ 16 → number < 2 ^ 32 → page_of (fresh_page file number) ≡ fresh
page_of-fresh_page file number file_fits number_fits =
    let is : IsFresh (fresh_page file number) file number = fresh_page-fresh file number file_fits number_fits in
    made_fresh (lsn_of (fresh_page file number)) (cells_of (fresh_page file number)) is.lsn
    (cells-fresh (fresh_page file number) (λ slot low. is.cells slot low ∙ free-cell))
