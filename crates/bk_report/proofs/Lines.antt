-- The lines of the rows of a list, one by one.
use Rattle.std.proofs.Common.{◌≡◌, ◌+◌, ℕ, zero, suc, List, [], ◌∷◌, ◌++◌, take, drop, flat_map, Some, sym, ap, ◌∙◌, append_assoc, add-one}
use Rattle.std.proofs.lemmas.Grind.{flat_map-append}
use Rattle.std.proofs.lemmas.List.{append-nil}
use Rattle.std.specs.Prelude.{slice_get}

take-next : {R : Type 0} (rows : List R) (i : ℕ) (row : R) → slice_get rows i ≡ Some row → take (i + 1) rows ≡ take i rows ++ row ∷ []
take-next {R} rows i row there = ap (λ (k : ℕ). take k rows) (add-one i) ∙ by rows i there
  where
    by : (xs : List R) (k : ℕ) → slice_get xs k ≡ Some row → take (suc k) xs ≡ take k xs ++ row ∷ []
    by [] k is = absurd cc
    by (x ∷ xs) zero is = let same : x ≡ row = cc in ap (λ (y : R). y ∷ []) same
    by (x ∷ xs) (suc k) is = ap (λ (ys : List R). x ∷ ys) (by xs k is)

drop-next : {R : Type 0} (rows : List R) (i : ℕ) (row : R) → slice_get rows i ≡ Some row → drop i rows ≡ row ∷ drop (i + 1) rows
drop-next {R} rows i row there = by rows i there ∙ ap (λ (k : ℕ). row ∷ drop k rows) (sym (add-one i))
  where
    by : (xs : List R) (k : ℕ) → slice_get xs k ≡ Some row → drop k xs ≡ row ∷ drop (suc k) xs
    by [] k is = absurd cc
    by (x ∷ xs) zero is = let same : x ≡ row = cc in ap (λ (y : R). y ∷ xs) same
    by (x ∷ xs) (suc k) is = by xs k is

-- the line of one row more
pub front-next : {R : Type 0} (line : R → List ℕ) (rows : List R) (i : ℕ) (row : R) → slice_get rows i ≡ Some row → (text longer : List ℕ) → text ≡ flat_map line (take i rows)
    → longer ≡ text ++ line row → longer ≡ flat_map line (take (i + 1) rows)
front-next {R} line rows i row there text longer before more =
    let front = take i rows in
    let all : flat_map line (take (i + 1) rows) ≡ flat_map line front ++ line row =
    ap (λ (xs : List R). flat_map line xs) (take-next rows i row there) ∙ flat_map-append line front (row ∷ [])
    ∙ ap (λ last. flat_map line front ++ last) (append-nil (line row)) in
    more ∙ ap (λ t. t ++ line row) before ∙ sym all

-- and where rows are numbered from 1
pub numbered-next : {R : Type 0} (line : ℕ → R → List ℕ) (lines : ℕ → List R → List ℕ) → ((id : ℕ) (row : R) (rows : List R) → lines id (row ∷ rows) ≡ line id row ++ lines (id + 1) rows)
    → (rows : List R) (i : ℕ) (row : R) → slice_get rows i ≡ Some row → (text longer all : List ℕ) → text ++ lines (i + 1) (drop i rows) ≡ all
    → longer ≡ text ++ line (i + 1) row → longer ++ lines (i + 1 + 1) (drop (i + 1) rows) ≡ all
numbered-next {R} line lines first rows i row there text longer all before more =
    let rest = drop (i + 1) rows in
    ap (λ t. t ++ lines (i + 1 + 1) rest) more ∙ append_assoc text (line (i + 1) row) (lines (i + 1 + 1) rest)
    ∙ ap (λ behind. text ++ behind) (sym (ap (λ (xs : List R). lines (i + 1) xs) (drop-next rows i row there) ∙ first (i + 1) row rest)) ∙ before
