-- The data extents of files, one after the other.
use Rattle.std.proofs.Common.{◌≡◌, ◌<◌, ◌≤◌, ℕ, suc, ◌+◌, ◌-◌, List, [], ◌∷◌, ◌++◌, refl, sym, ◌∙◌, ap, append_assoc, arith}
use Rattle.std.proofs.lemmas.List.{append-nil}
use Rattle.bk_ids.specs.declared.record.ExtentId.{ExtentId}
use Rattle.bk_machine.specs.statements.Backup.{extents_from}

pub extents-first : (old : List ExtentId) (file count : ℕ) → old ++ extents_from file (0 + 1) (count - 0) ≡ old ++ extents_from file 1 count
extents-first old file count = let same : count - 0 ≡ count = omega arith in ap (λ (n : ℕ). old ++ extents_from file 1 n) same

pub extents-more : (items new all : List ExtentId) (file count i : ℕ) → i < count → items ++ extents_from file (i + 1) (count - i) ≡ all → new ≡ items ++ (record { file = file; extent = i + 1 }) ∷ []
    → new ++ extents_from file ((i + 1) + 1) (count - (i + 1)) ≡ all
extents-more items new all file count i lt is more =
    let one : count - i ≡ suc (count - (i + 1)) = omega (arith, lt) in
    let rest : List ExtentId = extents_from file ((i + 1) + 1) (count - (i + 1)) in
    ap (λ (es : List ExtentId). es ++ rest) more
    ∙ append_assoc items ((record { file = file; extent = i + 1 }) ∷ []) rest
    ∙ ap (λ (n : ℕ). items ++ extents_from file (i + 1) n) (sym one)
    ∙ is

pub extents-last : (items all : List ExtentId) (file count i : ℕ) → count ≤ i → items ++ extents_from file (i + 1) (count - i) ≡ all → items ≡ all
extents-last items all file count i le is =
    let none : count - i ≡ 0 = omega (arith, le) in
    sym (append-nil items) ∙ ap (λ (n : ℕ). items ++ extents_from file (i + 1) n) (sym none) ∙ is
