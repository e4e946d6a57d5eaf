-- Files of different databases have different names.
use Rattle.std.proofs.Common.{◌≡◌, ◌≢◌, ◌<◌, ◌^◌, ℕ, List, [], ◌∷◌, ◌++◌, drop, get_or, refl, sym, ap, ◌∙◌, inl, inr, arith}
use Rattle.std.specs.Fmt.{decimal}
use Rattle.std.specs.List.{AllByRecursion}
use Rattle.std.specs.Prelude.{Option, Some}
use Rattle.std.specs.Str.Parse.{AllDigits}
use Rattle.std.proofs.lemmas.Fmt.{decimal_injective, decimal_is_IsNumeral}
use Rattle.std.proofs.lemmas.Str.Parse.{tells_digits}
use Rattle.bk_facts.specs.declared.facts.DataFile.{DataFile}
use Rattle.bk_paged.specs.Laws.{file_letter, letter, log_letter, own_letter, side_letter}
use Rattle.bk_paged.specs.Names.{IsOwn, names_of}
use Rattle.bk_segments.specs.Files.{control_file, segment_file, IsOwn as IsOfLog}
use Rattle.bk_side.specs.Names.{IsData, side_file, IsOwn as IsOfSide}
use Rattle.bk_stores.specs.Beside.{AreApart}

-- ---- numbers in names

-- texts without a dash before a dash are the same
same-front : (xs ys us bs : List ℕ) → AllByRecursion (λ (d : ℕ). d ≢ 45) xs → AllByRecursion (λ (d : ℕ). d ≢ 45) ys → xs ++ 45 ∷ us ≡ ys ++ 45 ∷ bs → xs ≡ ys
same-front [] [] us bs apart others same = refl
same-front [] (y ∷ ys) us bs apart others same = absurd (others.0 (sym (ap (λ (l : List ℕ). get_or l 0 0) same)))
same-front (x ∷ xs) [] us bs apart others same = absurd (apart.0 (ap (λ (l : List ℕ). get_or l 0 0) same))
same-front (x ∷ xs) (y ∷ ys) us bs apart others same =
    let first : x ≡ y = ap (λ (l : List ℕ). get_or l 0 0) same in
    let rest : xs ≡ ys = same-front xs ys us bs apart.1 others.1 (ap (drop 1) same) in
    cc

no-dash : (ds : List ℕ) → AllDigits 10 ds → AllByRecursion (λ (d : ℕ). d ≢ 45) ds
no-dash [] all = tt
no-dash (c ∷ cs) all =
    let parts = tells_digits.parts c cs all in
    (λ is. absurd (omega (arith, is, parts.0.0)), no-dash cs parts.1)

digits-only : (n : ℕ) → n < 2 ^ 64 → AllByRecursion (λ (d : ℕ). d ≢ 45) (decimal n)
digits-only n small = no-dash (decimal n) (decimal_is_IsNumeral n small).0.1

control-differs : (db other : ℕ) → db < 2 ^ 64 → other < 2 ^ 64 → control_file db ≡ control_file other → db ≡ other
control-differs db other small other_small same = decimal_injective db other small other_small (ap (drop 2) same)

segment-differs : (db other m n : ℕ) → db < 2 ^ 64 → other < 2 ^ 64 → segment_file db m ≡ segment_file other n → db ≡ other
segment-differs db other m n small other_small same =
    decimal_injective db other small other_small (same-front (decimal db) (decimal other) (decimal m) (decimal n) (digits-only db small) (digits-only other other_small) (ap (drop 2) same))

side-differs : (db other : ℕ) → db < 2 ^ 64 → other < 2 ^ 64 → side_file db ≡ side_file other → db ≡ other
unfolding side_file
side-differs db other small other_small same = decimal_injective db other small other_small (ap (drop 2) same)

-- ---- the names of two logs

logs-apart : (db other : ℕ) (name : List ℕ) → db < 2 ^ 64 → other < 2 ^ 64 → IsOfLog db name → IsOfLog other name → db ≡ other
logs-apart db other name small other_small own its = elim own [
  | inl control ↦ elim its [
    | inl same ↦ control-differs db other small other_small (sym control ∙ same)
    | inr segment ↦ absurd (omega (arith, ap letter (sym control ∙ segment.1)))
  ]
  | inr segment ↦ elim its [
    | inl control ↦ absurd (omega (arith, ap letter (sym segment.1 ∙ control)))
    | inr same ↦ segment-differs db other segment.0 same.0 small other_small (sym segment.1 ∙ same.1)
  ]
]

-- ---- the names of sides

-- a log and the side of another
log-side : (a b : ℕ) (files : List DataFile) (name : List ℕ) → IsOfLog a name → IsOfSide (side_file b) (names_of files) name → ⊥
log-side a b files name log side = elim (log_letter a name log) [
  | inl c ↦ elim (own_letter b files name side) [ inl s ↦ absurd (omega (arith, c, s)) | inr p ↦ absurd (omega (arith, c, p)) ]
  | inr g ↦ elim (own_letter b files name side) [ inl s ↦ absurd (omega (arith, g, s)) | inr p ↦ absurd (omega (arith, g, p)) ]
]

-- the side file of one and a data file of another
side-data : (db : ℕ) (files : List DataFile) → IsData (names_of files) (side_file db) → ⊥
side-data db files data' = absurd (omega (arith, file_letter files data'.0 (side_file db) data'.1, side_letter db))

sides-apart : (db : ℕ) (files : List DataFile) (other : ℕ) (others : List DataFile) → AreApart db files other others → (name : List ℕ) → IsOfSide (side_file db) (names_of files) name → IsOfSide (side_file other) (names_of others) name → ⊥
sides-apart db files other others are name own its = elim own [
  | inl side ↦ elim its [
    | inl same ↦ are.differ (side-differs db other are.small are.other_small (sym side ∙ same))
    | inr data' ↦ side-data db others (data'.0, data'.1 ∙ ap (λ (n : List ℕ). let some : Option (List ℕ) = Some n in some) side)
  ]
  | inr data' ↦ elim its [
    | inl side ↦ side-data other files (data'.0, data'.1 ∙ ap (λ (n : List ℕ). let some : Option (List ℕ) = Some n in some) side)
    | inr same ↦ are.unshared name data' same
  ]
]

-- no name is of two stores
pub own-apart : (db : ℕ) (files : List DataFile) (other : ℕ) (others : List DataFile) → AreApart db files other others → (name : List ℕ) → IsOwn db files name → IsOwn other others name → ⊥
own-apart db files other others are name own its = elim own [
  | inl log ↦ elim its [
    | inl same ↦ are.differ (logs-apart db other name are.small are.other_small log same)
    | inr side ↦ log-side db other others name log side
  ]
  | inr side ↦ elim its [
    | inl log ↦ log-side other db files name log side
    | inr same ↦ sides-apart db files other others are name side same
  ]
]
