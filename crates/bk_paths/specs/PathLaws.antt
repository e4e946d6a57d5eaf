-- Fronts and ends of paths, and records under new numbers.
use Rattle.std.proofs.Common.{◌≡◌, ◌≤◌, ◌<◌, ◌^◌, ℕ, zero, suc, ◌+◌, ◌-◌, List, [], ◌∷◌, ◌++◌, length, take, drop, refl, sym, ◌∙◌, ap, subst, arith}
use Rattle.std.specs.List.{AllByRecursion}
use Rattle.std.proofs.lemmas.List.{take-append-drop, length-take-le}
use Rattle.bk_ids.specs.declared.record.Rec.{Rec}
use Rattle.bk_segments.specs.BatchLaws.{numbered_append, numbered_split}
use Rattle.bk_segments.specs.Records.{Numbered}
use Rattle.bk_redo.specs.RecordSpelling.{IsRecord}
use Rattle.bk_redo.specs.Redo.{RiseFrom}
use Rattle.bk_undo.specs.Losers.{Rises}
use Rattle.bk_lemmas.specs.Lists.{all_joined, all_front}
use Rattle.bk_paths.specs.Paths.{IsPath, end_of, kept_from, numbered}

-- ---- parts of a path

pub path_front : (front back : List Rec) → IsPath (front ++ back) → IsPath front
path_front front back path = record {
  numbered = (numbered_split 1 front back path.numbered).0;
  spelled = all_front IsRecord front back path.spelled;
  begun = all_front (λ (r : Rec). r.begin ≤ r.lsn) front back path.begun;
}

-- what lies behind a front begins at its end
pub path_back : (front back : List Rec) → IsPath (front ++ back) → Numbered (end_of front) back
path_back front back path = subst (λ (n : ℕ). Numbered n back) (omega arith) (numbered_split 1 front back path.numbered).1

pub path_more : (front back : List Rec) → IsPath front → Numbered (end_of front) back → AllByRecursion IsRecord back → AllByRecursion (λ (r : Rec). r.begin ≤ r.lsn) back → IsPath (front ++ back)
path_more front back path numbers spelled begun = record {
  numbered = numbered_append 1 front back path.numbered (subst (λ (n : ℕ). Numbered n back) (omega arith) numbers);
  spelled = all_joined IsRecord front back path.spelled spelled;
  begun = all_joined (λ (r : Rec). r.begin ≤ r.lsn) front back path.begun begun;
}

pub path_take : (k : ℕ) (records : List Rec) → IsPath records → IsPath (take k records)
path_take k records path = path_front (take k records) (drop k records) (subst IsPath (sym (take-append-drop k records)) path)

pub kept_numbers : (records : List Rec) (kept : ℕ) → IsPath records → 1 ≤ kept → kept ≤ end_of records → Numbered kept (kept_from kept records)
kept_numbers records kept path some inside =
    let front : List Rec = take (kept - 1) records in
    let both : IsPath (front ++ kept_from kept records) = subst IsPath (sym (take-append-drop (kept - 1) records)) path in
    let size : length front ≡ kept - 1 = length-take-le (kept - 1) records (omega (arith, some, inside)) in
    subst (λ (n : ℕ). Numbered n (kept_from kept records)) (omega (arith, size, some)) (path_back front (kept_from kept records) both)

-- ---- numbers that follow each other

pub numbers_rise : (n : ℕ) (records : List Rec) → Numbered n records → RiseFrom n records
numbers_rise n [] is = tt
numbers_rise n (r ∷ records) is =
    let From : ℕ → Type 0 = λ m. RiseFrom (m + 1) records in
    (omega (arith, is.0), subst From (sym is.0) (numbers_rise (n + 1) records is.1))

-- all of them lie at the first number or above it, and below their end
pub numbers_least : (n m : ℕ) (records : List Rec) → Numbered n records → m ≤ n → AllByRecursion (λ (r : Rec). m ≤ r.lsn) records
numbers_least n m [] is low = tt
numbers_least n m (r ∷ records) is low = (omega (arith, is.0, low), numbers_least (n + 1) m records is.1 (omega (arith, low)))

pub numbers_below : (n m : ℕ) (records : List Rec) → Numbered n records → n + length records ≤ m → AllByRecursion (λ (r : Rec). r.lsn < m) records
numbers_below n m [] is high = tt
numbers_below n m (r ∷ records) is high = (omega (arith, is.0, high), numbers_below (n + 1) m records is.1 (omega (arith, high)))

above : (k n : ℕ) (records : List Rec) → Numbered n records → k < n → AllByRecursion (λ (r : Rec). k < r.lsn) records
above k n [] is low = tt
above k n (r ∷ records) is low = (omega (arith, is.0, low), above k (n + 1) records is.1 (omega (arith, low)))

pub numbers_rising : (n : ℕ) (records : List Rec) → Numbered n records → Rises records
numbers_rising n [] is = tt
numbers_rising n (r ∷ records) is = (above r.lsn (n + 1) records is.1 (omega (arith, is.0)), numbers_rising (n + 1) records is.1)

-- ---- records under new numbers

pub numbered_numbers : (n : ℕ) (records : List Rec) → Numbered n (numbered n records)
numbered_numbers n [] = tt
numbered_numbers n (r ∷ records) = (refl, numbered_numbers (n + 1) records)

pub numbered_length : (n : ℕ) (records : List Rec) → length (numbered n records) ≡ length records
numbered_length n [] = refl
numbered_length n (r ∷ records) = ap suc (numbered_length (n + 1) records)

pub numbered_take : (j n : ℕ) (records : List Rec) → take j (numbered n records) ≡ numbered n (take j records)
numbered_take zero n records = refl
numbered_take (suc j) n [] = refl
numbered_take (suc j) n (r ∷ records) = ap (λ (rs : List Rec). (record r { lsn = n }) ∷ rs) (numbered_take j (n + 1) records)

pub numbered_join : (n : ℕ) (xs ys : List Rec) → numbered n (xs ++ ys) ≡ numbered n xs ++ numbered (n + length xs) ys
numbered_join n [] ys = ap (λ (m : ℕ). numbered m ys) (omega arith)
numbered_join n (r ∷ xs) ys =
    let one : Rec = record r { lsn = n } in
    let From : ℕ → List Rec = λ m. one ∷ (numbered (n + 1) xs ++ numbered m ys) in
    let same : (n + 1) + length xs ≡ n + length (r ∷ xs) = omega arith in
    ap (λ (rs : List Rec). one ∷ rs) (numbered_join (n + 1) xs ys) ∙ ap From same

-- where each record has a spelling under each number, they have spellings under theirs
pub numbered_spelled : (n : ℕ) (records : List Rec) → n + length records ≤ 2 ^ 64 → AllByRecursion (λ (r : Rec). (lsn : ℕ) → lsn < 2 ^ 64 → IsRecord (record r { lsn = lsn })) records → AllByRecursion IsRecord (numbered n records)
numbered_spelled n [] room all = tt
numbered_spelled n (r ∷ records) room all =
    (all.0 n (omega (arith, room)), numbered_spelled (n + 1) records (omega (arith, room)) all.1)

pub numbered_begun : (n : ℕ) (records : List Rec) → AllByRecursion (λ (r : Rec). r.begin ≤ n) records → AllByRecursion (λ (r : Rec). r.begin ≤ r.lsn) (numbered n records)
numbered_begun n [] all = tt
numbered_begun n (r ∷ records) all = (all.0, numbered_begun (n + 1) records (higher records all.1))
  where
    higher : (rs : List Rec) → AllByRecursion (λ (s : Rec). s.begin ≤ n) rs → AllByRecursion (λ (s : Rec). s.begin ≤ n + 1) rs
    higher [] low = tt
    higher (s ∷ rs) low = (omega (arith, low.0), higher rs low.1)
