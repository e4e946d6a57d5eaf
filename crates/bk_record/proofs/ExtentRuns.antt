-- Extents over bytes are the extents that a count of them reads.
use Rattle.std.proofs.Common.{◌≡◌, ℕ, zero, suc, ◌+◌, ◌*◌, ◌/◌, ◌<◌, ◌≤◌, true, false, ltb, List, [], ◌∷◌, length, take, drop, Some, None, refl, ap, ◌∙◌, arith, inl, inr}
use Rattle.std.proofs.lemmas.Bool.{cases_lt, ltb-false, le-ltb, lt-ltb}
use Rattle.std.proofs.lemmas.List.{length-drop, length-take, drop-drop, drop-take}
use Rattle.bk_ids.specs.declared.record.ExtentId.{ExtentId}
use Rattle.bk_bytes.specs.Field.{number_of}
use Rattle.bk_bytes.specs.Codec.{number_at, run_at, times_at, list_at}
use Rattle.bk_bytes.specs.FieldLaws.{number_of-take}
use Rattle.bk_bytes.specs.CodecLaws.{guard_false, some}
use Rattle.bk_record.specs.Reading.{extent_form}
use Rattle.bk_record.specs.Extents.{extents_in, extents_of}

-- the extent at the front of bytes
abbrev pub first_of : List ℕ → ExtentId
first_of bytes = record { file = number_of 2 bytes; extent = number_of 4 (drop 2 bytes) }

extent_read : (bytes : List ℕ) → 6 ≤ length bytes → extent_form.reading bytes ≡ Some (first_of bytes, drop 6 bytes)
unfolding extent_form
extent_read bytes long =
    let two : ltb (length bytes) 2 ≡ false = le-ltb _ _ (omega arith) in
    let four : ltb (length (drop 2 bytes)) 4 ≡ false = le-ltb _ _ (omega (arith, length-drop 2 bytes)) in
    rw (two, four, drop-drop 4 2 bytes) refl

extent_unread : (bytes : List ℕ) → length bytes < 6 → extent_form.reading bytes ≡ None
unfolding extent_form
extent_unread bytes short = elim (cases_lt (length bytes) 2) [
  | inl less ↦ let two : ltb (length bytes) 2 ≡ true = lt-ltb _ _ less in rw two refl
  | inr more ↦
      let two : ltb (length bytes) 2 ≡ false = le-ltb _ _ more in
      let four : ltb (length (drop 2 bytes)) 4 ≡ true = lt-ltb _ _ (omega (arith, length-drop 2 bytes)) in
      rw (two, four) refl
]

extents_read : (n : ℕ) (bytes : List ℕ) → 6 * n ≤ length bytes → times_at extent_form.reading n bytes ≡ Some (extents_in n bytes, drop (6 * n) bytes)
unfolding times_at
extents_read zero bytes long = refl
extents_read (suc n) bytes long =
    let more : 6 * n ≤ length (drop 6 bytes) = omega (arith, length-drop 6 bytes) in
    let six : 6 * suc n ≡ 6 + 6 * n = omega arith in
    rw (extent_read bytes (omega arith), extents_read n (drop 6 bytes) more, drop-drop (6 * n) 6 bytes, six) refl

extents_unread : (n : ℕ) (bytes : List ℕ) → length bytes < 6 * n → times_at extent_form.reading n bytes ≡ None
unfolding times_at
extents_unread zero bytes short = absurd (omega arith)
extents_unread (suc n) bytes short = elim (cases_lt (length bytes) 6) [
  | inl less ↦ rw (extent_unread bytes less) refl
  | inr more ↦
      let others : length (drop 6 bytes) < 6 * n = omega (arith, length-drop 6 bytes) in
      rw (extent_read bytes more, extents_unread n (drop 6 bytes) others) refl
]

extents_in-take : (n : ℕ) (bytes : List ℕ) → extents_in n (take (6 * n) bytes) ≡ extents_in n bytes
extents_in-take zero bytes = refl
extents_in-take (suc n) bytes =
    let six : 6 * suc n ≡ 6 + 6 * n = omega arith in
    let two : 6 * suc n ≡ 2 + (4 + 6 * n) = omega arith in
    let file : number_of 2 (take (6 * suc n) bytes) ≡ number_of 2 bytes = number_of-take 2 (6 * suc n) bytes (omega arith) in
    let extent : number_of 4 (drop 2 (take (6 * suc n) bytes)) ≡ number_of 4 (drop 2 bytes) =
    ap (λ (k : ℕ). number_of 4 (drop 2 (take k bytes))) two ∙ ap (number_of 4) (drop-take 2 (4 + 6 * n) bytes) ∙ number_of-take 4 (4 + 6 * n) (drop 2 bytes) (omega arith) in
    let others : extents_in n (drop 6 (take (6 * suc n) bytes)) ≡ extents_in n (drop 6 bytes) =
    ap (λ (k : ℕ). extents_in n (drop 6 (take k bytes))) six ∙ ap (extents_in n) (drop-take 6 (6 * n) bytes) ∙ extents_in-take n (drop 6 bytes) in
    rw (file, extent, others) refl

-- so many extents are read as the run of their bytes
pub list_at-extents : (bytes : List ℕ) (count : ℕ) (rest front after : List ℕ) → number_at 4 bytes ≡ Some (count, rest) → run_at (6 * count) rest ≡ Some (front, after)
    → list_at 4 extent_form.reading bytes ≡ Some (extents_of front, after)
unfolding list_at
list_at-extents bytes count rest front after number run =
    let g = guard_false (ltb (length rest) (6 * count)) (take (6 * count) rest, drop (6 * count) rest) (front, after) run in
    let long : 6 * count ≤ length rest = ltb-false _ _ g.0 in
    let front_is : take (6 * count) rest ≡ front = ap (λ (p : List ℕ × List ℕ). p.0) g.1 in
    let after_is : drop (6 * count) rest ≡ after = ap (λ (p : List ℕ × List ℕ). p.1) g.1 in
    let size : length (take (6 * count) rest) / 6 ≡ count = omega (arith, length-take (6 * count) rest) in
    let same : extents_of (take (6 * count) rest) ≡ extents_in count rest = ap (λ (k : ℕ). extents_in k (take (6 * count) rest)) size ∙ extents_in-take count rest in
    rw (number, extents_read count rest long, ← front_is, same, ← after_is) refl

pub list_at-no_count : (bytes : List ℕ) → number_at 4 bytes ≡ None → list_at 4 extent_form.reading bytes ≡ None
unfolding list_at
list_at-no_count bytes number = rw number refl

pub list_at-no_extents : (bytes : List ℕ) (count : ℕ) (rest : List ℕ) → number_at 4 bytes ≡ Some (count, rest) → run_at (6 * count) rest ≡ None
    → list_at 4 extent_form.reading bytes ≡ None
unfolding list_at
list_at-no_extents bytes count rest number run = elim (cases_lt (length rest) (6 * count)) [
  | inl less ↦ rw (number, extents_unread count rest less) refl
  | inr more ↦ let wide : ltb (length rest) (6 * count) ≡ false = le-ltb _ _ more in let met : some (take (6 * count) rest, drop (6 * count) rest) ≡ None = rw wide at run in absurd cc
]

-- extents of fewer than 6 bytes are none
pub extents_of-none : (bytes : List ℕ) → length bytes < 6 → extents_of bytes ≡ []
extents_of-none bytes short = let n : length bytes / 6 ≡ 0 = omega arith in ap (λ (k : ℕ). extents_in k bytes) n

-- the first extent, and those behind it
pub extents_of-more : (bytes : List ℕ) → 6 ≤ length bytes → extents_of bytes ≡ first_of bytes ∷ extents_of (drop 6 bytes)
extents_of-more bytes long =
    let n : length bytes / 6 ≡ suc (length (drop 6 bytes) / 6) = omega (arith, length-drop 6 bytes) in
    ap (λ (k : ℕ). extents_in k bytes) n

pub length-extents_in : (n : ℕ) (bytes : List ℕ) → length (extents_in n bytes) ≡ n
length-extents_in zero bytes = refl
length-extents_in (suc n) bytes = ap suc (length-extents_in n (drop 6 bytes))
