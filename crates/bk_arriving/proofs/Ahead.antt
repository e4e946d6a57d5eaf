-- Data files with some pages more.
use Rattle.std.proofs.Common.{◌≡◌, ◌≤◌, ◌<◌, ◌+◌, ℕ, [], length, get_or, Option, refl, inl, inr, sym, ap, subst, ◌∙◌, arith}
use Rattle.std.specs.Option.{option_map_or}
use Rattle.std.specs.Prelude.{nat_lt, if◌then◌else◌}
use Rattle.std.proofs.lemmas.Bool.{cases_lt, cond-false, cond-true, le-ltb, lt-ltb}
use Rattle.std.proofs.lemmas.Option.{slice_get-get_or}
use Rattle.bk_facts.specs.declared.facts.DataFile.{DataFile}
use Rattle.bk_filling.specs.Filling.{Kept, one_more, place_of}
use Rattle.bk_lemmas.specs.Lists.{all_at}
use Rattle.bk_arriving.specs.Extents.{HasExtents}
use Rattle.bk_arriving.specs.Steps.{IsDue, IsEven, IsPast, HasTurned, ahead, pages_here}

-- a data file, where a list needs one
abbrev pub nothing : DataFile
nothing = record { path = []; pages = 0 }

-- the data file of the next page
abbrev pub file_here : Kept → DataFile
file_here f = get_or f.files f.whole nothing

pub here : (f : Kept) → f.whole < length f.files → pages_here f ≡ (file_here f).pages
here f next = ap (λ (o : Option DataFile). option_map_or (λ (d : DataFile). d.pages) o 0) (slice_get-get_or f.files f.whole nothing next)

pub has_here : (f : Kept) → IsEven f → f.whole < length f.files → HasExtents (file_here f)
has_here f even next = all_at HasExtents f.files f.whole nothing next even.files

-- ---- so many pages ahead

pub ahead_here : (f : Kept) (n : ℕ) → f.page + n < pages_here f → ahead f n ≡ record f { page = f.page + n }
ahead_here f n inside =
    let More : Kept = record f { page = f.page + n } in
    let Next : Kept = record f { whole = f.whole + 1; page = 0 } in
    cond-true (nat_lt (f.page + n) (pages_here f)) More Next (lt-ltb (f.page + n) (pages_here f) inside)

pub ahead_past : (f : Kept) (n : ℕ) → pages_here f ≤ f.page + n → ahead f n ≡ record f { whole = f.whole + 1; page = 0 }
ahead_past f n past =
    let More : Kept = record f { page = f.page + n } in
    let Next : Kept = record f { whole = f.whole + 1; page = 0 } in
    cond-false (nat_lt (f.page + n) (pages_here f)) More Next (le-ltb (f.page + n) (pages_here f) past)

pub ahead_none : (f : Kept) → f.page < pages_here f → ahead f 0 ≡ f
ahead_none f inside =
    let same : f.page + 0 ≡ f.page = omega arith in
    ahead_here f 0 (omega (arith, inside)) ∙ ap (λ (n : ℕ). record f { page = n }) same

pub ahead_more : (f : Kept) (n : ℕ) → f.page + n < pages_here f → one_more (ahead f n) ≡ ahead f (n + 1)
ahead_more f n inside =
    let same : f.page + n + 1 ≡ f.page + (n + 1) = omega arith in
    let To : ℕ → Kept = λ k. if nat_lt k (pages_here f) then (record f { page = k }) else (record f { whole = f.whole + 1; page = 0 }) in
    ap one_more (ahead_here f n inside) ∙ ap To same

pub ahead_place : (f : Kept) (n : ℕ) → f.page + n < pages_here f → place_of (ahead f n) ≡ (f.whole + 1, f.page + n)
ahead_place f n inside = ap place_of (ahead_here f n inside)

pub ahead_files : (f : Kept) (n : ℕ) → (ahead f n).files ≡ f.files
ahead_files f n = elim (cases_lt (f.page + n) (pages_here f)) [
  | inl inside ↦ ap (λ (g : Kept). g.files) (ahead_here f n inside)
  | inr past ↦ ap (λ (g : Kept). g.files) (ahead_past f n past)
]

-- there is room for all pages of an extent
pub room : (f : Kept) → IsEven f → f.whole < length f.files → f.page + 8 ≤ pages_here f
room f even next =
    let has = has_here f even next in
    let same = here f next in
    let inside = even.inside next in
    omega (arith, has.even, has.some, same, inside, even.even)

pub room_for : (f : Kept) (n : ℕ) → IsEven f → f.whole < length f.files → n < 8 → f.page + n < pages_here f
room_for f n even next below = let all = room f even next in omega (arith, all, below)

pub ahead_next : (f : Kept) (n : ℕ) → f.page + n < pages_here f → f.whole < length f.files → (ahead f n).whole < length (ahead f n).files
ahead_next f n inside next =
    let Next : Kept → Type 0 = λ g. g.whole < length g.files in
    let there : Next (record f { page = f.page + n }) = next in
    subst Next (sym (ahead_here f n inside)) there

-- ---- an extent ahead

pub even_ahead : (f : Kept) → IsEven f → f.whole < length f.files → IsEven (ahead f 8)
even_ahead f even next = elim (cases_lt (f.page + 8) (pages_here f)) [
  | inl inside ↦ subst IsEven (sym (ahead_here f 8 inside)) (record { files = even.files; inside = λ _. inside; even = omega (arith, even.even) })
  | inr past ↦
      let after : Kept = record f { whole = f.whole + 1; page = 0 } in
      let first : after.whole < length after.files → 0 < pages_here after = λ more.
      let has : HasExtents (file_here after) = all_at HasExtents f.files (f.whole + 1) nothing more even.files in
      let same = here after more in
      omega (arith, has.some, same) in
      subst IsEven (sym (ahead_past f 8 past)) (record { files = even.files; inside = first; even = refl })
]

-- ---- header pages

-- where no header page comes next, an extent's does, or none
pub not_due : (f : Kept) → IsEven f → (IsDue f → ⊥) → IsPast f
not_due f even off next = elim (cases_lt f.page 8) [
  | inl less ↦
      let none : f.page ≡ 0 = omega (arith, less, even.even) in
      absurd (off (next, none))
  | inr past ↦ past
]

pub turned : (f : Kept) (k : ℕ) → IsDue f → HasTurned k f → HasTurned (k + 1) (ahead f 8)
turned f k due before = elim (cases_lt (f.page + 8) (pages_here f)) [
  | inl inside ↦
      let Past : Kept → Type 0 = λ g. HasTurned (k + 1) g in
      let past : IsPast (record f { page = f.page + 8 }) = λ _. omega arith in
      subst Past (sym (ahead_here f 8 inside)) (inr past)
  | inr past ↦
      let Past : Kept → Type 0 = λ g. HasTurned (k + 1) g in
      let so_many : k ≤ f.whole = elim before [ inl many ↦ many | inr is_past ↦ absurd (omega (arith, is_past due.0, due.1)) ] in
      let more : k + 1 ≤ f.whole + 1 = omega (arith, so_many) in
      subst Past (sym (ahead_past f 8 past)) (inl more)
]

pub all_turned : (f : Kept) (k : ℕ) → length f.files ≤ k → HasTurned k f → IsPast f
all_turned f k few is next = elim is [ inl many ↦ absurd (omega (arith, few, many, next)) | inr past ↦ past next ]
