-- The data extents that are still to come.
use Rattle.std.proofs.Common.{◌≡◌, ◌≤◌, ◌<◌, ◌+◌, ◌-◌, ◌/◌, ℕ, zero, suc, List, [], ◌∷◌, ◌++◌, drop, length, Some, refl, inl, inr, sym, ap, ◌∙◌, arith}
use Rattle.std.specs.List.{AllByRecursion}
use Rattle.std.specs.Prelude.{slice_get}
use Rattle.std.proofs.lemmas.Bool.{cases_lt}
use Rattle.std.proofs.lemmas.List.{drop_more}
use Rattle.std.proofs.lemmas.Option.{get_or_from_slice_get, slice_get_within}
use Rattle.bk_body.specs.Body.{Extent}
use Rattle.bk_facts.specs.declared.facts.DataFile.{DataFile}
use Rattle.bk_filling.specs.Filling.{Kept, begun}
use Rattle.bk_arriving.specs.Extents.{HasExtents, extents_of, extents_on}
use Rattle.bk_arriving.specs.Sets.{AreWhole, place_in, places}
use Rattle.bk_arriving.specs.Steps.{IsEven, IsNext, IsPast, Remain, ahead, pages_here, rest_in, rest_of}
use Rattle.bk_arriving.proofs.Ahead.{ahead_here, ahead_past, file_here, has_here, here, nothing}

rest_first : (whole : ℕ) (files : List DataFile) → rest_in whole 0 files ≡ extents_of (whole + 1) files
rest_first whole [] = refl
rest_first whole (d ∷ files) = refl

rest_behind : (whole page : ℕ) (d : DataFile) (files : List DataFile) → 8 ≤ page → rest_in whole page (d ∷ files) ≡ extents_on (whole + 1) (page / 8) ((d.pages - page) / 8) ++ extents_of (whole + 1 + 1) files
rest_behind whole zero d files past = absurd (omega (arith, past))
rest_behind whole (suc p) d files past = refl

module _ (f : Kept) (even : IsEven f) (next : f.whole < length f.files) where
  files_on : List DataFile
  files_on = drop (f.whole + 1) f.files

  later : List (ℕ × ℕ)
  later = extents_of (f.whole + 1 + 1) files_on

  at : drop f.whole f.files ≡ file_here f ∷ files_on
  unfolding files_on
  at = drop_more f.files f.whole nothing next

  -- within the file
  within : f.page + 8 < pages_here f → rest_of (ahead f 8) ≡ extents_on (f.whole + 1) ((f.page + 8) / 8) (((file_here f).pages - (f.page + 8)) / 8) ++ later
  unfolding later
  within inside =
      let past : 8 ≤ f.page + 8 = omega arith in
      ap rest_of (ahead_here f 8 inside) ∙ ap (rest_in f.whole (f.page + 8)) at ∙ rest_behind f.whole (f.page + 8) (file_here f) files_on past

  -- behind the file
  behind : pages_here f ≤ f.page + 8 → rest_of (ahead f 8) ≡ later
  unfolding later files_on
  behind past = ap rest_of (ahead_past f 8 past) ∙ rest_first (f.whole + 1) (drop (f.whole + 1) f.files)

  pub rest_header : f.page ≡ 0 → rest_of (ahead f 8) ≡ rest_of f
  unfolding later
  rest_header none =
      let has = has_here f even next in
      let same = here f next in
      let whole : rest_of f ≡ extents_on (f.whole + 1) 1 ((file_here f).pages / 8 - 1) ++ later =
      ap (λ (p : ℕ). rest_in f.whole p (drop f.whole f.files)) none ∙ ap (rest_in f.whole 0) at in
      elim (cases_lt (f.page + 8) (pages_here f)) [
        | inl inside ↦
            let one : (f.page + 8) / 8 ≡ 1 = omega (arith, none) in
            let more : ((file_here f).pages - (f.page + 8)) / 8 ≡ (file_here f).pages / 8 - 1 = omega (arith, none, same, inside) in
            within inside ∙ ap (λ (n : ℕ). extents_on (f.whole + 1) n (((file_here f).pages - (f.page + 8)) / 8) ++ later) one
            ∙ ap (λ (n : ℕ). extents_on (f.whole + 1) 1 n ++ later) more ∙ sym whole
        | inr past ↦
            let none_more : (file_here f).pages / 8 - 1 ≡ 0 = omega (arith, none, same, past, has.even) in
            behind past ∙ sym (whole ∙ ap (λ (n : ℕ). extents_on (f.whole + 1) 1 n ++ later) none_more)
      ]

  pub rest_next : 8 ≤ f.page → rest_of f ≡ (f.whole + 1, f.page / 8) ∷ rest_of (ahead f 8)
  unfolding later
  rest_next is_past =
      let has = has_here f even next in
      let same = here f next in
      let inside_here = even.inside next in
      let more : ((file_here f).pages - f.page) / 8 ≡ suc (((file_here f).pages - (f.page + 8)) / 8) = omega (arith, same, inside_here, has.even, even.even) in
      let whole : rest_of f ≡ (f.whole + 1, f.page / 8) ∷ (extents_on (f.whole + 1) (f.page / 8 + 1) (((file_here f).pages - (f.page + 8)) / 8) ++ later) =
      ap (rest_in f.whole f.page) at ∙ rest_behind f.whole f.page (file_here f) files_on is_past ∙ ap (λ (n : ℕ). extents_on (f.whole + 1) (f.page / 8) n ++ later) more in
      elim (cases_lt (f.page + 8) (pages_here f)) [
        | inl inside ↦
            let one : f.page / 8 + 1 ≡ (f.page + 8) / 8 = omega arith in
            whole ∙ ap (λ (n : ℕ). (f.whole + 1, f.page / 8) ∷ (extents_on (f.whole + 1) n (((file_here f).pages - (f.page + 8)) / 8) ++ later)) one
            ∙ ap (λ (es : List (ℕ × ℕ)). (f.whole + 1, f.page / 8) ∷ es) (sym (within inside))
        | inr past ↦
            let none : ((file_here f).pages - (f.page + 8)) / 8 ≡ 0 = omega (arith, same, past) in
            whole ∙ ap (λ (n : ℕ). (f.whole + 1, f.page / 8) ∷ (extents_on (f.whole + 1) (f.page / 8 + 1) n ++ later)) none
            ∙ ap (λ (es : List (ℕ × ℕ)). (f.whole + 1, f.page / 8) ∷ es) (sym (behind past))
      ]

-- none is to come where all pages are there
pub rest_none : (f : Kept) → length f.files ≤ f.whole → rest_of f ≡ []
rest_none f all = ap (rest_in f.whole f.page) (none f.whole f.files all)
  where
    none : (n : ℕ) (files : List DataFile) → length files ≤ n → drop n files ≡ []
    none zero [] all_there = refl
    none (suc n) [] all_there = refl
    none zero (d ∷ files) all_there = absurd (omega (arith, all_there))
    none (suc n) (d ∷ files) all_there = none n files (omega (arith, all_there))

-- at first they are all
pub rest_begun : (files : List DataFile) (extents : List Extent) → AreWhole files extents → Remain 0 extents (begun files)
rest_begun files extents whole = whole.all ∙ sym (rest_first 0 files)

-- which are all that there are, where they are those at first
pub whole_begun : (files : List DataFile) (extents : List Extent) → AllByRecursion HasExtents files → Remain 0 extents (begun files) → AreWhole files extents
whole_begun files extents even remain = record { even = even; all = remain ∙ rest_first 0 files }

-- ---- the extent that was read

take_next : (extents : List Extent) (i : ℕ) (e : Extent) → slice_get extents i ≡ Some e → places (drop i extents) ≡ place_in e ∷ places (drop (i + 1) extents)
take_next extents i e there =
    ap places (drop_more extents i e (slice_get_within extents i e there)) ∙ ap (λ (y : Extent). place_in y ∷ places (drop (i + 1) extents)) (get_or_from_slice_get extents i e e there)

heads : (p q : ℕ × ℕ) (ps qs : List (ℕ × ℕ)) → p ∷ ps ≡ q ∷ qs → (p ≡ q) × (ps ≡ qs)
heads p q ps qs same = (cc, cc)

pub taken : (f : Kept) (extents : List Extent) (i : ℕ) (e : Extent) → IsEven f → IsPast f → slice_get extents i ≡ Some e → f.whole < length f.files → Remain i extents f → (place_in e ≡ (f.whole + 1, f.page / 8)) × Remain (i + 1) extents (ahead f 8)
taken f extents i e even past there next remain =
    heads (place_in e) (f.whole + 1, f.page / 8) (places (drop (i + 1) extents)) (rest_of (ahead f 8)) (sym (take_next extents i e there) ∙ remain ∙ rest_next f even next (past next))

-- where the others are those that are still to come, it and they are
pub put_back : (f : Kept) (extents : List Extent) (i : ℕ) (e : Extent) → IsEven f → IsPast f → slice_get extents i ≡ Some e → f.whole < length f.files → place_in e ≡ (f.whole + 1, f.page / 8) → Remain (i + 1) extents (ahead f 8) → Remain i extents f
put_back f extents i e even past there next same remain =
    take_next extents i e there ∙ ap (λ (p : ℕ × ℕ). p ∷ places (drop (i + 1) extents)) same ∙ ap (λ (ps : List (ℕ × ℕ)). (f.whole + 1, f.page / 8) ∷ ps) remain ∙ sym (rest_next f even next (past next))

-- it is the one that comes next
pub is_next : (f : Kept) (extents : List Extent) (i : ℕ) (e : Extent) → IsEven f → IsPast f → slice_get extents i ≡ Some e → Remain i extents f → IsNext f (Some (place_in e))
is_next f extents i e even past there remain = elim (cases_lt f.whole (length f.files)) [
  | inl next ↦
      let same = (taken f extents i e even past there next remain).0 in
      (next, ap (λ (p : ℕ × ℕ). p.0) same, ap (λ (p : ℕ × ℕ). p.1) same)
  | inr all ↦
      let none : place_in e ∷ places (drop (i + 1) extents) ≡ [] = sym (take_next extents i e there) ∙ remain ∙ rest_none f all in
      absurd cc
]

gone : (es : List Extent) (k : ℕ) → k ≡ length es → drop k es ≡ []
gone [] zero same = refl
gone [] (suc k) same = refl
gone (e ∷ es) zero same = absurd (omega (arith, same))
gone (e ∷ es) (suc k) same = gone es k (omega (arith, same))

-- where none is left, all pages are there
pub all_there : (f : Kept) (extents : List Extent) (n : ℕ) → IsEven f → IsPast f → n ≡ length extents → Remain n extents f → f.whole < length f.files → ⊥
all_there f extents n even past all remain next =
    let none : rest_of f ≡ [] = sym remain ∙ ap places (gone extents n all) in
    let some : (f.whole + 1, f.page / 8) ∷ rest_of (ahead f 8) ≡ [] = sym (rest_next f even next (past next)) ∙ none in
    absurd cc

-- and where all pages are there, none is left
pub none_left : (f : Kept) (extents : List Extent) (n : ℕ) → n ≡ length extents → length f.files ≤ f.whole → Remain n extents f
none_left f extents n all whole = ap places (gone extents n all) ∙ sym (rest_none f whole)
