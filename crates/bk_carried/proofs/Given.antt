-- The pages that a set gives: those of its extents, and fresh header pages.
use Rattle.std.proofs.Common.{◌≡◌, ◌≤◌, ◌<◌, ℕ, zero, suc, ◌+◌, ◌*◌, ◌/◌, ◌%◌, Bool, true, false, List, [], ◌∷◌, length, map, Some, inl, inr, refl, sym, ◌∙◌, ap, subst, arith}
use Rattle.std.specs.Prelude.{◌==◌, ◌&&◌, ◌||◌, nat_lt, nat_le, slice_get}
use Rattle.std.specs.List.{AllByRecursion}
use Rattle.std.specs.Option.{option_map_or}
use Rattle.std.proofs.lemmas.Bool.{and_from, and_left, and_parts, and_right, cases_Bool, cond-false, cond-true, eq-eqb, eqb-true, le-leb, le-ltb, lt-ltb, ltb-true, or_left, or_right}
use Rattle.std.proofs.lemmas.Option.{same_Some}
use Rattle.bk_body.specs.Body.{Body, Extent}
use Rattle.bk_body.specs.Conditions.{ComesBefore, ExtentsRise, IsBody, KeepsExtent, has_extent, holds_extent, is_in_file}
use Rattle.bk_header.specs.Conditions.{AreNumbered}
use Rattle.bk_ids.specs.declared.record.Rec.{Rec}
use Rattle.bk_lemmas.specs.Lists.{all_mapped}
use Rattle.bk_lemmas.specs.Tests.{test_false}
use Rattle.bk_page.specs.Page.{fresh_page}
use Rattle.bk_restored.specs.PagedHolds.{IsStored}
use Rattle.bk_restored.specs.PagedNames.{IsThere, pages_in}
use Rattle.bk_redo.specs.declared.place.PageAt.{PageAt}
use Rattle.bk_restored.specs.StoreCopying.{page_of_extent}
use Rattle.bk_restored.specs.StoreTold.{data_file}
use Rattle.bk_undo.specs.Spelled.{spelled}
use Rattle.bk_facts.specs.declared.facts.DataFile.{DataFile}
use Rattle.bk_world.specs.declared.header.HeaderFile.{HeaderFile}
use Rattle.bk_world.specs.Records.{Logged}
use Rattle.bk_carried.specs.Carried.{HoldsLog, IsCopied, bytes_in, given, is_extent, is_there, page_part}

-- ---- pages

pub given-fresh : (body : Body) (file page : ℕ) → page < 8 → given body (file, page) ≡ fresh_page file page
unfolding given
given-fresh body file page low = cond-true (nat_lt page 8) (fresh_page file page) _ (lt-ltb page 8 low)

pub given-data : (body : Body) (file page : ℕ) → 8 ≤ page → given body (file, page) ≡ page_part (bytes_in body.extents file (page / 8)) (page % 8)
unfolding given
given-data body file page behind = cond-false (nat_lt page 8) (fresh_page file page) _ (le-ltb page 8 behind)

extent-page : (extent j : ℕ) → j < 8 → ((8 * extent + j) / 8 ≡ extent) × ((8 * extent + j) % 8 ≡ j)
extent-page extent j low = (omega (arith, low), omega (arith, low))

-- ---- extents among some

-- one that is there is found
pub record IsFound (P : Extent → Type 0) (extents : List Extent) (file extent : ℕ) : Type 0 where
  pub e : Extent
  pub of_file : e.file ≡ file
  pub of_number : e.extent ≡ extent
  pub bytes : bytes_in extents file extent ≡ e.bytes
  pub holds : P e

pub found : (P : Extent → Type 0) (extents : List Extent) (file extent : ℕ) → is_there extents file extent ≡ true → AllByRecursion P extents → IsFound P extents file extent
found P [] file extent there all = absurd cc
found P (e ∷ extents) file extent there all = by (is_extent file extent e) refl there (λ rest. found P extents file extent rest all.1)
  where
    by : (t : Bool) → is_extent file extent e ≡ t → (t || is_there extents file extent) ≡ true → (is_there extents file extent ≡ true → IsFound P extents file extent) → IsFound P (e ∷ extents) file extent
    by true is rest next =
        let parts = and_parts (e.file == file) (e.extent == extent) is in record {
          e = e;
          of_file = eqb-true e.file file parts.0;
          of_number = eqb-true e.extent extent parts.1;
          bytes = rw is refl;
          holds = all.0;
        }
    by false is rest next =
        let later : IsFound P extents file extent = next rest in record {
          e = later.e;
          of_file = later.of_file;
          of_number = later.of_number;
          bytes = rw is later.bytes;
          holds = later.holds;
        }

-- ---- each extent of a set is the one of its file and number

before-both : (one other e : Extent) → ComesBefore one other → ComesBefore other e → ComesBefore one e
before-both one other e (inl lower) (inl low) = inl (omega (arith, lower, low))
before-both one other e (inl lower) (inr same) = inl (omega (arith, lower, same.0))
before-both one other e (inr like) (inl low) = inl (omega (arith, like.0, low))
before-both one other e (inr like) (inr same) = inr (like.0 ∙ same.0, omega (arith, like.1, same.1))

-- it comes before all behind it
pub before-all : (one : Extent) (extents : List Extent) → ExtentsRise (one ∷ extents) → AllByRecursion (ComesBefore one) extents
before-all one [] rise = tt
before-all one (other ∷ extents) rise = (rise.0, all_mapped (ComesBefore other) (ComesBefore one) (λ e later. before-both one other e rise.0 later) extents (before-all other extents rise.1))

pub rise-behind : (one : Extent) (extents : List Extent) → ExtentsRise (one ∷ extents) → ExtentsRise extents
rise-behind one [] rise = tt
rise-behind one (other ∷ extents) rise = rise.1

all-got : {X : Type 0} (P : X → Type 0) (xs : List X) (i : ℕ) (x : X) → slice_get xs i ≡ Some x → AllByRecursion P xs → P x
all-got P [] i x at all = absurd cc
all-got P (y ∷ xs) zero x at all = subst P (same_Some y x at) all.0
all-got P (y ∷ xs) (suc i) x at all = all-got P xs i x at all.1

another : (one e : Extent) → ComesBefore one e → is_extent e.file e.extent one ≡ false
another one e (inl lower) = and_left (one.file == e.file) (one.extent == e.extent) (test_false one.file e.file (λ same. absurd (omega (arith, same, lower))))
another one e (inr like) = and_right (one.file == e.file) (one.extent == e.extent) (test_false one.extent e.extent (λ same. absurd (omega (arith, same, like.1))))

itself : (e : Extent) → is_extent e.file e.extent e ≡ true
itself e = and_from (e.file == e.file) (e.extent == e.extent) (eq-eqb e.file e.file refl) (eq-eqb e.extent e.extent refl)

own-bytes : (extents : List Extent) (i : ℕ) (e : Extent) → ExtentsRise extents → slice_get extents i ≡ Some e → bytes_in extents e.file e.extent ≡ e.bytes
own-bytes [] i e rise at = absurd cc
own-bytes (one ∷ extents) zero e rise at =
    let same : one ≡ e = same_Some one e at in
    let is : is_extent e.file e.extent one ≡ true = subst (λ (x : Extent). is_extent e.file e.extent x ≡ true) (sym same) (itself e) in
    let bytes : one.bytes ≡ e.bytes = ap (λ (x : Extent). x.bytes) same in
    rw is bytes
own-bytes (one ∷ extents) (suc i) e rise at =
    let apart : is_extent e.file e.extent one ≡ false = another one e (all-got (ComesBefore one) extents i e at (before-all one extents rise)) in
    rw apart (own-bytes extents i e (rise-behind one extents rise) at)

-- an extent of a set is none of header pages
holds-data : (files : List HeaderFile) (file extent : ℕ) → holds_extent files file extent ≡ true → 0 < extent
holds-data [] file extent there = absurd cc
holds-data (f ∷ files) file extent there = elim (cases_Bool (f.in_set && is_in_file file extent f)) [
  | inl is ↦ ltb-true 0 extent (and_parts (f.spec.number == file) (nat_lt 0 extent) (and_parts (f.spec.number == file && nat_lt 0 extent) (nat_le extent f.spec.extents) (and_parts f.in_set (is_in_file file extent f) is).1).0).1
  | inr isnt ↦ holds-data files file extent (sym (ap (λ (t : Bool). t || holds_extent files file extent) isnt) ∙ there)
]

pub own-page : (body : Body) (i : ℕ) (e : Extent) (j : ℕ) → IsBody body → slice_get body.extents i ≡ Some e → j < 8 → given body (e.file, 8 * e.extent + j) ≡ page_part e.bytes j
own-page body i e j is at low =
    let some : 0 < e.extent = holds-data body.header.files e.file e.extent (all-got (KeepsExtent body.header.files) body.extents i e at is.extents).there in
    let parts = extent-page e.extent j low in
    given-data body e.file (8 * e.extent + j) (omega (arith, some))
    ∙ ap (λ (n : ℕ). page_part (bytes_in body.extents e.file n) ((8 * e.extent + j) % 8)) parts.0
    ∙ ap (page_part (bytes_in body.extents e.file e.extent)) parts.1
    ∙ ap (λ (bytes : List ℕ). page_part bytes j) (own-bytes body.extents i e is.rise at)

-- ---- a data page of a file is one of an extent of the header

in-file : (f : HeaderFile) (n page : ℕ) → f.spec.number ≡ n → 8 ≤ page → page < 8 + 8 * f.spec.extents → is_in_file n (page / 8) f ≡ true
in-file f n page number behind inside =
    let some : 0 < page / 8 = omega (arith, behind) in
    let most : page / 8 ≤ f.spec.extents = omega (arith, inside) in
    and_from (f.spec.number == n && nat_lt 0 (page / 8)) (nat_le (page / 8) f.spec.extents) (and_from (f.spec.number == n) (nat_lt 0 (page / 8)) (eq-eqb f.spec.number n number) (lt-ltb 0 (page / 8) some)) (le-leb (page / 8) f.spec.extents most)

-- so many pages has the file at an index
abbrev pages_at : List HeaderFile → ℕ → ℕ
pages_at files i = option_map_or (λ (f : DataFile). f.pages) (slice_get (map data_file (map (λ (f : HeaderFile). f.spec) files)) i) 0

page-there : (n : ℕ) (files : List HeaderFile) (i page : ℕ) → AreNumbered n files → 8 ≤ page → page < pages_at files i → has_extent files (n + i) (page / 8) ≡ true
page-there n [] i page numbers behind inside = absurd (omega (arith, inside))
page-there n (f ∷ files) zero page numbers behind inside = or_left (is_in_file (n + 0) (page / 8) f) (has_extent files (n + 0) (page / 8)) (in-file f (n + 0) page (omega (arith, numbers.0)) behind inside)
page-there n (f ∷ files) (suc i) page numbers behind inside =
    let Has : ℕ → Type 0 = λ m. has_extent files m (page / 8) ≡ true in
    let same : (n + 1) + i ≡ n + suc i = omega arith in
    or_right (is_in_file (n + suc i) (page / 8) f) (has_extent files (n + suc i) (page / 8)) (subst Has same (page-there (n + 1) files i page numbers.1 behind inside))

abbrev files_in : List HeaderFile → List DataFile
files_in files = map data_file (map (λ (f : HeaderFile). f.spec) files)

pub extent-there : (files : List HeaderFile) (file page : ℕ) → AreNumbered 1 files → 8 ≤ page → page < pages_in (files_in files) file → has_extent files file (page / 8) ≡ true
extent-there files zero page numbers behind inside = absurd (omega (arith, inside))
extent-there files (suc i) page numbers behind inside =
    let Has : ℕ → Type 0 = λ m. has_extent files m (page / 8) ≡ true in
    let same : 1 + i ≡ suc i = omega arith in
    subst Has same (page-there 1 files i page numbers behind inside)

-- the numbers of files are low
index-low : (files : List HeaderFile) (i page : ℕ) → page < pages_at files i → i < length files
index-low [] i page inside = absurd (omega (arith, inside))
index-low (f ∷ files) zero page inside = omega arith
index-low (f ∷ files) (suc i) page inside = omega (arith, index-low files i page inside)

pub file-low : (files : List HeaderFile) (at : PageAt) → IsThere (files_in files) at → at.file ≤ length files
file-low files at there = by at.file there
  where
    by : (file : ℕ) → at.page < pages_in (files_in files) file → file ≤ length files
    by zero inside = absurd (omega (arith, inside))
    by (suc i) inside = omega (arith, index-low files i at.page inside)

-- ---- so each data page is as of some number from the checkpoint on

pub data-stored : (rs : List Logged) (body : Body) (at : PageAt) → HoldsLog rs body → AreNumbered 1 body.header.files → IsThere (files_in body.header.files) at → 8 ≤ at.page
    → IsStored (map spelled rs) body.header.checkpoint at (given body (at.file, at.page))
data-stored rs body at holds numbers inside behind =
    let records : List Rec = map spelled rs in
    let since : ℕ = body.header.checkpoint in
    let there : is_there body.extents at.file (at.page / 8) ≡ true = holds.there at.file (at.page / 8) (extent-there body.header.files at.file at.page numbers behind inside) in
    let of : IsFound (IsCopied records since) body.extents at.file (at.page / 8) = found (IsCopied records since) body.extents at.file (at.page / 8) there holds.pages in
    let low : at.page % 8 < 8 = omega arith in
    let number : 8 * of.e.extent + at.page % 8 ≡ at.page = omega (arith, of.of_number) in
    let place : page_of_extent of.e.file of.e.extent (at.page % 8) ≡ at = ap (λ (n : ℕ). record { file = of.e.file; page = n }) number ∙ ap (λ (n : ℕ). record { file = n; page = at.page }) of.of_file in
    let page : page_part of.e.bytes (at.page % 8) ≡ given body (at.file, at.page) = ap (λ (bytes : List ℕ). page_part bytes (at.page % 8)) (sym of.bytes) ∙ sym (given-data body at.file at.page behind) in
    subst (λ (p : PageAt). IsStored records since p (given body (at.file, at.page))) place
    (subst (IsStored records since (page_of_extent of.e.file of.e.extent (at.page % 8))) page (of.holds (at.page % 8) low))
