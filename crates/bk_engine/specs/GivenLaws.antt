-- The pages and the extents of a set, as they are carried and as they arrive.
use Rattle.std.proofs.Common.{◌≡◌, ℕ, zero, suc, ◌+◌, ◌-◌, ◌*◌, ◌/◌, ◌%◌, Bool, true, false, List, [], ◌∷◌, ◌++◌, map, refl, sym, ap, ◌∙◌, arith}
use Rattle.std.specs.Prelude.{nat_lt, if◌then◌else◌}
use Rattle.std.specs.List.{AllByRecursion, range_with_len}
use Rattle.std.proofs.lemmas.List.{map-append}
use Rattle.bk_hosting.specs.ArrivingExtents.{HasExtents, extents_of, extents_on}
use Rattle.bk_hosting.specs.ArrivingSets.{AreWhole, pages_of, places, bytes_in as bytes_arriving}
use Rattle.bk_body.specs.Body.{Body, Extent}
use Rattle.bk_carried.specs.Carried.{bytes_in, data_extents, given, id_of, is_extent, page_part}
use Rattle.bk_facts.specs.declared.facts.DataFile.{DataFile}
use Rattle.bk_header.specs.Conditions.{AreNumbered}
use Rattle.bk_ids.specs.declared.record.ExtentId.{ExtentId}
use Rattle.bk_page.specs.Page.{fresh_page}
use Rattle.bk_store.specs.Told.{data_file}
use Rattle.bk_world.specs.declared.header.HeaderFile.{HeaderFile}

-- ---- pages

bytes-same : (extents : List Extent) (file number : ℕ) → bytes_in extents file number ≡ bytes_arriving extents file number
bytes-same [] file number = refl
bytes-same (e ∷ extents) file number = by (is_extent file number e) refl (bytes-same extents file number)
  where
    by : (t : Bool) → is_extent file number e ≡ t → bytes_in extents file number ≡ bytes_arriving extents file number → bytes_in (e ∷ extents) file number ≡ bytes_arriving (e ∷ extents) file number
    by true is rest = rw is refl
    by false is rest = rw is rest

page-same : (body : Body) (at : ℕ × ℕ) → given body at ≡ pages_of body at
unfolding given
page-same body at = ap (λ (bytes : List ℕ). if nat_lt at.1 8 then fresh_page at.0 at.1 else page_part bytes (at.1 % 8)) (bytes-same body.extents at.0 (at.1 / 8))

-- the pages that a set gives are those that arrive of it
pub pages-same : (body : Body) → given body ≡ pages_of body
pages-same body = λ i at. page-same body at i

-- ---- extents

abbrev pair : ExtentId → ℕ × ℕ
pair x = (x.file, x.extent)

places-are : (extents : List Extent) → map pair (map id_of extents) ≡ places extents
places-are [] = refl
places-are (e ∷ extents) = ap (λ (xs : List (ℕ × ℕ)). (e.file, e.extent) ∷ xs) (places-are extents)

some-are : (file from n : ℕ) → map pair (map (λ (k : ℕ). record { file = file; extent = k }) (range_with_len from n)) ≡ extents_on file from n
some-are file from zero = refl
some-are file from (suc n) = ap (λ (xs : List (ℕ × ℕ)). (file, from) ∷ xs) (some-are file (from + 1) n)

-- the data files of a header's files
abbrev files_in : List HeaderFile → List DataFile
files_in files = map data_file (map (λ (f : HeaderFile). f.spec) files)

all-are : (n : ℕ) (files : List HeaderFile) → AreNumbered n files → map pair (data_extents files) ≡ extents_of n (files_in files)
all-are n [] numbers = refl
all-are n (f ∷ files) numbers =
    let size : f.spec.extents ≡ (8 + 8 * f.spec.extents) / 8 - 1 = omega arith in
    map-append pair (map (λ (k : ℕ). record { file = f.spec.number; extent = k }) (range_with_len 1 f.spec.extents)) (data_extents files)
    ∙ ap (λ (xs : List (ℕ × ℕ)). xs ++ map pair (data_extents files)) (some-are f.spec.number 1 f.spec.extents)
    ∙ ap (λ (k : ℕ). extents_on k 1 f.spec.extents ++ map pair (data_extents files)) numbers.0
    ∙ ap (λ (k : ℕ). extents_on n 1 k ++ map pair (data_extents files)) size
    ∙ ap (λ (xs : List (ℕ × ℕ)). extents_on n 1 ((8 + 8 * f.spec.extents) / 8 - 1) ++ xs) (all-are (n + 1) files numbers.1)

even-files : (files : List HeaderFile) → AllByRecursion HasExtents (files_in files)
even-files [] = tt
even-files (f ∷ files) = (record { some = omega arith; even = omega arith }, even-files files)

-- a set that has each data extent of its files, in their order, has those of its data files
pub whole-set : (body : Body) → AreNumbered 1 body.header.files → map id_of body.extents ≡ data_extents body.header.files → AreWhole (files_in body.header.files) body.extents
whole-set body numbers listed = record {
  even = even-files body.header.files;
  all = sym (places-are body.extents) ∙ ap (map pair) listed ∙ all-are 1 body.header.files numbers;
}
