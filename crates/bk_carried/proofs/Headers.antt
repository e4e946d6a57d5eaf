-- What a set's header says of the database that is made of it.
use Rattle.std.proofs.Common.{◌≡◌, ◌≤◌, ◌<◌, ℕ, zero, suc, ◌+◌, ◌^◌, Bool, true, false, List, [], ◌∷◌, length, map, refl, ap, arith}
use Rattle.std.specs.Prelude.{nat_le, slice_index_or}
use Rattle.std.specs.List.{AllByRecursion, filter}
use Rattle.std.proofs.lemmas.List.{length-append, length-map}
use Rattle.std.proofs.lemmas.List.Sums.{sum_by-cons}
use Rattle.bk_fields.specs.Guids.{IsGuid}
use Rattle.bk_groups.specs.Groups.{AreFiles}
use Rattle.bk_header.specs.Conditions.{AreHeaderFiles, AreNumbered, IsHeader, IsHeaderFile, IsHeaderPath, total_extents}
use Rattle.bk_header.specs.Reading.{IsBranch}
use Rattle.bk_ids.specs.declared.guid.Guid.{Guid}
use Rattle.bk_ids.specs.declared.path.Branch.{Branch}
use Rattle.bk_lemmas.specs.Lists.{all_filter, all_joined, all_mapped}
use Rattle.bk_machine.specs.Acts.{forked}
use Rattle.bk_machine.specs.Sound.{files_of_set}
use Rattle.bk_storage.specs.Storage.{IsSpec}
use Rattle.bk_world.specs.declared.database.FileSpec.{FileSpec}
use Rattle.bk_world.specs.declared.header.Header.{Header}
use Rattle.bk_world.specs.declared.header.HeaderFile.{HeaderFile}

-- ---- data files

abbrev pub specs_of : List HeaderFile → List FileSpec
specs_of files = map (λ (f : HeaderFile). f.spec) files

pub set-files : (header : Header) → files_of_set header ≡ specs_of header.files
set-files header = by header.files
  where
    by : (files : List HeaderFile) → files_of_set (record header { files = files }) ≡ specs_of files
    by [] = refl
    by (f ∷ files) = ap (λ (fs : List FileSpec). f.spec ∷ fs) (by files)

number-at : (n : ℕ) (files : List HeaderFile) (i : ℕ) (d : FileSpec) → AreNumbered n files → i < length (specs_of files) → (slice_index_or (specs_of files) i d).number ≡ i + n
number-at n [] i d numbers low = absurd (omega (arith, low))
number-at n (f ∷ files) zero d numbers low = omega (arith, numbers.0)
number-at n (f ∷ files) (suc i) d numbers low = omega (arith, number-at (n + 1) files i d numbers.1 (omega (arith, low)))

extents-at : (files : List HeaderFile) (i : ℕ) (d : FileSpec) → i < length (specs_of files) → (slice_index_or (specs_of files) i d).extents ≤ total_extents files
extents-at [] i d low = absurd (omega (arith, low))
extents-at (f ∷ files) zero d low = omega (arith, sum_by-cons (λ (g : HeaderFile). g.spec.extents) f files)
extents-at (f ∷ files) (suc i) d low = omega (arith, sum_by-cons (λ (g : HeaderFile). g.spec.extents) f files, extents-at files i d (omega (arith, low)))

pub few-specs : (groups : ℕ) (files : List HeaderFile) → AreHeaderFiles groups files → length (specs_of files) ≤ 16
few-specs groups files are = omega (arith, are.few, length-map files (λ (f : HeaderFile). f.spec))

pub are-files : (groups : ℕ) (files : List HeaderFile) → AreHeaderFiles groups files → AreFiles (specs_of files)
are-files groups files are = record {
  few = omega (arith, few-specs groups files are);
  numbers = λ i d low. number-at 1 files i d are.numbered low;
  sizes = λ i d low. omega (arith, extents-at files i d low, are.small);
}

pub are-specs : (groups n : ℕ) (files : List HeaderFile) → groups ≤ 8 → n + length files ≤ 17 → AreNumbered n files → AllByRecursion (IsHeaderFile groups) files → AllByRecursion IsSpec (specs_of files)
are-specs groups n [] few low numbers each = tt
are-specs groups n (f ∷ files) few low numbers each = (
  record {
    number = omega (arith, numbers.0, low);
    group = omega (arith, each.0.group, few);
    extents = each.0.extents;
    name = each.0.name;
    path = each.0.path;
  },
  are-specs groups (n + 1) files few (omega (arith, low)) numbers.1 each.1,
)

-- ---- branches

branches : (last : ℕ) (path : List Branch) → last < 2 ^ 64 → IsHeaderPath last path → AllByRecursion IsBranch path
branches last [] low is = absurd is
branches last (b ∷ path) low is =
    all_mapped (λ (c : Branch). IsGuid c.guid × (c.start < last)) IsBranch (λ c both. record { guid = both.0; start = omega (arith, both.1, low) }) (b ∷ path) is.1.1

filter-short : {X : Type 0} (p : X → Bool) (xs : List X) → length (filter p xs) ≤ length xs
filter-short p [] = omega arith
filter-short p (x ∷ xs) = by (p x) refl (filter-short p xs)
  where
    by : (t : Bool) → p x ≡ t → length (filter p xs) ≤ length xs → length (filter p (x ∷ xs)) ≤ length (x ∷ xs)
    by true is rest = rw is (omega (arith, rest))
    by false is rest = rw is (omega (arith, rest))

pub forked-branches : (header : Header) (at : ℕ) (branch : Guid) → IsHeader header → at ≡ header.last → IsGuid branch → AllByRecursion IsBranch (forked header.path at branch)
forked-branches header at branch is end guid =
    all_joined IsBranch (filter _ header.path) _ (all_filter IsBranch _ header.path (branches header.last header.path is.last is.path)) (record { guid = guid; start = omega (arith, end, is.last) }, tt)

pub forked-short : (path : List Branch) (at : ℕ) (branch : Guid) → length (forked path at branch) ≤ length path + 1
forked-short path at branch =
    let below : Branch → Bool = λ b. nat_le b.start at in
    let new : List Branch = (record { guid = branch; start = at }) ∷ [] in
    omega (arith, length-append (filter below path) new, filter-short below path)
