-- What copied extents are to a set.
use Rattle.std.proofs.Common.{◌≡◌, ◌≤◌, ◌<◌, ◌+◌, ◌*◌, ◌^◌, ℕ, zero, suc, true, List, [], ◌∷◌, length, map, Some, refl, inl, inr, sym, ap, subst, ◌∙◌, arith}
use Rattle.std.specs.Cmp.Derive.{both_true}
use Rattle.std.specs.List.{All, AllByRecursion}
use Rattle.std.specs.Option.{option_map_or}
use Rattle.std.specs.Prelude.{Bool, Option, ◌&&◌, slice_get}
use Rattle.std.proofs.lemmas.Bool.{eq-eqb, le-leb, lt-ltb}
use Rattle.std.proofs.lemmas.List.{length-map}
use Rattle.std.proofs.lemmas.List.Folds.{list_any_at}
use Rattle.std.proofs.lemmas.Option.{get_or_from_slice_get, slice_get_within}
use Rattle.bk_body.specs.Body.{Extent}
use Rattle.bk_body.specs.Conditions.{ComesBefore, ExtentsRise, IsPageOf, KeepsExtent, holds_extent, is_in_file}
use Rattle.bk_device.specs.Calls.{read_at}
use Rattle.bk_facts.specs.declared.facts.DataFile.{DataFile}
use Rattle.bk_groups.specs.Groups.{AreFiles}
use Rattle.bk_ids.specs.declared.record.ExtentId.{ExtentId}
use Rattle.bk_paged.specs.Names.{pages_in}
use Rattle.bk_store.specs.Told.{Told, data_file}
use Rattle.bk_world.specs.declared.database.FileSpec.{FileSpec}
use Rattle.bk_world.specs.declared.header.HeaderFile.{HeaderFile}
use Rattle.bk_copying.specs.Copying.{AreCopies, IsCopy}
use Rattle.bk_copying.specs.ExtentLaws.{file-inside}
use Rattle.bk_copying.specs.Extents.{HasExtent, IdsRise}

-- ---- their order

-- copies of data extents that rise rise
pub copies-rise : (told : Told) (ids : List ExtentId) (copies : List Extent) → AreCopies told ids copies → IdsRise ids → ExtentsRise copies
copies-rise told [] [] all rise = tt
copies-rise told [] (c ∷ copies) all rise = absurd all
copies-rise told (i ∷ ids) [] all rise = absurd all
copies-rise told (i ∷ []) (c ∷ []) all rise = tt
copies-rise told (i ∷ []) (c ∷ d ∷ copies) all rise = absurd all.1
copies-rise told (i ∷ j ∷ ids) (c ∷ []) all rise = absurd all.1
copies-rise told (i ∷ j ∷ ids) (c ∷ d ∷ copies) all rise =
    let before : ComesBefore c d = elim rise.0 [
      | inl low ↦ inl (omega (arith, low, all.0.file, all.1.0.file))
      | inr same ↦ inr (all.0.file ∙ same.0 ∙ sym all.1.0.file, omega (arith, same.1, all.0.number, all.1.0.number))
    ] in
    (before, copies-rise told (j ∷ ids) (d ∷ copies) all.1 rise.1)

-- ---- their pages

-- the pages of a copy are those of its extent, each with its digest
pub copy-pages : (told : Told) (id : ExtentId) (copy : Extent) → IsCopy told id copy → (j : ℕ) → j < 8 → IsPageOf copy.file (8 * copy.extent + j) (read_at copy.bytes (8192 * j) 8192)
copy-pages told id copy is j low =
    let page = is.is_extent.pages j low in
    record {
      of_file = page.place.file ∙ sym is.file;
      of_number = page.place.number ∙ ap (λ (n : ℕ). 8 * n + j) (sym is.number);
      digest = page.sound.digest;
    }

-- ---- a set has them

abbrev specs : List HeaderFile → List FileSpec
specs hs = map (λ (h : HeaderFile). h.spec) hs

header-at : (hs : List HeaderFile) (i : ℕ) → i < length (map data_file (specs hs)) → (h : HeaderFile) × (slice_get hs i ≡ Some h)
header-at [] i low = absurd (omega (arith, low))
header-at (h ∷ hs) zero low = (h, refl)
header-at (h ∷ hs) (suc i) low = header-at hs i (omega (arith, low))

spec-at : (hs : List HeaderFile) (i : ℕ) (h : HeaderFile) → slice_get hs i ≡ Some h → slice_get (specs hs) i ≡ Some h.spec
spec-at [] i h there = absurd cc
spec-at (x ∷ hs) zero h there = let same : x ≡ h = cc in ap (λ (y : HeaderFile). let some : Option FileSpec = Some y.spec in some) same
spec-at (x ∷ hs) (suc i) h there = spec-at hs i h there

file-at : (fs : List FileSpec) (i : ℕ) (f : FileSpec) → slice_get fs i ≡ Some f → slice_get (map data_file fs) i ≡ Some (data_file f)
file-at [] i f there = absurd cc
file-at (x ∷ fs) zero f there = let same : x ≡ f = cc in ap (λ (y : FileSpec). let some : Option DataFile = Some (data_file y) in some) same
file-at (x ∷ fs) (suc i) f there = file-at fs i f there

in-set-at : (hs : List HeaderFile) (i : ℕ) (h : HeaderFile) → AllByRecursion (λ (x : HeaderFile). x.in_set ≡ true) hs → slice_get hs i ≡ Some h → h.in_set ≡ true
in-set-at [] i h all there = absurd cc
in-set-at (x ∷ hs) zero h all there = let same : x ≡ h = cc in ap (λ (y : HeaderFile). y.in_set) (sym same) ∙ all.0
in-set-at (x ∷ hs) (suc i) h all there = in-set-at hs i h all.1 there

is-held : (hs : List HeaderFile) (id : ExtentId) (i : ℕ) → id.file ≡ suc i → AreFiles (specs hs) → AllByRecursion (λ (x : HeaderFile). x.in_set ≡ true) hs → i < length (map data_file (specs hs)) → 1 ≤ id.extent → 8 * id.extent + 8 ≤ pages_in (map data_file (specs hs)) (suc i)
    → holds_extent hs id.file id.extent ≡ true
is-held hs id i same are all low some there =
    let at = header-at hs i low in
    let h : HeaderFile = at.0 in
    let spec-there : slice_get (specs hs) i ≡ Some h.spec = spec-at hs i h at.1 in
    let inside : i < length (specs hs) = slice_get_within (specs hs) i h.spec spec-there in
    let number : h.spec.number ≡ i + 1 = ap (λ (f : FileSpec). f.number) (sym (get_or_from_slice_get (specs hs) i h.spec h.spec spec-there)) ∙ are.numbers i h.spec inside in
    let pages : pages_in (map data_file (specs hs)) (suc i) ≡ 8 + 8 * h.spec.extents = ap (λ (o : Option DataFile). option_map_or (λ (f : DataFile). f.pages) o 0) (file-at (specs hs) i h.spec spec-there) in
    let of-file : is_in_file id.file id.extent h ≡ true =
    both_true (both_true (eq-eqb h.spec.number id.file (omega (arith, number, same))) (lt-ltb 0 id.extent (omega (arith, some)))) (le-leb id.extent h.spec.extents (omega (arith, there, pages))) in
    let test : HeaderFile → Bool = λ f. f.in_set && is_in_file id.file id.extent f in
    list_any_at test hs i h (slice_get_within hs i h at.1) (ap test (get_or_from_slice_get hs i h h at.1) ∙ both_true (in-set-at hs i h all at.1) of-file)

-- a set all of whose files are in it, and that are a database's, has the database's data extents
pub extent-held : (hs : List HeaderFile) (id : ExtentId) → AreFiles (map (λ (h : HeaderFile). h.spec) hs) → AllByRecursion (λ (h : HeaderFile). h.in_set ≡ true) hs → HasExtent (map data_file (map (λ (h : HeaderFile). h.spec) hs)) id → holds_extent hs id.file id.extent ≡ true
extent-held hs id are all has =
    let inside = file-inside (map data_file (specs hs)) id.file (omega (arith, has.there)) in
    by id.file refl inside.0 inside.1
  where
    by : (n : ℕ) → id.file ≡ n → 1 ≤ n → n ≤ length (map data_file (specs hs)) → holds_extent hs id.file id.extent ≡ true
    by zero same some low = absurd (omega (arith, some))
    by (suc i) same some low =
        is-held hs id i same are all (omega (arith, low)) has.some (subst (λ (n : ℕ). 8 * id.extent + 8 ≤ pages_in (map data_file (specs hs)) n) same has.there)

file-small : (hs : List HeaderFile) (id : ExtentId) → AreFiles (specs hs) → HasExtent (map data_file (specs hs)) id → id.file < 2 ^ 16
file-small hs id are has = omega (arith, (file-inside (map data_file (specs hs)) id.file (omega (arith, has.there))).1, length-map (specs hs) data_file, are.few)

-- and each copy of one is one of its extents
pub copy-kept : (told : Told) (hs : List HeaderFile) (id : ExtentId) (copy : Extent) → AreFiles (map (λ (h : HeaderFile). h.spec) hs) → AllByRecursion (λ (h : HeaderFile). h.in_set ≡ true) hs → HasExtent (map data_file (map (λ (h : HeaderFile). h.spec) hs)) id → IsCopy told id copy → KeepsExtent hs copy
copy-kept told hs id copy are all has is = record {
  file = omega (arith, is.file, file-small hs id are has);
  number = omega (arith, is.number, has.low);
  size = is.is_extent.whole;
  there = ap (λ (n : ℕ). holds_extent hs n copy.extent) is.file ∙ ap (λ (n : ℕ). holds_extent hs id.file n) is.number ∙ extent-held hs id are all has;
  pages = copy-pages told id copy is;
}

-- so are all
pub copies-kept : (told : Told) (hs : List HeaderFile) (ids : List ExtentId) (copies : List Extent) → AreFiles (map (λ (h : HeaderFile). h.spec) hs) → AllByRecursion (λ (h : HeaderFile). h.in_set ≡ true) hs → All (HasExtent (map data_file (map (λ (h : HeaderFile). h.spec) hs))) ids
    → AreCopies told ids copies → AllByRecursion (KeepsExtent hs) copies
copies-kept told hs [] [] are all have copies = tt
copies-kept told hs [] (c ∷ cs) are all have copies = absurd copies
copies-kept told hs (i ∷ ids) [] are all have copies = absurd copies
copies-kept told hs (i ∷ ids) (c ∷ cs) are all have copies = (
  copy-kept told hs i c are all (have 0 i (omega arith)) copies.0,
  copies-kept told hs ids cs are all (λ k d low. have (suc k) d (omega (arith, low))) copies.1,
)
