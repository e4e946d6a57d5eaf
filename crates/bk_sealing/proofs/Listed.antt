-- The data extents of a database's files are those of a full set's, in their order.
use Rattle.std.proofs.Common.{◌≡◌, ◌≤◌, ◌<◌, ℕ, zero, suc, ◌+◌, ◌-◌, ◌*◌, ◌/◌, true, List, [], ◌∷◌, ◌++◌, length, length-append, map, Some, refl, sym, ◌∙◌, ap, subst, append_assoc, add-one, arith}
use Rattle.std.specs.Prelude.{min, slice_get}
use Rattle.std.specs.Option.{option_map_or}
use Rattle.std.specs.List.{AllByRecursion, range_with_len}
use Rattle.std.proofs.lemmas.List.{append-nil, length-map}
use Rattle.std.proofs.lemmas.List.Sums.{sum_by-cons}
use Rattle.bk_body.specs.Body.{Extent}
use Rattle.bk_carried.specs.Carried.{data_extents, id_of}
use Rattle.bk_copying.specs.Copying.{AreCopies}
use Rattle.bk_copying.specs.Extents.{extent_count, extents_below, extents_of, extents_to}
use Rattle.bk_facts.specs.declared.facts.DataFile.{DataFile}
use Rattle.bk_header.specs.Conditions.{AreNumbered, total_extents}
use Rattle.bk_ids.specs.declared.record.ExtentId.{ExtentId}
use Rattle.bk_lemmas.specs.Lists.{all_joined}
use Rattle.bk_paged.specs.Names.{pages_in}
use Rattle.bk_store.specs.Told.{Told, data_file}
use Rattle.bk_world.specs.declared.database.FileSpec.{FileSpec}
use Rattle.bk_world.specs.declared.header.HeaderFile.{HeaderFile}
use Rattle.bk_sealing.specs.Sealing.{in_set}

-- ---- those of one file

abbrev some_of : ℕ → ℕ → ℕ → List ExtentId
some_of file from n = map (λ (k : ℕ). record { file = file; extent = k }) (range_with_len from n)

some-last : (file from n last : ℕ) → last ≡ from + n → some_of file from (suc n) ≡ some_of file from n ++ (record { file = file; extent = last }) ∷ []
some-last file from zero last is = ap (λ (k : ℕ). (record { file = file; extent = k }) ∷ []) (omega (arith, is))
some-last file from (suc n) last is = ap (λ (xs : List ExtentId). (record { file = file; extent = from }) ∷ xs) (some-last file (from + 1) n last (omega (arith, is)))

to-some : (file n : ℕ) → extents_to file n ≡ some_of file 1 n
to-some file zero = refl
to-some file (suc n) = ap (λ (xs : List ExtentId). xs ++ (record { file = file; extent = n + 1 }) ∷ []) (to-some file n) ∙ sym (some-last file 1 n (n + 1) (omega arith))

-- ---- those of all files

there : (pre : List FileSpec) (f : FileSpec) (fs : List FileSpec) → slice_get (map data_file (pre ++ f ∷ fs)) (length pre) ≡ Some (data_file f)
there [] f fs = refl
there (g ∷ pre) f fs = there pre f fs

count-of : (n : ℕ) → n ≤ 4096 → extent_count (8 + 8 * n) ≡ n
count-of n low = let size : (8 + 8 * n) / 8 - 1 ≡ n = omega arith in omega (arith, size, low)

count-here : (pre : List FileSpec) (f : FileSpec) (fs : List FileSpec) → f.extents ≤ 4096 → extent_count (pages_in (map data_file (pre ++ f ∷ fs)) (length pre + 1)) ≡ f.extents
count-here pre f fs low =
    ap (λ (n : ℕ). extent_count (pages_in (map data_file (pre ++ f ∷ fs)) n)) (add-one (length pre))
    ∙ ap (λ o. extent_count (option_map_or (λ (d : DataFile). d.pages) o 0)) (there pre f fs)
    ∙ count-of f.extents low

below-are : (pre fs : List FileSpec) → AreNumbered (length pre + 1) (in_set fs) → total_extents (in_set fs) ≤ 4096 → extents_below (map data_file (pre ++ fs)) (length pre + length fs) ≡ extents_below (map data_file (pre ++ fs)) (length pre) ++ data_extents (in_set fs)
below-are pre [] numbers small =
    let same : length pre + 0 ≡ length pre = omega arith in
    ap (extents_below (map data_file (pre ++ []))) same ∙ sym (append-nil (extents_below (map data_file (pre ++ [])) (length pre)))
below-are pre (f ∷ fs) numbers small =
    let next : List FileSpec = pre ++ f ∷ [] in
    let whole : next ++ fs ≡ pre ++ f ∷ fs = append_assoc pre (f ∷ []) fs in
    let all : List DataFile = map data_file (pre ++ f ∷ fs) in
    let more : length next ≡ suc (length pre) = omega (arith, length-append pre (f ∷ [])) in
    let sum : total_extents (in_set (f ∷ fs)) ≡ f.extents + total_extents (in_set fs) = sum_by-cons (λ (g : HeaderFile). g.spec.extents) (record { spec = f; in_set = true }) (in_set fs) in
    let rest = below-are next fs (subst (λ (n : ℕ). AreNumbered n (in_set fs)) (omega (arith, more)) numbers.1) (omega (arith, sum, small)) in
    let tail : extents_below all (length next + length fs) ≡ extents_below all (length next) ++ data_extents (in_set fs) =
    subst (λ (gs : List FileSpec). extents_below (map data_file gs) (length next + length fs) ≡ extents_below (map data_file gs) (length next) ++ data_extents (in_set fs)) whole rest in
    let here : extents_to (length pre + 1) (extent_count (pages_in all (length pre + 1))) ≡ some_of f.number 1 f.extents =
    to-some (length pre + 1) (extent_count (pages_in all (length pre + 1)))
    ∙ ap (some_of (length pre + 1) 1) (count-here pre f fs (omega (arith, sum, small)))
    ∙ ap (λ (n : ℕ). some_of n 1 f.extents) (sym numbers.0) in
    let step : extents_below all (length next) ≡ extents_below all (length pre) ++ some_of f.number 1 f.extents =
    ap (extents_below all) more ∙ ap (λ (xs : List ExtentId). extents_below all (length pre) ++ xs) here in
    let counts : length pre + suc (length fs) ≡ length next + length fs = omega (arith, more) in
    ap (extents_below all) counts
    ∙ tail
    ∙ ap (λ (xs : List ExtentId). xs ++ data_extents (in_set fs)) step
    ∙ append_assoc (extents_below all (length pre)) (some_of f.number 1 f.extents) (data_extents (in_set fs))

pub extents-are : (files : List FileSpec) → length files ≤ 16 → AreNumbered 1 (in_set files) → total_extents (in_set files) ≤ 4096 → extents_of (map data_file files) ≡ data_extents (in_set files)
extents-are files few numbers small =
    let size : length (map data_file files) ≡ length files = length-map files data_file in
    let all : min (length (map data_file files)) 65535 ≡ 0 + length files = omega (arith, size, few) in
    ap (extents_below (map data_file files)) all ∙ below-are [] files numbers small

-- ---- they are low

abbrev pub IsLow : ℕ → ExtentId → Type 0
IsLow n x = (x.file < n) × (x.extent ≤ 4096)

some-low : (n file from count : ℕ) → file < n → from + count ≤ 4097 → AllByRecursion (IsLow n) (some_of file from count)
some-low n file from zero own low = tt
some-low n file from (suc count) own low = ((own, omega (arith, low)), some-low n file (from + 1) count own (omega (arith, low)))

files-low : (n end : ℕ) (files : List HeaderFile) → AreNumbered n files → n + length files ≤ end → total_extents files ≤ 4096 → AllByRecursion (IsLow end) (data_extents files)
files-low n end [] numbers few small = tt
files-low n end (f ∷ files) numbers few small =
    let sum : total_extents (f ∷ files) ≡ f.spec.extents + total_extents files = sum_by-cons (λ (g : HeaderFile). g.spec.extents) f files in
    all_joined (IsLow end) (some_of f.spec.number 1 f.spec.extents) (data_extents files)
    (some-low end f.spec.number 1 f.spec.extents (let own = numbers.0 in omega (arith, own, few)) (omega (arith, sum, small)))
    (files-low (n + 1) end files numbers.1 (omega (arith, few)) (omega (arith, sum, small)))

pub extents-low : (files : List HeaderFile) → length files ≤ 16 → AreNumbered 1 files → total_extents files ≤ 4096 → AllByRecursion (IsLow 17) (data_extents files)
extents-low files few numbers small = files-low 1 17 files numbers (omega (arith, few)) small

-- ---- copies

-- copies have the numbers of what was copied
pub copies-are : (told : Told) (ids : List ExtentId) (copies : List Extent) → AreCopies told ids copies → map id_of copies ≡ ids
copies-are told [] [] are = refl
copies-are told [] (c ∷ copies) are = absurd are
copies-are told (x ∷ ids) [] are = absurd are
copies-are told (x ∷ ids) (c ∷ copies) are =
    let same : id_of c ≡ x = ap (λ (n : ℕ). record { file = n; extent = c.extent }) are.0.file ∙ ap (λ (n : ℕ). record { file = x.file; extent = n }) are.0.number in
    ap (λ (y : ExtentId). y ∷ map id_of copies) same ∙ ap (λ (ys : List ExtentId). x ∷ ys) (copies-are told ids copies are.1)
