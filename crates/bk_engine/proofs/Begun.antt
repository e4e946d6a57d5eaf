-- A backup begins: all data extents of its database are left.
use Rattle.std.proofs.Common.{◌≡◌, ◌≤◌, ◌+◌, ◌-◌, ◌*◌, ◌/◌, ◌∙◌, ℕ, zero, suc, List, [], ◌∷◌, ◌++◌, length, length-append, map, Some, refl, sym, ap, subst, append_assoc, add-one, arith}
use Rattle.std.specs.Prelude.{min, slice_get}
use Rattle.std.specs.Option.{option_map_or}
use Rattle.std.proofs.lemmas.List.{append-nil, length-map}
use Rattle.std.proofs.lemmas.List.Sums.{sum_by-cons}
use Rattle.bk_copying.specs.Extents.{extent_count, extents_below, extents_of, extents_to}
use Rattle.bk_device.specs.Disk.{Disk}
use Rattle.bk_facts.specs.declared.facts.DataFile.{DataFile}
use Rattle.bk_fields.specs.Guids.{IsGuid}
use Rattle.bk_ids.specs.declared.record.ExtentId.{ExtentId}
use Rattle.bk_machine.specs.declared.job.Job.{Job}
use Rattle.bk_machine.specs.Files.{CountFrom, extents_in}
use Rattle.bk_machine.specs.NamedLaws.{of-named}
use Rattle.bk_machine.specs.Sound.{IsSound, IsWholeDatabase}
use Rattle.bk_machine.specs.statements.Backup.{all_extents, extents_from}
use Rattle.bk_machine.specs.World.{Database, World, database_named}
use Rattle.bk_paged.specs.Names.{pages_in}
use Rattle.bk_store.specs.Told.{data_file}
use Rattle.bk_volume.specs.Staging.{HoldsParts}
use Rattle.bk_world.specs.declared.database.FileSpec.{FileSpec}
use Rattle.bk_engine.specs.Copied.{staging_of}
use Rattle.bk_engine.specs.Copying.{IsCopiedOf}

-- ---- the extents of one file

from-last : (file from n last : ℕ) → last ≡ from + n → extents_from file from (suc n) ≡ extents_from file from n ++ (record { file = file; extent = last }) ∷ []
from-last file from zero last is = ap (λ (k : ℕ). (record { file = file; extent = k }) ∷ []) (omega (arith, is))
from-last file from (suc n) last is = ap (λ (xs : List ExtentId). (record { file = file; extent = from }) ∷ xs) (from-last file (from + 1) n last (omega (arith, is)))

to-from : (file n : ℕ) → extents_to file n ≡ extents_from file 1 n
to-from file zero = refl
to-from file (suc n) = ap (λ (xs : List ExtentId). xs ++ (record { file = file; extent = n + 1 }) ∷ []) (to-from file n) ∙ sym (from-last file 1 n (n + 1) (omega arith))

-- ---- those of all files

there : (pre : List FileSpec) (f : FileSpec) (fs : List FileSpec) → slice_get (map data_file (pre ++ f ∷ fs)) (length pre) ≡ Some (data_file f)
there [] f fs = refl
there (g ∷ pre) f fs = there pre f fs

count-of : (n : ℕ) → n ≤ 4096 → extent_count (8 + 8 * n) ≡ n
count-of n low = let size : (8 + 8 * n) / 8 - 1 ≡ n = omega arith in omega (arith, size, low)

count-here : (pre : List FileSpec) (f : FileSpec) (fs : List FileSpec) → f.extents ≤ 4096 → extent_count (pages_in (map data_file (pre ++ f ∷ fs)) (length pre + 1)) ≡ f.extents
count-here pre f fs low =
    ap (λ (n : ℕ). extent_count (pages_in (map data_file (pre ++ f ∷ fs)) n)) (add-one (length pre))
    ∙ ap (λ o. extent_count (option_map_or (λ (d : DataFile). d.pages) o 0)) (there pre f fs)
    ∙ count-of f.extents low

-- numbered from here on, each with at most 4,096 extents
abbrev pub AreInOrder : ℕ → List FileSpec → Type 0
AreInOrder n [] = Unit {0}
AreInOrder n (f ∷ fs) = (f.number ≡ n) × (f.extents ≤ 4096) × AreInOrder (n + 1) fs

below-are : (pre fs : List FileSpec) → AreInOrder (length pre + 1) fs → extents_below (map data_file (pre ++ fs)) (length pre + length fs) ≡ extents_below (map data_file (pre ++ fs)) (length pre) ++ all_extents fs
below-are pre [] numbers =
    let same : length pre + 0 ≡ length pre = omega arith in
    ap (extents_below (map data_file (pre ++ []))) same ∙ sym (append-nil (extents_below (map data_file (pre ++ [])) (length pre)))
below-are pre (f ∷ fs) numbers =
    let next : List FileSpec = pre ++ f ∷ [] in
    let whole : next ++ fs ≡ pre ++ f ∷ fs = append_assoc pre (f ∷ []) fs in
    let all : List DataFile = map data_file (pre ++ f ∷ fs) in
    let more : length next ≡ suc (length pre) = omega (arith, length-append pre (f ∷ [])) in
    let rest = below-are next fs (subst (λ (n : ℕ). AreInOrder n fs) (omega (arith, more)) numbers.2) in
    let tail : extents_below all (length next + length fs) ≡ extents_below all (length next) ++ all_extents fs =
    subst (λ (gs : List FileSpec). extents_below (map data_file gs) (length next + length fs) ≡ extents_below (map data_file gs) (length next) ++ all_extents fs) whole rest in
    let here : extents_to (length pre + 1) (extent_count (pages_in all (length pre + 1))) ≡ extents_from f.number 1 f.extents =
    to-from (length pre + 1) (extent_count (pages_in all (length pre + 1)))
    ∙ ap (extents_from (length pre + 1) 1) (count-here pre f fs numbers.1)
    ∙ ap (λ (n : ℕ). extents_from n 1 f.extents) (sym numbers.0) in
    let step : extents_below all (length next) ≡ extents_below all (length pre) ++ extents_from f.number 1 f.extents =
    ap (extents_below all) more ∙ ap (λ (xs : List ExtentId). extents_below all (length pre) ++ xs) here in
    let counts : length pre + suc (length fs) ≡ length next + length fs = omega (arith, more) in
    ap (extents_below all) counts
    ∙ tail
    ∙ ap (λ (xs : List ExtentId). xs ++ all_extents fs) step
    ∙ append_assoc (extents_below all (length pre)) (extents_from f.number 1 f.extents) (all_extents fs)

pub all-are : (files : List FileSpec) → length files ≤ 16 → AreInOrder 1 files → all_extents files ≡ extents_of (map data_file files)
all-are files few numbers =
    let size : length (map data_file files) ≡ length files = length-map files data_file in
    let all : min (length (map data_file files)) 65535 ≡ 0 + length files = omega (arith, size, few) in
    sym (ap (extents_below (map data_file files)) all ∙ below-are [] files numbers)

in-order : (n : ℕ) (files : List FileSpec) → CountFrom n files → extents_in files ≤ 4096 → AreInOrder n files
in-order n [] numbers small = tt
in-order n (f ∷ fs) numbers small =
    let sum : extents_in (f ∷ fs) ≡ f.extents + extents_in fs = sum_by-cons (λ (g : FileSpec). g.extents) f fs in
    (numbers.0, omega (arith, sum, small), in-order (n + 1) fs numbers.1 (omega (arith, sum, small)))

-- those of a database
pub all-of : (w : World) (name : List ℕ) (db : Database) → IsSound w → database_named w.databases name ≡ Some db → all_extents db.files ≡ extents_of (map data_file db.files)
all-of w name db sound found =
    let whole : IsWholeDatabase w db = of-named (IsWholeDatabase w) w.databases name db sound.whole.databases found in
    let files = whole.fits.storage.files in
    let few = files.few in
    all-are db.files (omega (arith, few)) (in-order 1 db.files files.numbered files.small)

-- ---- the backup

-- nothing of it is copied yet
pub begun-of : (w : World) (name : List ℕ) (job : Job) (disk : Disk) (db : Database) → database_named w.databases name ≡ Some db → IsGuid job.set → job.left ≡ all_extents db.files → all_extents db.files ≡ extents_of (map data_file db.files) → HoldsParts disk (staging_of job.set 0) [] []
    → IsCopiedOf w name disk job
begun-of w name job disk db found guid left same parts = record {
  guid = guid;
  db = db;
  found = found;
  count = 0;
  holds = record { extents = []; order = left ∙ same; read = tt; parts = parts };
}
