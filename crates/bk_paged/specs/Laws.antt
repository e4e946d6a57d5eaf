-- What the layers above may take of a database.
use Rattle.std.proofs.Common.{◌≡◌, ◌≤◌, ◌⊎◌, ℕ, zero, suc, ◌+◌, ◌-◌, List, [], ◌∷◌, length, drop, map, Some, get_or, refl, inl, inr, sym, ap, subst, ◌∙◌, arith}
use Rattle.std.proofs.lemmas.List.{length-drop}
use Rattle.std.specs.List.{AllByRecursion}
use Rattle.std.specs.Prelude.{slice_get}
use Rattle.bk_device.specs.Compose.{effect_weaken}
use Rattle.bk_device.specs.Disk.{Files, Disk}
use Rattle.bk_device.specs.Effects.{Effect}
use Rattle.bk_facts.specs.declared.facts.DataFile.{DataFile}
use Rattle.bk_ids.specs.declared.record.Rec.{Rec}
use Rattle.bk_log.specs.Log.{IsLog, value_of, Kept as KeptLog}
use Rattle.bk_paths.specs.PageLaws.{page_since}
use Rattle.bk_record.specs.Spelling.{IsRecord}
use Rattle.bk_paths.specs.Paths.{IsPath, KeepsOpen, kept_from}
use Rattle.bk_redo.specs.declared.place.PageAt.{PageAt}
use Rattle.bk_redo.specs.PageStates.{page_of}
use Rattle.bk_segments.specs.Files.{IsOwn as IsOfLog, blobs_of}
use Rattle.bk_segments.specs.Records.{records_of}
use Rattle.bk_side.specs.Names.{data_file, side_file, name_of, IsOwn as IsOfSide}
use Rattle.bk_paged.specs.Holds.{IsStored, Leaves, Recovers, Stood}
use Rattle.bk_paged.specs.Names.{IsOwn, names_of}

-- ---- the names differ

abbrev pub letter : List ℕ → ℕ
letter name = get_or name 0 0

pub side_letter : (db : ℕ) → letter (side_file db) ≡ 98
unfolding side_file
side_letter db = refl

data_letter : (path : List ℕ) → letter (data_file path) ≡ 112
unfolding data_file
data_letter path = refl

named_letter : (paths : List (List ℕ)) (i : ℕ) (name : List ℕ) → slice_get (map data_file paths) i ≡ Some name → letter name ≡ 112
named_letter [] i name is = absurd cc
named_letter (path ∷ paths) zero name is = let same : data_file path ≡ name = cc in ap letter (sym same) ∙ data_letter path
named_letter (path ∷ paths) (suc i) name is = named_letter paths i name is

pub file_letter : (files : List DataFile) (file : ℕ) (name : List ℕ) → name_of (names_of files) file ≡ Some name → letter name ≡ 112
file_letter files zero name is = absurd cc
file_letter files (suc i) name is = named_letter (map (λ (f : DataFile). f.path) files) i name is

pub own_letter : (db : ℕ) (files : List DataFile) (name : List ℕ) → IsOfSide (side_file db) (names_of files) name → (letter name ≡ 98) ⊎ (letter name ≡ 112)
own_letter db files name own = elim own [
  | inl side ↦ inl (ap letter side ∙ side_letter db)
  | inr file ↦ inr (file_letter files file.0 name file.1)
]

pub log_letter : (db : ℕ) (name : List ℕ) → IsOfLog db name → (letter name ≡ 99) ⊎ (letter name ≡ 103)
log_letter db name own = elim own [
  | inl control ↦ inl (ap letter control)
  | inr segment ↦ inr (ap letter segment.1)
]

-- no name is the log's and the side file's or a data file's
pub apart : (db : ℕ) (files : List DataFile) (name : List ℕ) → IsOfLog db name → IsOfSide (side_file db) (names_of files) name → ⊥
apart db files name log side = elim (log_letter db name log) [
  | inl c ↦ elim (own_letter db files name side) [ inl b ↦ absurd (omega (arith, c, b)) | inr p ↦ absurd (omega (arith, c, p)) ]
  | inr g ↦ elim (own_letter db files name side) [ inl b ↦ absurd (omega (arith, g, b)) | inr p ↦ absurd (omega (arith, g, p)) ]
]

-- ---- records and pages

all_drop : {X : Type 0} (P : X → Type 0) (n : ℕ) (xs : List X) → AllByRecursion P xs → AllByRecursion P (drop n xs)
all_drop P zero xs all = all
all_drop P (suc n) [] all = tt
all_drop P (suc n) (x ∷ xs) all = all_drop P n xs all.1

-- the records of a path from a number on have spellings
pub kept_spelled : (kept : ℕ) (records : List Rec) → IsPath records → AllByRecursion IsRecord (kept_from kept records)
kept_spelled kept records path = all_drop IsRecord (kept - 1) records path.spelled

-- how many records of a log are durable
pub stored_length : (disk : Disk) (log : KeptLog) → IsLog disk log → log.head.kept + length (value_of disk.files log).records ≡ log.stored
stored_length disk log is =
    let all : List Rec = records_of (blobs_of disk.files log.db log.head) in
    omega (arith, is.run.ends, is.sound.kept, is.inside, length-drop (log.head.kept - log.head.first) all)

-- the same pages, from a lower number on and with a log that is kept from another number on
pub recovers_as : (kept lower since point : ℕ) (files : List DataFile) (shown other : PageAt → List ℕ) (records : List Rec) → Recovers kept since files shown records → 1 ≤ lower → lower ≤ point → point ≤ since → KeepsOpen lower records
    → ((at : PageAt) → other at ≡ shown at) → Recovers lower point files other records
recovers_as kept lower since point files shown other records is some order early opened same = record {
  path = is.path;
  some = some;
  order = order;
  early = omega (arith, early, is.early);
  opened = opened;
  room = is.room;
  pages = λ at there.
      let page = is.pages at there in
      let Of : List ℕ → Type 0 = IsStored records point at in
      subst Of (sym (same at)) (record { sound = page.sound; place = page.place; is_page = page_since records since point at (page_of (shown at)) early page.is_page });
}

-- ---- what a crash leaves

-- what leaves many records leaves fewer
pub leaves_fewer : (db few many : ℕ) (stood : Stood) (image : Files) → few ≤ many → Leaves db many stood image → Leaves db few stood image
leaves_fewer db few many stood image order leaves = (leaves.0, omega (arith, order, leaves.1), leaves.2)

pub effect_fewer : (db few many : ℕ) (stood : Stood) (a b : Disk) → few ≤ many → Effect (IsOwn db stood.files) (Leaves db many stood) a b → Effect (IsOwn db stood.files) (Leaves db few stood) a b
effect_fewer db few many stood a b order effect = effect_weaken (λ image leaves. leaves_fewer db few many stood image order leaves) effect

-- the same of a value for the same database with no fewer durable records
pub crash_as : (db other few many : ℕ) (stood : Stood) (a b : Disk) → other ≡ db → few ≤ many → Effect (IsOwn other stood.files) (Leaves other many stood) a b → Effect (IsOwn db stood.files) (Leaves db few stood) a b
crash_as db other few many stood a b same order effect =
    effect_fewer db few many stood a b order (subst (λ (n : ℕ). Effect (IsOwn n stood.files) (Leaves n many stood) a b) same effect)
