-- What the layers above may take of files that are filled.
use Rattle.std.proofs.Common.{◌≡◌, ◌≢◌, ◌⊎◌, ℕ, zero, suc, ◌+◌, List, [], ◌∷◌, map, length, get_or, Option, Some, refl, sym, inl, inr, ap, subst, ◌∙◌, arith}
use Rattle.std.specs.Prelude.{option_map, slice_get}
use Rattle.std.proofs.lemmas.Option.{slice_get-map}
use Rattle.bk_device.specs.Calls.{contents}
use Rattle.bk_device.specs.Compose.{durable_kept, keeps_by_effect}
use Rattle.bk_device.specs.Disk.{Files, Disk, IsDurable}
use Rattle.bk_device.specs.Effects.{Effect, IsName, KeepsFiles}
use Rattle.bk_facts.specs.declared.facts.DataFile.{DataFile}
use Rattle.bk_gate.specs.Blobs.{sealed}
use Rattle.bk_gate.specs.Laws.{gate_kept}
use Rattle.bk_ids.specs.declared.record.Rec.{Rec}
use Rattle.bk_segments.specs.Files.{blobs_at, blobs_from, control_file, segment_file, IsOwn as IsOfLog}
use Rattle.bk_segments.specs.FileLaws.{from_same}
use Rattle.bk_segments.specs.Records.{records_of, IsRun}
use Rattle.bk_side.specs.Names.{IsData, data_file, name_of, side_file, IsOwn as IsOfSide}
use Rattle.bk_side.specs.Pages.{page_in}
use Rattle.bk_filling.specs.Filling.{IsFilling, Kept, Shows, begun, names_of}
use Rattle.bk_filling.specs.Records.{HasRecords, IsBegun, Kept as KeptLog}
use Rattle.bk_filling.specs.Removing.{AreGone}

-- ---- names

-- the name of a data file stands at its place
pub named : (files : List DataFile) (i : ℕ) (d : DataFile) → slice_get files i ≡ Some d → slice_get (names_of files) i ≡ Some (data_file d.path)
named files i d at =
    slice_get-map data_file (map (λ (f : DataFile). f.path) files) i
    ∙ ap (λ (o : Option (List ℕ)). option_map data_file o) (slice_get-map (λ (f : DataFile). f.path) files i ∙ ap (λ (o : Option DataFile). option_map (λ (f : DataFile). f.path) o) at)

pub is_data : (files : List DataFile) (i : ℕ) (d : DataFile) → slice_get files i ≡ Some d → IsData (names_of files) (data_file d.path)
is_data files i d at = (suc i, named files i d at)

-- what is done under other names leaves a name durable
pub still : {P : Files → Type 0} (name other : List ℕ) (a b : Disk) → Effect (IsName name) P a b → other ≢ name → IsDurable a other → IsDurable b other
still name other a b effect off durable = durable_kept {names = IsName other} other refl (keeps_by_effect (λ n at own. off (sym at ∙ own)) effect) durable

-- ---- names of the log differ from the others

abbrev letter : List ℕ → ℕ
letter name = get_or name 0 0

side_letter : (db : ℕ) → letter (side_file db) ≡ 98
unfolding side_file
side_letter db = refl

data_letter : (path : List ℕ) → letter (data_file path) ≡ 112
unfolding data_file
data_letter path = refl

named_letter : (paths : List (List ℕ)) (i : ℕ) (name : List ℕ) → slice_get (map data_file paths) i ≡ Some name → letter name ≡ 112
named_letter [] i name is = absurd cc
named_letter (path ∷ paths) zero name is = let same : data_file path ≡ name = cc in ap letter (sym same) ∙ data_letter path
named_letter (path ∷ paths) (suc i) name is = named_letter paths i name is

file_letter : (paths : List (List ℕ)) (file : ℕ) (name : List ℕ) → name_of (map data_file paths) file ≡ Some name → letter name ≡ 112
file_letter paths zero name is = absurd cc
file_letter paths (suc i) name is = named_letter paths i name is

own_letter : (db : ℕ) (paths : List (List ℕ)) (name : List ℕ) → IsOfSide (side_file db) (map data_file paths) name → (letter name ≡ 98) ⊎ (letter name ≡ 112)
own_letter db paths name own = elim own [
  | inl side ↦ inl (ap letter side ∙ side_letter db)
  | inr file ↦ inr (file_letter paths file.0 name file.1)
]

log_letter : (db : ℕ) (name : List ℕ) → IsOfLog db name → (letter name ≡ 99) ⊎ (letter name ≡ 103)
log_letter db name own = elim own [
  | inl control ↦ inl (ap letter control)
  | inr segment ↦ inr (ap letter segment.1)
]

-- no name is the log's and the side file's or a data file's
pub apart_paths : (db : ℕ) (paths : List (List ℕ)) (name : List ℕ) → IsOfLog db name → IsOfSide (side_file db) (map data_file paths) name → ⊥
apart_paths db paths name log side = elim (log_letter db name log) [
  | inl c ↦ elim (own_letter db paths name side) [ inl b ↦ absurd (omega (arith, c, b)) | inr p ↦ absurd (omega (arith, c, p)) ]
  | inr g ↦ elim (own_letter db paths name side) [ inl b ↦ absurd (omega (arith, g, b)) | inr p ↦ absurd (omega (arith, g, p)) ]
]

-- the side file is no data file
pub not_side : (db : ℕ) (paths : List (List ℕ)) (name : List ℕ) → IsData (map data_file paths) name → name ≢ side_file db
not_side db paths name at same =
    let p : letter name ≡ 112 = file_letter paths at.0 name at.1 in
    let b : letter name ≡ 98 = ap letter same ∙ side_letter db in
    absurd (omega (arith, p, b))

-- ---- data files

-- where no data file is there, none is begun
pub begun_fills : (files : List DataFile) (disk : Disk) → AreGone (IsData (names_of files)) disk → IsFilling disk (begun files)
begun_fills files disk gone = record {
  durable = λ i d low at. absurd (omega (arith, low));
  begun = λ d at. ap (λ (o : Option (List ℕ)). length (contents o)) (gone (data_file d.path) (is_data files 0 d at)).0;
  later = λ i d high at. ap (λ (o : Option (List ℕ)). length (contents o)) (gone (data_file d.path) (is_data files i d at)).0;
}

-- what is done under other names leaves them
pub filling_kept : (f : Kept) (a b : Disk) → KeepsFiles (IsData (names_of f.files)) a b → IsFilling a f → IsFilling b f
filling_kept f a b keeps is = record {
  durable = λ i d low at. durable_kept {names = IsData (names_of f.files)} (data_file d.path) (is_data f.files i d at) keeps (is.durable i d low at);
  begun = λ d at. ap (λ (o : Option (List ℕ)). length (contents o)) (keeps.same (data_file d.path) (is_data f.files f.whole d at)) ∙ is.begun d at;
  later = λ i d high at. ap (λ (o : Option (List ℕ)). length (contents o)) (keeps.same (data_file d.path) (is_data f.files i d at)) ∙ is.later i d high at;
}

pub shows_kept : (f : Kept) (g h : Files) (given : ℕ × ℕ → List ℕ) → ((name : List ℕ) → IsData (names_of f.files) name → h name ≡ g name) → Shows g f given → Shows h f given
shows_kept f g h given same is = record {
  whole = λ i d number low at inside. ap (λ (o : Option (List ℕ)). page_in (contents o) number) (same (data_file d.path) (is_data f.files i d at)) ∙ is.whole i d number low at inside;
  begun = λ d number at inside. ap (λ (o : Option (List ℕ)). page_in (contents o) number) (same (data_file d.path) (is_data f.files f.whole d at)) ∙ is.begun d number at inside;
}

-- ---- a log

pub log_kept : (log : KeptLog) (a b : Disk) → KeepsFiles (IsOfLog log.db) a b → IsBegun a log → IsBegun b log
log_kept log a b keeps is =
    let mine : (name : List ℕ) → IsName log.gate.name name → IsOfLog log.db name = λ name at. inr (log.back, at ∙ is.name) in
    record {
      name = is.name;
      gates = gate_kept (record { same = λ name at. keeps.same name (mine name at); nothing_more = λ name at. keeps.nothing_more name (mine name at) }) is.gates;
      none = keeps.same (control_file log.db) (inl refl) ∙ is.none;
      some = λ n low high none. is.some n low high (sym (ap sealed (keeps.same (segment_file log.db n) (inr (n, refl)))) ∙ none);
      durable = λ n low high. durable_kept {names = IsOfLog log.db} (segment_file log.db n) (inr (n, refl)) keeps (is.durable n low high);
    }

pub records_kept : (log : KeptLog) (g h : Files) (records : List Rec) → ((name : List ℕ) → IsOfLog log.db name → h name ≡ g name) → HasRecords g log records → HasRecords h log records
records_kept log g h records same is =
    let blobs : blobs_from (blobs_at h log.db) 1 log.back ≡ blobs_from (blobs_at g log.db) 1 log.back = from_same (blobs_at g log.db) (blobs_at h log.db) 1 log.back (λ n low high. ap sealed (same (segment_file log.db n) (inr (n, refl)))) in
    record {
      run = subst (λ (bs : List (List ℕ)). IsRun log.kept bs (log.kept + length records)) (sym blobs) is.run;
      are = ap records_of blobs ∙ is.are;
    }
