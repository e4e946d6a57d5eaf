-- What a store's files hold of a database, and what a crash leaves: a list of the machine's records.
-- SQL Server: "Transaction Log Architecture and Management Guide"; "Restore and Recovery Overview".
use Rattle.std.specs.Prelude.{◌≡◌, ◌≤◌, ◌+◌, ◌*◌, ◌-◌, ℕ, List, [], ◌∷◌, ◌++◌, length, map, take}
use Rattle.bk_device.specs.Disk.{Files}
use Rattle.bk_facts.specs.declared.facts.DataFile.{DataFile}
use Rattle.bk_groups.specs.Groups.{AreFiles}
use Rattle.bk_known.specs.declared.known.AsOf.{AsOf}
use Rattle.bk_known.specs.declared.known.DatabaseSpec.{DatabaseSpec}
use Rattle.bk_known.specs.declared.known.Known.{Known}
use Rattle.bk_known.specs.Known.{IsKnown, KeepsKnown, known_bytes}
use Rattle.bk_paged.specs.Holds.{Holds, Stood}
use Rattle.bk_shown.specs.Shown.{ArePlaced}
use Rattle.bk_undo.specs.Spelled.{spelled}
use Rattle.bk_world.specs.declared.database.FileSpec.{FileSpec}
use Rattle.bk_world.specs.Cut.{end_behind}
use Rattle.bk_world.specs.Records.{Counts, Logged}
use Rattle.bk_world.specs.SoundLogs.{IsSound}
use Rattle.bk_world.specs.Telling as telling

-- What a database is to the layer above its store: its name, branches and files, that layer's note, and the machine's records of its path.
pub record Told : Type 0 where
  pub spec : DatabaseSpec
  pub note : List ℕ
  pub records : List Logged

-- a data file has 8 header pages, and 8 pages an extent
abbrev pub data_file : FileSpec → DataFile
data_file f = record { path = f.path; pages = 8 + 8 * f.extents }

abbrev pub files_of : Told → List FileSpec
files_of told = told.spec.storage.files

abbrev pub data_files : Told → List DataFile
data_files told = map data_file (files_of told)

-- A log in these files: each number once, each record where it may come and in its place, no minimal load among them.
pub record IsLogIn (files : List FileSpec) (rs : List Logged) : Type 0 where
  pub files_are : AreFiles files
  pub counts : Counts 1 rs (end_behind rs)
  pub sound : IsSound rs
  pub placed : ArePlaced files [] rs

-- the records below a number
abbrev pub below : ℕ → List Logged → List Logged
below n rs = take (n - 1) rs

-- Tables, model and last time are what the records below a number say.
pub record IsAsOf (a : AsOf) (rs : List Logged) : Type 0 where
  pub some : 1 ≤ a.from
  pub inside : a.from ≤ end_behind rs
  pub tables : a.tables ≡ telling.tables (below a.from rs)
  pub model : a.model ≡ telling.model (below a.from rs)
  pub time : a.time ≡ telling.time (below a.from rs)

-- the same database, as the layer of its log and pages keeps it: what is known of it stands in the note, and its log is needed from there on
abbrev pub stood_of : Known → Told → Stood
stood_of known told = record { files = data_files told; note = known_bytes known ++ told.note; records = map spelled told.records; needed = known.as_of.from }

-- What is known of a database, as its note spells it.
pub record IsNoted (known : Known) (told : Told) : Type 0 where
  pub spec : known.spec ≡ told.spec
  pub spelled : IsKnown known
  pub keeps : KeepsKnown known
  pub short : length told.note ≤ 12288
  pub as_of : IsAsOf known.as_of told.records

-- The files hold a database whose path has these records.
pub record HoldsRecords (db : ℕ) (told : Told) (image : Files) : Type 0 where
  pub known : Known
  pub noted : IsNoted known told
  pub log : IsLogIn (files_of told) told.records
  pub holds : Holds db (stood_of known told) image

-- a database with a front of its records
abbrev pub front_of : ℕ → Told → Told
front_of k told = record told { records = take k told.records }

-- A crash leaves the database with a front of its records, at least so many of them.
abbrev pub LeavesRecords : ℕ → ℕ → Told → Files → Type 0
LeavesRecords db least told image = (k : ℕ) × (least ≤ k) × HoldsRecords db (front_of k told) image

-- one record more is said
abbrev pub said : Told → Logged → Told
said told r = record told { records = told.records ++ r ∷ [] }

-- a database without a record
abbrev pub unsaid : DatabaseSpec → List ℕ → Told
unsaid spec note = record { spec = spec; note = note; records = [] }
