-- A database that is opened: with all undone that was pending in its files.
-- SQL Server: "Restore and Recovery Overview"; "Transaction Log Architecture and Management Guide".
use Rattle.std.specs.Prelude.{◌≡◌, ◌≤◌, ◌+◌, ℕ, List, [], ◌++◌, length, map}
use Rattle.std.specs.List.{All}
use Rattle.bk_cells.specs.Cells.{cell_of}
use Rattle.bk_device.specs.Disk.{Disk}
use Rattle.bk_device.specs.Effects.{Effect}
use Rattle.bk_groups.specs.Groups.{AreFiles}
use Rattle.bk_known.specs.declared.known.AsOf.{AsOf}
use Rattle.bk_known.specs.declared.known.Known.{Known}
use Rattle.bk_known.specs.Known.{IsKnown, KeepsKnown, known_bytes}
use Rattle.bk_opening.specs.Opening.{AreHeld, AreIn}
use Rattle.bk_paged.specs.Names.{AreDurable, IsOwn}
use Rattle.bk_paged.specs.Paged.{Kept as KeptPaged}
use Rattle.bk_known.specs.Storage.{HasPath}
use Rattle.bk_store.specs.Recent.{Says}
use Rattle.bk_store.specs.Told.{HoldsRecords, IsLogIn, IsNoted, LeavesRecords, Told, data_file, data_files, files_of, stood_of}
use Rattle.bk_store.specs.declared.recent.Recent.{Recent}
use Rattle.bk_world.specs.Cut.{end_behind, settled as settled_log}
use Rattle.bk_world.specs.Pending.{pending}
use Rattle.bk_world.specs.Records.{Logged}
use Rattle.bk_world.specs.declared.database.FileSpec.{FileSpec}
use Rattle.bk_reopening.specs.Cells.{AreInPool}
use Rattle.bk_reopening.specs.declared.noting.Noted.{Noted}

-- ---- what is promised

-- a database with all that is pending in it undone
abbrev pub settled : Told → Told
settled told = record told { records = settled_log told.records }

-- its files hold it, and nothing is pending in them
pub record IsClosed (db : ℕ) (told : Told) (disk : Disk) : Type 0 where
  pub durable : AreDurable db (data_files told) disk
  pub holds : HoldsRecords db told disk.files

-- Opening touches the database's own files alone, and a crash leaves its records, and perhaps some of those that undo what is pending.
abbrev pub Recovers : ℕ → Told → Disk → Disk → Type 0
Recovers db told old new = Effect (IsOwn db (data_files told)) (LeavesRecords db (length told.records) (settled told)) old new

-- ---- the parts

-- These bytes are the note of a database's log, as far as its store keeps one, and this is the note of the layer above.
pub record IsNoteOf (bytes : List ℕ) (known : Known) (note : List ℕ) : Type 0 where
  pub spelled : IsKnown known
  pub keeps : KeepsKnown known
  pub files : AreFiles known.spec.storage.files
  pub short : length note ≤ 12288
  pub is : bytes ≡ known_bytes known ++ note

-- What is read of a note: it is what is spelled there, and it may be kept.
pub record Tells (bytes : List ℕ) (noted : Noted) : Type 0 where
  pub same : (known : Known) (note : List ℕ) → IsKnown known → bytes ≡ known_bytes known ++ note → (noted.known ≡ known) × (noted.note.items ≡ note)
  pub keeps : KeepsKnown noted.known
  pub files : AreFiles noted.known.spec.storage.files
  pub short : length noted.note.items ≤ 12288

-- Data files are numbered 1, 2, .. in their order, at most 16, each with a path of 1 to 100 bytes and at most 4,096 extents.
pub record KeepsFiles (files : List FileSpec) : Type 0 where
  pub are : AreFiles files
  pub few : length files ≤ 16
  pub paths : All HasPath files

-- one of them is behind so many others
pub record IsFileBehind (before : ℕ) (file : FileSpec) : Type 0 where
  pub number : file.number ≡ before + 1
  pub size : file.extents ≤ 4096
  pub path : HasPath file

-- these say the same of tables, model and time
pub record SaysAsOf (a : AsOf) (r : Recent) : Type 0 where
  pub tables : r.tables.items ≡ a.tables
  pub model : r.model ≡ a.model
  pub time : r.time ≡ a.time

-- What is in memory is a database in which nothing is pending: all records are durable, these bytes are those that the log holds, and each page lies in a frame.
pub record IsSettled (p : KeptPaged) (bytes : List ℕ) (known : Known) (told : Told) : Type 0 where
  pub noted : IsNoted known told
  pub log : IsLogIn (files_of told) told.records
  pub quiet : pending told.records ≡ []
  pub note : p.note ≡ known_bytes known ++ told.note
  pub ends : p.log.end ≡ end_behind told.records
  pub sealed : p.log.stored ≡ p.log.end
  pub needs : p.log.head.kept ≤ known.as_of.from
  pub some : 1 ≤ p.log.head.kept
  pub held : AreHeld p (stood_of known told) bytes
  pub files_are : p.facts.files ≡ data_files told
  pub pages : AreInPool (cell_of told.records) p.pool
  pub whole : AreIn p.facts.files p.pool

-- The pages in memory are those of a log in which nothing is pending, and this is what it says of tables, model and time.
pub record IsQuiet (files : List FileSpec) (rs : List Logged) (p : KeptPaged) (r : Recent) : Type 0 where
  pub log : IsLogIn files rs
  pub quiet : pending rs ≡ []
  pub ends : p.log.end ≡ end_behind rs
  pub files_are : p.facts.files ≡ map data_file files
  pub pages : AreInPool (cell_of rs) p.pool
  pub whole : AreIn p.facts.files p.pool
  pub says : Says rs r
