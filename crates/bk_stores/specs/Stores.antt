-- The databases of an instance on its device: each a store of its own, under the instance's record.
-- SQL Server: "Database Files and Filegroups"; "System Databases", master.
use Rattle.std.specs.Prelude.{◌≡◌, ◌≤◌, ◌<◌, ◌^◌, ◌⊎◌, ◌++◌, ℕ, Bool, true, false, List, [], length, map, Option, Some, None, slice_get}
use Rattle.bk_device.specs.Disk.{Files, Disk}
use Rattle.bk_device.specs.Effects.{Effect}
use Rattle.bk_facts.specs.declared.facts.DataFile.{DataFile}
use Rattle.bk_known.specs.declared.known.Known.{Known}
use Rattle.bk_known.specs.Known.{known_bytes}
use Rattle.bk_master.specs.declared.record.Entry.{Entry}
use Rattle.bk_master.specs.declared.record.Own.{Own}
use Rattle.bk_master.specs.declared.record.Record.{Record}
use Rattle.bk_master.specs.declared.record.Unfinished.{Unfinished}
use Rattle.bk_master.specs.Master.{HoldsRecord, IsMaster, IsOwn as IsOfMaster, Kept as KeptMaster}
use Rattle.bk_paged.specs.Names.{AreDurable, IsOwn}
use Rattle.bk_master.specs.Spelling.{KeepsRecord}
use Rattle.bk_segments.specs.Files.{LogIs, Logged, AreDurable as LogsAreDurable}
use Rattle.bk_store.specs.Store.{IsStore, sealed_in, Kept as KeptStore}
use Rattle.bk_store.specs.Told.{HoldsRecords, IsNoted, Told, data_files, front_of}
use Rattle.bk_stores.specs.Beside.{AreApart}
use Rattle.bk_world.specs.Cut.{end_behind}

-- ---- one database

-- Files hold a description alone, as of the end of the database's records, in the note of a log without records.
pub record HoldsNote (db : ℕ) (told : Told) (image : Files) : Type 0 where
  pub known : Known
  pub noted : IsNoted known told
  pub from : known.as_of.from ≡ end_behind told.records
  pub log : Logged
  pub log_is : LogIs image db log
  pub same_note : log.note ≡ known_bytes known ++ told.note
  pub none : log.records ≡ []

-- files hold a database with its pages and its log, or its description alone
abbrev pub HoldsBy : Bool → ℕ → Told → Files → Type 0
HoldsBy true db told image = HoldsRecords db told image
HoldsBy false db told image = HoldsNote db told image

-- the store of an entry does
abbrev pub HoldsEntry : Entry → Told → Files → Type 0
HoldsEntry e told image = HoldsBy e.is_stored e.store told image

-- a crash leaves a front of its records, at least so many of them
abbrev pub LeavesEntry : Entry → ℕ → Told → Files → Type 0
LeavesEntry e least told image = (k : ℕ) × (least ≤ k) × HoldsEntry e (front_of k told) image

-- the data files that are there of a database: none where it isn't stored
abbrev pub files_by : Bool → Told → List DataFile
files_by true told = data_files told
files_by false told = []

abbrev pub its_files : Entry → Told → List DataFile
its_files e told = files_by e.is_stored told

-- the files of an entry's store
abbrev pub IsOfEntry : Entry → Told → List ℕ → Type 0
IsOfEntry e told name = IsOwn e.store (its_files e told) name

-- A store that isn't open: nothing is pending in its files.
pub record IsShut (disk : Disk) (e : Entry) (told : Told) : Type 0 where
  pub durable : AreDurable e.store (its_files e told) disk
  pub holds : HoldsEntry e told disk.files

-- One that is open.
pub record IsOpen (disk : Disk) (e : Entry) (s : KeptStore) (told : Told) : Type 0 where
  pub number : s.paged.log.db ≡ e.store
  pub stored : e.is_stored ≡ true
  pub fit : s.paged.failed ≡ false
  pub store : IsStore disk s told

abbrev pub IsSlot : Disk → Entry → Option KeptStore → Told → Type 0
IsSlot disk e None told = IsShut disk e told
IsSlot disk e (Some s) told = IsOpen disk e s told

-- how many records of it are durable
abbrev pub sealed_by : Option KeptStore → Told → ℕ
sealed_by None told = length told.records
sealed_by (Some s) told = sealed_in s

-- ---- all of them

-- an entry of a record, and its database
abbrev pub IsAt : List Entry → List Told → ℕ → Entry → Told → Type 0
IsAt entries tolds i e told = (slice_get entries i ≡ Some e) × (slice_get tolds i ≡ Some told)

-- data files at these paths, of whatever length
abbrev pub at_paths : List (List ℕ) → List DataFile
at_paths paths = map (λ p. record { path = p; pages = 0 }) paths

-- Databases for the entries of a record: each store has a number of its own below the next one, and no two share a file; nor does one share a file with what is being made or removed, whose numbers lie below the
-- next one too.
pub record AreEntries (r : Record) (tolds : List Told) : Type 0 where
  pub keeps : KeepsRecord r
  pub count : length tolds ≡ length r.databases
  pub below : (i : ℕ) (e : Entry) → slice_get r.databases i ≡ Some e → e.store < r.next
  pub under : (k : ℕ) (u : Unfinished) → slice_get r.unfinished k ≡ Some u → u.store < r.next
  pub apart : (i j : ℕ) (e f : Entry) (t u : Told) → (i ≡ j → ⊥) → IsAt r.databases tolds i e t → IsAt r.databases tolds j f u → AreApart e.store (its_files e t) f.store (its_files f u)
  pub aside : (i k : ℕ) (e : Entry) (t : Told) (u : Unfinished) → IsAt r.databases tolds i e t → slice_get r.unfinished k ≡ Some u → AreApart u.store (at_paths u.paths) e.store (its_files e t)

-- What of a record a crash leaves as it is: its own part, and which of the databases are stored.
pub record Fixed : Type 0 where
  pub own : Own
  pub stored : List Bool

abbrev pub fixed_of : Record → Fixed
fixed_of r = record { own = r.own; stored = map (λ (e : Entry). e.is_stored) r.databases }

-- files hold these databases
pub record HoldsStores (image : Files) (r : Record) (tolds : List Told) : Type 0 where
  pub is_record : HoldsRecord image r
  pub entries : AreEntries r tolds
  pub each : (i : ℕ) (e : Entry) (t : Told) → IsAt r.databases tolds i e t → HoldsEntry e t image

-- files hold fronts of their records, of each at least so many, under a record with this own part, and with these of them stored
pub record LeavesStores (fixed : Fixed) (least : ℕ → ℕ) (tolds : List Told) (image : Files) : Type 0 where
  pub «record» : Record
  pub is_record : HoldsRecord image «record»
  pub is_fixed : fixed_of «record» ≡ fixed
  pub entries : AreEntries «record» tolds
  pub each : (i : ℕ) (e : Entry) (t : Told) → IsAt «record».databases tolds i e t → LeavesEntry e (least i) t image

-- what contracts see of an instance's stores
pub record Kept : Type 0 where
  pub master : KeptMaster
  -- in the order of the record's entries; none where a store isn't open
  pub slots : List (Option KeptStore)

-- each slot of these entries stands on the disk
abbrev pub SlotsStand : Disk → List Entry → List (Option KeptStore) → List Told → Type 0
SlotsStand disk entries slots tolds = (i : ℕ) (e : Entry) (slot : Option KeptStore) (t : Told) → IsAt entries tolds i e t → slice_get slots i ≡ Some slot → IsSlot disk e slot t

-- nothing is pending in a log of a store that isn't made yet
abbrev pub IsFree : ℕ → Disk → Type 0
IsFree next disk = (n : ℕ) → next ≤ n → n < 2 ^ 32 → LogsAreDurable n disk

-- The slots of a record's entries stand for these databases.
pub record StandFor (disk : Disk) (r : Record) (slots : List (Option KeptStore)) (tolds : List Told) : Type 0 where
  pub entries : AreEntries r tolds
  pub count : length slots ≡ length tolds
  pub stand : SlotsStand disk r.databases slots tolds
  pub free : IsFree r.next disk

-- The stores stand for these databases, and none is being made or removed.
pub record AreStores (disk : Disk) (s : Kept) (tolds : List Told) : Type 0 where
  pub master : IsMaster disk s.master
  pub standing : StandFor disk s.master.record s.slots tolds

-- what is needed of the stores whatever the device tells: calls may be made on them, and the record has room
pub record IsReady (s : Kept) : Type 0 where
  pub fit : s.master.failed ≡ false
  pub keeps : KeepsRecord s.master.record
  pub none : s.master.record.unfinished ≡ []
  pub count : length s.slots ≡ length s.master.record.databases

-- how many records of the database at a place are durable
abbrev pub sealed_of : Option (Option KeptStore) → Option Told → ℕ
sealed_of (Some slot) (Some told) = sealed_by slot told
sealed_of _ _ = 0

abbrev pub sealed_at : Kept → List Told → ℕ → ℕ
sealed_at s tolds i = sealed_of (slice_get s.slots i) (slice_get tolds i)

-- the name is the instance's own, or one of a store
abbrev pub IsOurs : List ℕ → Type 0
IsOurs name = IsOfMaster name ⊎ ((db : ℕ) × (files : List DataFile) × IsOwn db files name)

-- a call touched files of these names alone, whatever they hold, and told nothing
abbrev pub TouchesOurs : Disk → Disk → Type 0
TouchesOurs before after = Effect IsOurs (λ _. Unit {0}) before after
