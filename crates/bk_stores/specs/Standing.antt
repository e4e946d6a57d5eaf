-- What stands of an instance's stores on its device, whatever they stand for.
use Rattle.std.specs.Prelude.{◌≡◌, ◌<◌, ◌^◌, ℕ, false, List, Option, Some, None, slice_get}
use Rattle.bk_device.specs.Disk.{Disk}
use Rattle.bk_facts.specs.declared.facts.DataFile.{DataFile}
use Rattle.bk_master.specs.declared.record.Entry.{Entry}
use Rattle.bk_master.specs.declared.record.Record.{Record}
use Rattle.bk_master.specs.declared.record.Unfinished.{Unfinished}
use Rattle.bk_master.specs.Master.{IsMaster}
use Rattle.bk_paged.specs.Names.{names_of}
use Rattle.bk_paged.specs.Paged.{Standing}
use Rattle.bk_side.specs.Names.{IsData}
use Rattle.bk_store.specs.Store.{Kept as KeptStore}
use Rattle.bk_stores.specs.Beside.{ShareNoFile}
use Rattle.bk_stores.specs.Stores.{Kept}

-- ---- numbers

-- no entry's store has this number
abbrev pub IsNew : List Entry → ℕ → Type 0
IsNew entries n = (i : ℕ) (e : Entry) → slice_get entries i ≡ Some e → n ≡ e.store → ⊥

-- no two entries' stores have one number
abbrev pub AreDifferent : List Entry → Type 0
AreDifferent entries = (i j : ℕ) (e f : Entry) → (i ≡ j → ⊥) → slice_get entries i ≡ Some e → slice_get entries j ≡ Some f → e.store ≡ f.store → ⊥

-- each entry's store has a number below this one
abbrev pub LieBelow : List Entry → ℕ → Type 0
LieBelow entries next = (i : ℕ) (e : Entry) → slice_get entries i ≡ Some e → e.store < next

-- so has each store that is being made or removed
abbrev pub LieUnder : List Unfinished → ℕ → Type 0
LieUnder unfinished next = (k : ℕ) (u : Unfinished) → slice_get unfinished k ≡ Some u → u.store < next

-- Each store of a record has a number of its own below the next one, and what is being made or removed has one below it too.
pub record AreNumbered (r : Record) : Type 0 where
  pub small : r.next < 2 ^ 32
  pub below : LieBelow r.databases r.next
  pub under : LieUnder r.unfinished r.next
  pub differ : AreDifferent r.databases

-- ---- data files

-- no open store has the data file of this name
abbrev pub IsUnused : List (Option KeptStore) → List ℕ → Type 0
IsUnused slots name = (i : ℕ) (store : KeptStore) → slice_get slots i ≡ Some (Some store) → IsData (names_of store.paged.facts.files) name → ⊥

-- none has one of these
abbrev pub AreUnused : List (Option KeptStore) → List DataFile → Type 0
AreUnused slots files = (i : ℕ) (store : KeptStore) → slice_get slots i ≡ Some (Some store) → ShareNoFile files store.paged.facts.files

-- no store is open
abbrev pub AreShut : List (Option KeptStore) → Type 0
AreShut slots = (i : ℕ) (store : KeptStore) → slice_get slots i ≡ Some (Some store) → ⊥

-- ---- what stands

-- The store of an entry is open: it has its number, isn't failed, and its log and pages stand.
pub record IsStanding (disk : Disk) (e : Entry) (store : KeptStore) : Type 0 where
  pub number : store.paged.log.db ≡ e.store
  pub fit : store.paged.failed ≡ false
  pub standing : Standing disk store.paged

-- an entry at a place, whose store this is
abbrev pub IsStandingAt : Disk → List Entry → ℕ → KeptStore → Type 0
IsStandingAt disk entries i store = (e : Entry) × (slice_get entries i ≡ Some e) × IsStanding disk e store

-- The open stores of some entries stand, and no two share a data file.
pub record StandBeside (disk : Disk) (entries : List Entry) (slots : List (Option KeptStore)) : Type 0 where
  pub each : (i : ℕ) (store : KeptStore) → slice_get slots i ≡ Some (Some store) → IsStandingAt disk entries i store
  pub beside : (i j : ℕ) (store other : KeptStore) → (i ≡ j → ⊥) → slice_get slots i ≡ Some (Some store) → slice_get slots j ≡ Some (Some other) → ShareNoFile store.paged.facts.files other.paged.facts.files

-- The instance's own files stand, and its open stores beside each other, each store with a number of its own. What is done to one store then leaves the others so.
pub record AreStanding (disk : Disk) (s : Kept) : Type 0 where
  pub master : IsMaster disk s.master
  pub numbers : AreNumbered s.master.record
  pub stores : StandBeside disk s.master.record.databases s.slots

-- ---- one more, and one lent out

-- A store, open or not, may stand beside the open ones of these slots under the entry: its number is new among these entries, and if it is open it stands and shares no data file with them.
pub record Joins (disk : Disk) (entries : List Entry) (slots : List (Option KeptStore)) (x : Entry) (slot : Option KeptStore) : Type 0 where
  pub fresh : IsNew entries x.store
  pub stands : (store : KeptStore) → slot ≡ Some store → IsStanding disk x store
  pub unused : (store : KeptStore) → slot ≡ Some store → AreUnused slots store.paged.facts.files

-- The store of a place, which is lent out, may be given back there: it stands with its entry's number, and shares no data file with the open ones.
pub record IsLent (disk : Disk) (s : Kept) (at : ℕ) (store : KeptStore) : Type 0 where
  pub out : slice_get s.slots at ≡ Some None
  pub stands : IsStandingAt disk s.master.record.databases at store
  pub unused : AreUnused s.slots store.paged.facts.files
