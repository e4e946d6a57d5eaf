-- Which databases an instance hosts on its device: each an open store, with its points and with what is open in it.
-- SQL Server: "Database Files and Filegroups"; "Transaction Log Architecture and Management Guide", the log buffer.
use Rattle.std.specs.Prelude.{◌≡◌, ◌⊎◌, ◌<◌, ◌≤◌, ℕ, suc, Bool, true, false, List, [], ◌++◌, drop, length, map, set, take, Option, None, Some, slice_get}
use Rattle.std.specs.List.{AllByRecursion, AllZip}
use Rattle.bk_device.specs.Disk.{Disk, Files}
use Rattle.bk_hosted.specs.Fronts.{Waits}
use Rattle.bk_hosted.specs.Hosted.{Hosted, SaysNoCheckpoint, first_points, folded, is_up, saying}
use Rattle.bk_known.specs.declared.known.Known.{Known}
use Rattle.bk_ids.specs.declared.record.Rec.{Rec}
use Rattle.bk_machine.specs.Sound.{has_begin}
use Rattle.bk_master.specs.declared.record.Own.{Own}
use Rattle.bk_master.specs.declared.record.Record.{Record}
use Rattle.bk_points.specs.declared.points.Points.{Points}
use Rattle.bk_points.specs.Points.{IsPoints, points_bytes}
use Rattle.bk_shown.specs.Shown.{AreNext}
use Rattle.bk_store.specs.Store.{sealed_in, Kept as KeptStore}
use Rattle.bk_store.specs.Told.{Told}
use Rattle.bk_stores.specs.Making.{IsSealed}
use Rattle.bk_stores.specs.Stores.{AreStores, Fixed, HoldsStores, IsReady as AreReady, fixed_of, Kept as KeptStores}
use Rattle.bk_undo.specs.Spelled.{spelled}
use Rattle.bk_world.specs.declared.database.FileSpec.{FileSpec}
use Rattle.bk_world.specs.declared.transaction.Open.{Open}
use Rattle.bk_world.specs.Cut.{end_behind}
use Rattle.bk_world.specs.Records.{Logged, Said, numbered}
use Rattle.bk_world.specs.Telling as telling
use Rattle.bk_hosting.specs.declared.hosting.State.{State}

-- ---- one database

-- a note spells these points; one that is empty is that of a database that was just made
abbrev pub IsNoteOf : List ℕ → List FileSpec → Points → Type 0
IsNoteOf note files points = ((note ≡ points_bytes points) × IsPoints points) ⊎ ((note ≡ []) × (points ≡ first_points files))

-- What a store holds of a hosted database.
pub record Tells (told : Told) (h : Hosted) : Type 0 where
  pub spec : told.spec ≡ h.spec
  pub note : IsNoteOf told.note h.spec.storage.files h.points
  pub records : told.records ≡ h.records

-- what is known of it as of its end
abbrev pub known_at : Hosted → Known
known_at h = record { spec = h.spec; as_of = record { from = end_behind h.records; tables = telling.tables h.records; model = telling.model h.records; time = telling.time h.records } }

-- its points with what was noted for a checkpoint taken in; one that is being restored has none to come
abbrev pub points_by : Bool → Hosted → Points
points_by true h = folded h.points h.records
points_by false h = h.points

-- what stands in place of its store where that isn't open: what is known of it
abbrev pub known_by : Bool → Hosted → Option Known
known_by true h = None
known_by false h = Some (known_at h)

-- what is kept of it in memory beside its store: its points, the backup that runs, what is open, and while it is being restored what is known of it
abbrev pub state_of : Hosted → State
state_of h = record { points = points_by (is_up h) h; job = h.job; transactions = h.transactions; known = known_by (is_up h) h }

-- A database whose store is open can be used, its first record is durable, and what isn't waits. In one whose store isn't nothing is open.
abbrev pub WaitsBehind : Option KeptStore → Hosted → Type 0
WaitsBehind None h = (is_up h ≡ false) × (h.transactions ≡ [])
WaitsBehind (Some s) h = (is_up h ≡ true) × (1 ≤ sealed_in s) × AllByRecursion (Waits h.transactions) (drop (sealed_in s) h.records)

-- of what a record's crash leaves: those that can be used are stored
abbrev pub AreOf : Fixed → List Hosted → Type 0
AreOf fixed hosted = fixed.stored ≡ map is_up hosted

-- it has a record
abbrev pub HasRecord : Hosted → Type 0
HasRecord h = 1 ≤ length h.records

-- ---- all of them

-- what contracts see of the databases that are hosted
pub record Kept : Type 0 where
  pub stores : KeptStores
  -- in the order of the stores
  pub states : List State

-- They are these.
pub record IsHosting (disk : Disk) (x : Kept) (hosted : List Hosted) : Type 0 where
  pub tolds : List Told
  pub stores : AreStores disk x.stores tolds
  pub stored : AreOf (fixed_of x.stores.master.record) hosted
  pub tells : AllZip Tells tolds hosted
  pub states : x.states ≡ map state_of hosted
  pub waits : AllZip WaitsBehind x.stores.slots hosted
  pub some : AllByRecursion HasRecord hosted

-- calls may be made on a store, if it is open
abbrev pub IsFitSlot : Option KeptStore → Type 0
IsFitSlot None = Unit {0}
IsFitSlot (Some s) = s.paged.failed ≡ false

-- on each that is
abbrev pub AreFit : List (Option KeptStore) → Type 0
AreFit slots = AllByRecursion IsFitSlot slots

-- the one at a place is open, and calls may be made on it
abbrev pub IsOpenAt : List (Option KeptStore) → ℕ → Type 0
IsOpenAt slots at = (s : KeptStore) × (slice_get slots at ≡ Some (Some s)) × (s.paged.failed ≡ false)

-- so it is, and each of its records is durable
abbrev pub IsSealedAt : List (Option KeptStore) → ℕ → Type 0
IsSealedAt slots at = (s : KeptStore) × (slice_get slots at ≡ Some (Some s)) × IsSealed s

-- what is needed whatever the device tells
pub record IsReady (x : Kept) : Type 0 where
  pub stores : AreReady x.stores
  pub fit : AreFit x.stores.slots
  pub count : length x.states ≡ length x.stores.slots

-- ---- what is said

-- it waits with what waits already: its records are of transactions that are open then, and what was open still is
pub record WaitsOn (h : Hosted) (said : List Said) (transactions : List Open) : Type 0 where
  pub waits : AllByRecursion (Waits transactions) (numbered (end_behind h.records) said)
  pub opens : AllByRecursion (λ (t : Open). has_begin transactions t.begin ≡ true) h.transactions

-- A database may say this now, and these records spell it: each may come next, none is a checkpoint, and where it isn't to last it waits.
pub record MaySayNow (h : Hosted) (said : List Said) (transactions : List Open) (records : List Rec) (lasting : Bool) : Type 0 where
  pub next : AreNext h.spec.storage.files h.records (numbered (end_behind h.records) said)
  pub spelled_are : map spelled (numbered (end_behind h.records) said) ≡ records
  pub plain : SaysNoCheckpoint said
  pub waits : lasting ≡ false → WaitsOn h said transactions

-- ---- files

-- files hold these databases, and an instance's own part
pub record HoldsHosted (own : Own) (image : Files) (hosted : List Hosted) : Type 0 where
  pub «record» : Record
  pub is_own : «record».own ≡ own
  pub tolds : List Told
  pub holds : HoldsStores image «record» tolds
  pub stored : AreOf (fixed_of «record») hosted
  pub tells : AllZip Tells tolds hosted
  pub some : AllByRecursion HasRecord hosted

-- a database without an end of its records that waits
pub record LosesWaiting (h front : Hosted) : Type 0 where
  pub same : front ≡ record h { records = front.records }
  pub lost : List Logged
  pub splits : h.records ≡ front.records ++ lost
  pub waits : AllByRecursion (Waits h.transactions) lost

-- a crash leaves these databases, but for what waits
abbrev pub LeavesHosted : Own → List Hosted → Files → Type 0
LeavesHosted own hosted image = (fronts : List Hosted) × AllZip LosesWaiting hosted fronts × HoldsHosted own image fronts

-- a crash while one says something leaves them as before, or with a front of what it says
abbrev pub LeavesSaid : Own → List Hosted → ℕ → Hosted → List Said → List Open → Files → Type 0
LeavesSaid own hosted at h said transactions image =
    LeavesHosted own hosted image ⊎ ((m : ℕ) × (m < length said) × LeavesHosted own (set hosted at (saying (take (suc m) said) transactions h)) image)

-- a crash leaves these, or those
abbrev pub LeavesEither : Own → List Hosted → List Hosted → Files → Type 0
LeavesEither own hosted others image = LeavesHosted own hosted image ⊎ LeavesHosted own others image

-- the own part of an instance, as its record has it
abbrev pub own_of : Kept → Own
own_of x = x.stores.master.record.own
