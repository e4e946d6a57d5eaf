-- Hosted databases that are opened, one behind the other.
-- SQL Server: "Restore and Recovery Overview", recovery of databases at startup.
use Rattle.std.specs.Prelude.{◌≡◌, ◌⊎◌, ◌≤◌, ◌<◌, ℕ, Bool, true, false, List, [], ◌++◌, drop, length, map, take, Option, None, Some, slice_get}
use Rattle.std.specs.List.{AllByRecursion, AllZip}
use Rattle.bk_device.specs.Disk.{Disk, Files}
use Rattle.bk_hosted.specs.Fronts.{settled_by, settling}
use Rattle.bk_hosted.specs.Hosted.{Hosted, is_up}
use Rattle.bk_ids.specs.declared.record.Body.{Body}
use Rattle.bk_ids.specs.declared.record.Body.TheVariants.{Checkpoint}
use Rattle.bk_master.specs.declared.record.Own.{Own}
use Rattle.bk_master.specs.Master.{IsNotMade, fresh_own}
use Rattle.bk_store.specs.Store.{Kept as KeptStore}
use Rattle.bk_store.specs.Told.{Told}
use Rattle.bk_stores.specs.Making.{IsSealed}
use Rattle.bk_stores.specs.Stores.{AreStores, IsReady as AreReady, fixed_of}
use Rattle.bk_hosting.specs.Hosting.{AreFit, AreOf, HasRecord, HoldsHosted, Kept, Tells, state_of}

-- a record of this kind is a checkpoint's
abbrev pub says_checkpoint : Body → Bool
says_checkpoint (Checkpoint time) = true
says_checkpoint _ = false

-- ---- what is promised

-- files hold an instance with this own part and these databases: it is made, or is yet to be, with this number and none
abbrev pub HoldsHosting : ℕ → Own → Files → List Hosted → Type 0
HoldsHosting number own image hosted = (IsNotMade image × (own ≡ fresh_own number) × (hosted ≡ [])) ⊎ HoldsHosted own image hosted

-- A database in which some of what is pending, or all, is undone, and nothing is open; one that is being restored stays.
pub record IsUndoing (h front : Hosted) : Type 0 where
  pub k : ℕ
  pub enough : length h.records ≤ k
  pub same : front ≡ record h { records = take k (settled_by (is_up h) h.records); transactions = [] }

-- a crash leaves the databases, of each perhaps some of what undoes
abbrev pub LeavesUndoing : ℕ → Own → List Hosted → Files → Type 0
LeavesUndoing number own hosted image = (fronts : List Hosted) × AllZip IsUndoing hosted fronts × HoldsHosting number own image fronts

-- ---- meanwhile

-- so many databases are settled
abbrev pub opened : ℕ → List Hosted → List Hosted
opened k hosted = map settling (take k hosted) ++ drop k hosted

-- the store of a database that can be used is open, with each of its records durable; of one that is being restored none is
abbrev pub IsOpenedFor : Option KeptStore → Hosted → Type 0
IsOpenedFor None h = is_up h ≡ false
IsOpenedFor (Some s) h = (is_up h ≡ true) × IsSealed s

-- What was read of some of the stores is kept, and of the others none is open.
pub record IsPartly (x : Kept) : Type 0 where
  pub stores : AreReady x.stores
  pub fit : AreFit x.stores.slots
  pub shut : (i : ℕ) → length x.states ≤ i → i < length x.stores.slots → slice_get x.stores.slots i ≡ Some None
  pub few : length x.states ≤ length x.stores.slots

-- They are of these databases, of which as many are settled.
pub record IsOpening (disk : Disk) (x : Kept) (hosted : List Hosted) : Type 0 where
  pub tolds : List Told
  pub stores : AreStores disk x.stores tolds
  pub stored : AreOf (fixed_of x.stores.master.record) hosted
  pub tells : AllZip Tells tolds (opened (length x.states) hosted)
  pub states : x.states ≡ map state_of (map settling (take (length x.states) hosted))
  pub opens : (i : ℕ) (slot : Option KeptStore) (h : Hosted) → i < length x.states → slice_get x.stores.slots i ≡ Some slot → slice_get hosted i ≡ Some h → IsOpenedFor slot h
  pub some : AllByRecursion HasRecord hosted
