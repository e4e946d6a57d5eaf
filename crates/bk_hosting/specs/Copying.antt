-- A hosted database that is copied into a set that is being written.
-- SQL Server: "Full Database Backups"; "Transaction Log Backups".
use Rattle.std.specs.Prelude.{◌≡◌, ◌⊎◌, ℕ, List, [], ◌++◌, map, set, Option, None, Some, slice_get}
use Rattle.std.specs.List.{All}
use Rattle.bk_body.specs.Body.{Extent}
use Rattle.bk_copying.specs.Copying.{AreCopies, IsAsBefore}
use Rattle.bk_copying.specs.Extents.{HasExtent}
use Rattle.bk_device.specs.Disk.{Disk}
use Rattle.bk_device.specs.Effects.{Effect, IsName}
use Rattle.bk_hosted.specs.Hosted.{Hosted}
use Rattle.bk_ids.specs.declared.record.ExtentId.{ExtentId}
use Rattle.bk_master.specs.declared.record.Own.{Own}
use Rattle.bk_paged.specs.Paged.{from_to}
use Rattle.bk_record.specs.Log.{IsLog}
use Rattle.bk_store.specs.Store.{Kept as KeptStore}
use Rattle.bk_store.specs.Told.{Told}
use Rattle.bk_stores.specs.Stores.{IsOurs, LeavesStores, fixed_of, sealed_at, Kept as KeptStores}
use Rattle.bk_undo.specs.Spelled.{spelled}
use Rattle.bk_volume.specs.Staging.{HoldsParts, Staging}
use Rattle.bk_world.specs.Records.{Logged}
use Rattle.bk_hosting.specs.Hosting.{LeavesHosted}

-- the store at a place has these data extents, if it is open
abbrev pub HaveExtents : List (Option KeptStore) → ℕ → List ExtentId → Type 0
HaveExtents slots at ids = (s : KeptStore) → slice_get slots at ≡ Some (Some s) → All (HasExtent s.paged.facts.files) ids

-- The stores are as they were, but for the pages in the frames of the one at a place, which is open; what waited there may have become durable.
pub record AreAsBefore (old : KeptStores) (at : ℕ) (new : KeptStores) : Type 0 where
  pub store : KeptStore
  pub then : KeptStore
  pub there : slice_get old.slots at ≡ Some (Some store)
  pub slots : new ≡ record old { slots = set old.slots at (Some then) }
  pub same : IsAsBefore store then

-- a name is the instance's own, one of a store, or that of the set's file
abbrev pub IsOursOr : Staging → List ℕ → Type 0
IsOursOr into name = IsOurs name ⊎ IsName into.name name

-- a call touched files of these names alone, whatever they hold
abbrev pub TouchesOursOr : Staging → Disk → Disk → Type 0
TouchesOursOr into old new = Effect (IsOursOr into) (λ _. Unit {0}) old new

-- a crash leaves fronts of the databases in the stores, and anything in the set's file
abbrev pub CopyLeavesStores : KeptStores → List Told → Staging → Disk → Disk → Type 0
CopyLeavesStores s tolds into old new = Effect (IsOursOr into) (LeavesStores (fixed_of s.master.record) (sealed_at s tolds) tolds) old new

-- a crash leaves the databases, but for what waits, and anything in the set's file
abbrev pub CopyLeaves : Own → List Hosted → Staging → Disk → Disk → Type 0
CopyLeaves own hosted into old new = Effect (IsOursOr into) (LeavesHosted own hosted) old new

-- behind some extents a set without a log holds copies of these of a database, as of its end
abbrev pub HoldsCopies : Disk → Staging → List Extent → Told → List ExtentId → Type 0
HoldsCopies disk into before told ids = (more : List Extent) × AreCopies told ids more × HoldsParts disk into (before ++ more) []

-- behind some of a log it holds these records, from a number to below another
abbrev pub HoldsLog : Disk → Staging → List Extent → List ℕ → List Logged → ℕ → ℕ → Type 0
HoldsLog disk into extents before rs from to = (log : List ℕ) × IsLog log (from_to from to (map spelled rs)) None × HoldsParts disk into extents (before ++ log)
