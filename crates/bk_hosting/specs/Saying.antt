-- A store that says several records, or that is given another note, and what it holds then.
use Rattle.std.specs.Prelude.{◌≡◌, ◌≤◌, ◌⊎◌, ℕ, Bool, true, List, ◌++◌, map, set}
use Rattle.bk_device.specs.Disk.{Disk}
use Rattle.bk_device.specs.Effects.{Effect}
use Rattle.bk_ids.specs.declared.record.Rec.{Rec}
use Rattle.bk_points.specs.declared.points.Points.{Points}
use Rattle.bk_points.specs.Points.{IsPoints, points_bytes}
use Rattle.bk_shown.specs.Shown.{AreNext}
use Rattle.bk_store.specs.Store.{Kept as KeptStore}
use Rattle.bk_store.specs.Told.{Told, files_of}
use Rattle.bk_stores.specs.Stores.{IsOurs, Kept as KeptStores, LeavesStores, fixed_of, sealed_at}
use Rattle.bk_undo.specs.Spelled.{spelled}
use Rattle.bk_world.specs.Records.{Logged}

-- a database behind some records more
abbrev pub telling : Told → List Logged → Told
telling told next = record told { records = told.records ++ next }

-- These records spell some that may come next, one behind the other.
pub record MaySayAll (told : Told) (next : List Logged) (records : List Rec) : Type 0 where
  pub next_are : AreNext (files_of told) told.records next
  pub spelled_are : map spelled next ≡ records

-- No less is durable than before, and all where it is to last.
pub record SealsUpTo (lasting : Bool) (s then : KeptStore) : Type 0 where
  pub later : s.paged.log.stored ≤ then.paged.log.stored
  pub all : lasting ≡ true → then.paged.log.stored ≡ then.paged.log.«end»

-- a crash leaves fronts of the databases that there were, or of these with another in a place
abbrev pub NotesOn : KeptStores → List Told → ℕ → Told → Disk → Disk → Type 0
NotesOn s tolds at new old after = Effect IsOurs (λ image. LeavesStores (fixed_of s.master.record) (sealed_at s tolds) tolds image ⊎ LeavesStores (fixed_of s.master.record) (sealed_at s tolds) (set tolds at new) image) old after

-- a database whose note spells these points
abbrev pub pointing : Told → Points → Told
pointing told points = record told { note = points_bytes points }

-- so where its note spells these points, which have a spelling
abbrev pub NotesPoints : KeptStores → List Told → ℕ → Told → Points → Disk → Disk → Type 0
NotesPoints s tolds at told points old after =
    Effect IsOurs (λ image. LeavesStores (fixed_of s.master.record) (sealed_at s tolds) tolds image ⊎ (IsPoints points × LeavesStores (fixed_of s.master.record) (sealed_at s tolds) (set tolds at (pointing told points)) image)) old after
