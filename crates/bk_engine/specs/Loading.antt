-- Which worlds files stand for between two runs, and what an instance that is being loaded stands for.
-- SQL Server: "Restore and Recovery Overview", recovery of databases at startup.
use Rattle.std.specs.Prelude.{◌≡◌, ℕ, true, List, Option, None, map}
use Rattle.std.specs.List.{AllByRecursion}
use Rattle.bk_archive.specs.Media.{KeepsMedia}
use Rattle.bk_device.specs.Disk.{Disk, Files}
use Rattle.bk_device.specs.Effects.{MayLeaveOwn}
use Rattle.bk_hosted.specs.Fronts.{settling}
use Rattle.bk_hosted.specs.Hosted.{Hosted, Hosts, is_up}
use Rattle.bk_hosting.specs.Hosting.{IsHosting, own_of, Kept as KeptHosting}
use Rattle.bk_hosting.specs.Loading.{HoldsHosting}
use Rattle.bk_machine.specs.Sound.{IsSound}
use Rattle.bk_machine.specs.World.{World}
use Rattle.bk_master.specs.declared.record.Own.{Own}
use Rattle.bk_world.specs.Pending.{PendingRise, pending}
use Rattle.bk_msdb.specs.Msdb.{Shows}
use Rattle.bk_engine.specs.Rows.{IsCalm, rows_in}
use Rattle.bk_engine.specs.Stands.{IsOurs}

-- what is pending in a database that can be used comes in the order of its numbers
abbrev pub PendsInOrder : Hosted → Type 0
PendsInOrder h = is_up h ≡ true → PendingRise (pending h.records)

-- Files stand for a sound world: it hosts the databases that they hold, of each with all undone that is pending, and they keep its media and show its rows of msdb. Where a run has ended no medium is being made. An instance that isn't made yet has this number.
pub record Stands (number : ℕ) (files : Files) (w : World) : Type 0 where
  pub sound : IsSound w
  pub own : Own
  pub instance : w.instance ≡ own.number
  pub counter : w.counter ≡ own.counter
  pub hosted : List Hosted
  pub pends : AllByRecursion PendsInOrder hosted
  pub hosts : Hosts w (map settling hosted)
  pub holds : HoldsHosting number own files hosted
  pub media : KeepsMedia w own.making files
  pub rows : Shows files (rows_in w)
  pub finished : w.closed ≡ true → own.making ≡ None

-- Databases that were opened stand for a sound world: it hosts them, of each with all undone that was pending. Nothing is pending in its media, and the record may name one that was being made.
pub record Opened (disk : Disk) (x : KeptHosting) (w : World) : Type 0 where
  pub sound : IsSound w
  pub instance : w.instance ≡ (own_of x).number
  pub counter : w.counter ≡ (own_of x).counter
  pub hosted : List Hosted
  pub pends : AllByRecursion PendsInOrder hosted
  pub hosts : Hosts w (map settling hosted)
  pub hosting : IsHosting disk x (map settling hosted)
  pub media : KeepsMedia w (own_of x).making disk.files
  pub finished : w.closed ≡ true → (own_of x).making ≡ None
  pub calm : IsCalm disk w

-- ---- what was being made

-- a medium that a record may name as being made is finished, or taken away: the files keep the same media, whether the record names it still or not
abbrev pub HasFinishedAny : Option (List ℕ) → Files → Files → Type 0
HasFinishedAny making before after = (w : World) → KeepsMedia w making before → KeepsMedia w making after × KeepsMedia w None after

-- on the way a crash leaves the same media
abbrev pub LeavesFinishingAny : Option (List ℕ) → Files → Files → Type 0
LeavesFinishingAny making before image = (w : World) → KeepsMedia w making before → KeepsMedia w making image

-- ---- what a run leaves

-- whatever a crash may leave of the files now stands for a world
abbrev pub Leaves : ℕ → Disk → World → Type 0
Leaves number disk w = (image : Files) → MayLeaveOwn IsOurs disk image → Stands number image w
