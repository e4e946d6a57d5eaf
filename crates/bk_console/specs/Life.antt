-- The life of a device: calls with any words, crashes and events between calls, in any order, and what its files stand for meanwhile.
use Rattle.std.specs.Prelude.{◌≡◌, ◌⊎◌, ℕ, zero, suc, true, List, Option, None, Some}
use Rattle.bk_bytes.specs.Field.{AreBytes}
use Rattle.bk_device.specs.Disk.{Files, Disk, IsSettled, MayLeave}
use Rattle.bk_executing.specs.EngineLoading.{Stands}
use Rattle.bk_master.specs.Master.{IsNoInstance, IsNotMade}
use Rattle.bk_msdb.specs.Msdb.{msdb_file}
use Rattle.bk_restarts.specs.Events.{HappenOn}
use Rattle.bk_machine.specs.Acts.{Act, done_all}
use Rattle.bk_machine.specs.Closing.{AreClosing}
use Rattle.bk_machine.specs.Reached.{IsReached}
use Rattle.bk_machine.specs.Run.{behind_all}
use Rattle.bk_machine.specs.World.{World, empty_world, opened, ended}
use Rattle.bk_volume.specs.Names.{medium_file}
use Rattle.bk_console.specs.Run.{LeavesRun, Ran}
use Rattle.bk_console.specs.Words.{WordOptions}

-- Files.

-- the same files under each name
abbrev pub SameFiles : Files → Files → Type 0
SameFiles files others = (name : List ℕ) → others name ≡ files name

-- no instance is made, and there is no medium and no file of the rows of msdb
pub record IsEmpty (files : Files) : Type 0 where
  pub not_made : IsNotMade files
  pub no_media : (path : List ℕ) → AreBytes path → files (medium_file path) ≡ None
  pub no_rows : files msdb_file ≡ None

-- words may ask for this number: for any where the instance is made, and else for that of the world
abbrev pub MayAsk : ℕ → Files → World → Type 0
MayAsk number files w = IsNotMade files → number ≡ w.instance

-- Files live for a world: the machine comes to it, they stand for it, and they aren't those of no instance.
pub record Live (files : Files) (w : World) : Type 0 where
  pub reached : IsReached w
  pub stands : (number : ℕ) → MayAsk number files w → Stands number files w
  pub instance : IsNoInstance files → ⊥

-- Calls.

-- A call of `run` that ended with this status, as its clauses say: on a device that tells its content and holds these files, with nothing pending.
pub record Called {D : Type 0} (source_tells clock_tells device_tells : Type 0) (disk : D → Disk) (asks : Option WordOptions) (files : Files) (before after : D) (status : ℕ) : Type 0 where
  pub tells : device_tells
  pub settled : IsSettled (disk before)
  pub begins : SameFiles files (disk before).files
  pub rest : List ℕ
  pub rest_after : List ℕ
  pub coming : ℕ → ℕ
  pub coming_after : ℕ → ℕ
  pub ran : Ran asks source_tells rest rest_after clock_tells coming coming_after device_tells (disk before) (disk after) status
  pub untouched : (status ≡ 2) ⊎ (status ≡ 3) ⊎ (status ≡ 8) → after ≡ before
  pub not_an_instance : status ≡ 7 → IsNoInstance (disk before).files

-- These files, which live for this world, live on: each thing that may come next leads to files and a world of which P holds.
pub record LivesOn {D : Type 0} (source_tells clock_tells device_tells : Type 0) (disk : D → Disk) (P : Files → World → Type 0) (files : Files) (w : World) : Type 0 where
  pub live : Live files w
  -- A call that came to its end, with status 0 or 1: the files behind it, and whatever a crash may leave of them then, for its last world, closed.
  pub ends : (options : WordOptions) (before after : D) (status : ℕ) (call : Called source_tells clock_tells device_tells disk (Some options) files before after status)
      → MayAsk options.instance files w → (status ≡ 0) ⊎ (status ≡ 1)
      → (acts : List Act) × AreClosing (behind_all (opened w) call.ran.executed.outcomes) acts
      × P (disk after).files (ended (done_all (behind_all (opened w) call.ran.executed.outcomes) acts))
      × ((image : Files) → MayLeave (disk after) image → P image (ended (done_all (behind_all (opened w) call.ran.executed.outcomes) acts)))
  -- A call that was cut off at any moment, or that ended with any status before the device was switched off: files that were left, for a world that a crash
  -- of the machine leaves.
  pub cuts : (options : WordOptions) (before after : D) (status : ℕ) (call : Called source_tells clock_tells device_tells disk (Some options) files before after status)
      → MayAsk options.instance files w → (image : Files) (heard : List ℕ) → (disk after).left (disk before).moment image heard
      → (acts : List Act) × AreClosing (behind_all (opened w) call.ran.executed.outcomes) acts
      × (left : LeavesRun options.instance (opened w) call.ran.executed.outcomes acts (disk before).told image heard) × P image left.leaves.left
  -- A call with words out of form, or whose script isn't read whole: files that were left, for the same world.
  pub stays : (asks : Option WordOptions) (before after : D) (status : ℕ) → Called source_tells clock_tells device_tells disk asks files before after status
      → (status ≡ 2) ⊎ (status ≡ 3) ⊎ (status ≡ 8) → (image : Files) (heard : List ℕ) → (disk after).left (disk before).moment image heard → P image w
  -- no call ends with the status of no instance
  pub never : (asks : Option WordOptions) (before after : D) → Called source_tells clock_tells device_tells disk asks files before after 7 → ⊥
  -- events between two calls
  pub happens : (after : Files) (new : World) → w.closed ≡ true → HappenOn files w after new → P after new
  -- as long as they are empty, the instance may get any number
  pub numbered : (number : ℕ) → IsEmpty files → P files (empty_world number)

-- Files live on for a world through so many of these things, whatever they are.
abbrev pub Lasts : {D : Type 0} → Type 0 → Type 0 → Type 0 → (D → Disk) → ℕ → Files → World → Type 0
Lasts source_tells clock_tells device_tells disk zero files w = Live files w
Lasts source_tells clock_tells device_tells disk (suc n) files w = LivesOn source_tells clock_tells device_tells disk (Lasts source_tells clock_tells device_tells disk n) files w
