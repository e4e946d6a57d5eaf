-- What crashes leave of runs, by the files that they leave.
-- SQL Server: "Restore and Recovery Overview", recovery of databases at startup.
use Rattle.std.specs.Prelude.{◌≡◌, ◌≤◌, ℕ, List, [], ◌∷◌, ◌++◌, drop, length, take}
use Rattle.bk_device.specs.Disk.{Files}
use Rattle.bk_engine.specs.Loading.{Stands}
use Rattle.bk_engine.specs.Stands.{Covers, IsOurs}
use Rattle.bk_items.specs.declared.item.ScriptEntry.{ScriptEntry}
use Rattle.bk_machine.specs.Acts.{Act, done_all}
use Rattle.bk_machine.specs.Closing.{AreClosing, closed_by}
use Rattle.bk_machine.specs.Crash.{Leaves, next_acts}
use Rattle.bk_machine.specs.Outcome.{Outcome}
use Rattle.bk_machine.specs.Run.{IsRun, behind_all}
use Rattle.bk_machine.specs.Sound.{AreIdle, IsSound}
use Rattle.bk_machine.specs.World.{World, ended, opened}
use Rattle.bk_restarts.specs.Cuts.{cut_in}

-- files hold what a crash leaves inside of some acts: so many of them are done, and of the next one so many records are said
pub record CutIn (w : World) (acts : List Act) (files : Files) : Type 0 where
  pub done : ℕ
  pub records : ℕ
  pub covers : Covers (cut_in w acts done records) files

-- files that hold what a crash leaves inside of one of these outcomes stand for a world that a crash may leave
abbrev pub LeavesFrom : ℕ → World → List Outcome → Type 0
LeavesFrom number first outcomes = (least n : ℕ) (image : Files) → least ≤ n → n ≤ length outcomes → CutIn (behind_all first (take n outcomes)) (next_acts (drop n outcomes)) image
    → (left : World) × Leaves first outcomes least left × Stands number image left

-- where these acts close a run, so do files that stand for the world in which it has ended
abbrev pub LeavesEnded : ℕ → World → List Outcome → List Act → Type 0
LeavesEnded number first outcomes acts = (least : ℕ) (image : Files) → least ≤ length (outcomes ++ closed_by acts ∷ []) → Stands number image (ended (done_all (behind_all first outcomes) acts))
    → (left : World) × Leaves first (outcomes ++ closed_by acts ∷ []) least left × Stands number image left

pub record CrashLaws : Type 0 where
  -- files that agree under our names stand for the same worlds
  pub same : (number : ℕ) (w : World) (files image : Files) → ((name : List ℕ) → IsOurs name → image name ≡ files name) → Stands number files w → Stands number image w
  -- in which nothing is open
  pub idle : (number : ℕ) (w : World) (files : Files) → Stands number files w → AreIdle w
  -- and for one that a crash leaves of a run from there in which nothing is done yet
  pub begins : (number : ℕ) (w : World) (image : Files) → Stands number image w → (left : World) × Leaves (opened w) [] 0 left × Stands number image left
  -- so do those that hold what a crash leaves inside of a statement
  pub runs : (number : ℕ) (first : World) (statements : List ScriptEntry) (moments : List ℕ) (outcomes : List Outcome) → IsSound first → IsRun first statements moments outcomes → LeavesFrom number first outcomes
  -- each run may be closed, its closing cut likewise, and then it has ended
  pub closes : (first : World) (statements : List ScriptEntry) (moments : List ℕ) (outcomes : List Outcome) → IsSound first → IsRun first statements moments outcomes → (acts : List Act) × AreClosing (behind_all first outcomes) acts
  pub closings : (number : ℕ) (first : World) (statements : List ScriptEntry) (moments : List ℕ) (outcomes : List Outcome) (acts : List Act) → IsSound first → IsRun first statements moments outcomes
      → AreClosing (behind_all first outcomes) acts → LeavesFrom number first (outcomes ++ closed_by acts ∷ [])
  pub ends : (number : ℕ) (first : World) (statements : List ScriptEntry) (moments : List ℕ) (outcomes : List Outcome) (acts : List Act) → IsSound first → IsRun first statements moments outcomes
      → AreClosing (behind_all first outcomes) acts → LeavesEnded number first outcomes acts
