-- The worlds that an instance comes to: from nothing on, by runs, crashes and events between runs, in any order.
use Rattle.std.specs.Prelude.{◌≡◌, ℕ, true, List, [], ◌∷◌, ◌++◌}
use Rattle.bk_items.specs.declared.item.ScriptEntry.{ScriptEntry}
use Rattle.bk_machine.specs.Acts.{Act, done_all}
use Rattle.bk_machine.specs.Closing.{AreClosing, closed_by}
use Rattle.bk_machine.specs.Crash.{Leaves}
use Rattle.bk_machine.specs.Events.{Happens}
use Rattle.bk_machine.specs.Outcome.{Outcome}
use Rattle.bk_machine.specs.Run.{IsRun, behind_all}
use Rattle.bk_machine.specs.World.{World, empty_world, opened, ended}

pub data IsReached : World → Type 0 where
  -- nothing is there yet
  nothing : (instance : ℕ) → IsReached (empty_world instance)
  -- a run came to its end, and was closed
  ran : (w : World) (statements : List ScriptEntry) (moments : List ℕ) (outcomes : List Outcome) (acts : List Act) → IsReached w → IsRun (opened w) statements moments outcomes → AreClosing (behind_all (opened w) outcomes) acts
      → IsReached (ended (done_all (behind_all (opened w) outcomes) acts))
  -- a run was cut off
  crashed : (w left : World) (statements : List ScriptEntry) (moments : List ℕ) (outcomes : List Outcome) (least : ℕ) → IsReached w → IsRun (opened w) statements moments outcomes → Leaves (opened w) outcomes least left → IsReached left
  -- a run came to its end, and was cut off while it was closed
  crashed_closing : (w left : World) (statements : List ScriptEntry) (moments : List ℕ) (outcomes : List Outcome) (acts : List Act) (least : ℕ) → IsReached w → IsRun (opened w) statements moments outcomes → AreClosing (behind_all (opened w) outcomes) acts
      → Leaves (opened w) (outcomes ++ closed_by acts ∷ []) least left → IsReached left
  -- something happened between two runs
  happened : (w new : World) → IsReached w → w.closed ≡ true → Happens w new → IsReached new
