-- Every world that an instance comes to is sound, and nothing is open in it.
use Rattle.std.proofs.Common.{ℕ, [], ◌∷◌, ◌++◌, arith}
use Rattle.bk_machine.specs.Acts.{done_all}
use Rattle.bk_machine.specs.Closing.{closed_by}
use Rattle.bk_machine.specs.Run.{behind_all}
use Rattle.bk_machine.specs.Events.{nothing_more, one_more}
use Rattle.bk_machine.specs.Reached.{IsReached, nothing, ran, crashed, crashed_closing, happened}
use Rattle.bk_machine.specs.Sound.{AreIdle, IsSound}
use Rattle.bk_machine.specs.World.{World, empty_world, opened}
use Rattle.bk_machine.proofs.Crashed.{crash-idle}
use Rattle.bk_machine.proofs.Happened.{event-sound, events-idle}
use Rattle.bk_machine.proofs.Opened.{idle-ended, sound-ended, sound-opened}
use Rattle.bk_machine.proofs.statements.Leaving.{left-sound}
use Rattle.bk_machine.proofs.Acting.{acts-sound}
use Rattle.bk_machine.proofs.statements.Closing.{closed-well, closing-idle, closing-well}
use Rattle.bk_machine.proofs.statements.Running.{RunsWell, runs-well, sound-run}

-- a world is sound, and nothing is open in it
pub record Calm (w : World) : Type 0 where
  pub sound : IsSound w
  pub idle : AreIdle w

nothing-calm : (instance : ℕ) → Calm (empty_world instance)
unfolding empty_world
nothing-calm instance = record { sound = record { whole = record { once = tt; lines = tt; databases = tt; different = tt; media = tt }; opens = tt; seat = omega arith }; idle = tt }

-- so is every world that is reached
pub reached-calm : (w : World) → IsReached w → Calm w
reached-calm w (nothing instance) = nothing-calm instance
reached-calm w (ran before statements moments outcomes acts reached run closing) =
    let calm = reached-calm before reached in
    let end : World = behind_all (opened before) outcomes in
    let sound : IsSound end = sound-run (opened before) statements moments outcomes (sound-opened before calm.sound) run in
    let idle : AreIdle (done_all end acts) = closing-idle end acts closing in
    record { sound = sound-ended _ (acts-sound end acts sound (closing-well end acts closing sound).may); idle = idle-ended _ idle }
reached-calm w (crashed before left statements moments outcomes least reached run leaves) =
    let calm = reached-calm before reached in
    record {
      sound = left-sound (opened before) outcomes least left (sound-opened before calm.sound) (runs-well (opened before) statements moments outcomes run) leaves;
      idle = crash-idle leaves.before leaves.whole leaves.cut left leaves.world;
    }
reached-calm w (crashed_closing before left statements moments outcomes acts least reached run closing leaves) =
    let calm = reached-calm before reached in
    let well : RunsWell (opened before) (outcomes ++ closed_by acts ∷ []) = closed-well (opened before) statements moments outcomes acts run closing in
    record {
      sound = left-sound (opened before) (outcomes ++ closed_by acts ∷ []) least left (sound-opened before calm.sound) well leaves;
      idle = crash-idle leaves.before leaves.whole leaves.cut left leaves.world;
    }
reached-calm w (happened before new reached closed happens) =
    let calm = reached-calm before reached in
    record { sound = event-sound before new calm.sound happens; idle = events-idle before new calm.idle (one_more happens nothing_more) }
