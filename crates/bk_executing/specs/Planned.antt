-- Plans over what an engine has in memory, as outcomes of the machine.
use Rattle.std.specs.Prelude.{◌≡◌, ℕ, Result}
use Rattle.bk_engine.specs.Stands.{Kept}
use Rattle.bk_engine.specs.Viewing.{Remembers}
use Rattle.bk_items.specs.declared.item.ScriptEntry.{ScriptEntry}
use Rattle.bk_items.specs.declared.options.RestoreOptions.{RestoreOptions}
use Rattle.bk_machine.specs.Machine.{May}
use Rattle.bk_machine.specs.Outcome.{Outcome}
use Rattle.bk_machine.specs.Sound.{IsSound}
use Rattle.bk_machine.specs.World.{World}
use Rattle.bk_media_plans.specs.declared.restore_plan.RestorePlan.{RestorePlan}
use Rattle.bk_media_plans.specs.Found.{Found}
use Rattle.bk_media_plans.specs.RestorePlans.{AreRestoreActs, restore_reply}
use Rattle.bk_media_plans.specs.declared.wait_plan.WaitPlan.{WaitPlan}
use Rattle.bk_media_plans.specs.Waits.{AreWaitActs, HasSets, wait_reply}
use Rattle.bk_plans.specs.declared.parts.Plan.{Plan}
use Rattle.bk_plans.specs.Planning.{AreActsOf, reply_of}
use Rattle.bk_world.specs.declared.rule.Rule.{Rule}

-- A plan of a statement at a moment: one outcome, to which the statement may come in each sound world that the engine has in memory and of which this is known, and whose acts are then those of the plan.
pub record IsPlanned (e : Kept) (Known : World → Type 0) (s : ScriptEntry) (now : ℕ) (plan : Plan) : Type 0 where
  pub outcome : Outcome
  pub replies : outcome.reply ≡ reply_of plan
  pub may : (w : World) → IsSound w → Remembers e w → Known w → May w s now outcome
  pub acts : (w : World) → IsSound w → Remembers e w → Known w → AreActsOf w plan outcome.acts

-- So it is with a restore by these options, by the set that was found.
pub record IsRestorePlanned (e : Kept) (Known : World → Type 0) (options : RestoreOptions) (found : Result Found Rule) (s : ScriptEntry) (now : ℕ) (plan : RestorePlan) : Type 0 where
  pub outcome : Outcome
  pub replies : outcome.reply ≡ restore_reply found plan
  pub may : (w : World) → IsSound w → Remembers e w → Known w → May w s now outcome
  pub acts : (w : World) → IsSound w → Remembers e w → Known w → AreRestoreActs w now options found plan outcome.acts

-- So it is with `:wait`, where so many sets are on the medium of the backup that runs.
pub record IsWaitPlanned (e : Kept) (sets : ℕ) (s : ScriptEntry) (now : ℕ) (plan : WaitPlan) : Type 0 where
  pub outcome : Outcome
  pub replies : outcome.reply ≡ wait_reply plan
  pub may : (w : World) → IsSound w → Remembers e w → HasSets w sets → May w s now outcome
  pub acts : (w : World) → IsSound w → Remembers e w → HasSets w sets → AreWaitActs w now sets plan outcome.acts
