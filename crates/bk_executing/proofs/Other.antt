-- What is known of a statement that reads no medium.
use Rattle.std.proofs.Common.{ℕ, List}
use Rattle.bk_device.specs.Disk.{Disk, IsLawful}
use Rattle.bk_device.specs.Laws.{nothing_yet}
use Rattle.bk_engine.specs.Stands.{Kept}
use Rattle.bk_items.specs.declared.item.ScriptEntry.{ScriptEntry}
use Rattle.bk_items.specs.declared.item.ScriptItem.{ScriptItem}
use Rattle.bk_items.specs.declared.item.ScriptItem.TheVariants as script
use Rattle.bk_machine.specs.Machine.{May}
use Rattle.bk_machine.specs.MayDo.{MayDoAll}
use Rattle.bk_machine.specs.Outcome.{Outcome}
use Rattle.bk_machine.specs.Sound.{IsSound}
use Rattle.bk_machine.specs.World.{World}
use Rattle.bk_machine.specs.Writes.{ActsWrite, StatementWrites}
use Rattle.bk_plans.specs.declared.parts.Plan.{Plan}
use Rattle.bk_plans.specs.Planning.{ReadsNoMedium}
use Rattle.bk_executing.proofs.Planned.{Knows, none-planned}

-- it writes to none
reads-none : (w : World) (item : ScriptItem) → ReadsNoMedium item → (path : List ℕ) → StatementWrites w item path → ⊥
reads-none w (script.BackupDatabase a b c d) reads path writes = reads
reads-none w (script.RestoreDatabase a b c d) reads path writes = reads
reads-none w (script.CreateDatabase a b c d) reads path writes = writes
reads-none w (script.BackupLog a b c) reads path writes = writes
reads-none w (script.RestoreLog a b c) reads path writes = writes
reads-none w (script.QueryMedium a b c) reads path writes = reads
reads-none w (script.CreateTable a b) reads path writes = writes
reads-none w (script.Rows a b) reads path writes = writes
reads-none w (script.Begin a) reads path writes = writes
reads-none w script.Commit reads path writes = writes
reads-none w script.Rollback reads path writes = writes
reads-none w script.Checkpoint reads path writes = writes
reads-none w (script.Use a) reads path writes = writes
reads-none w (script.SetRecovery a b) reads path writes = writes
reads-none w (script.DropDatabase a) reads path writes = writes
reads-none w (script.SelectCatalog a) reads path writes = writes
reads-none w (script.Session a) reads path writes = writes
reads-none w script.Start reads path writes = writes
reads-none w (script.Step a) reads path writes = writes
reads-none w script.Wait reads path writes = reads
reads-none w (script.Syntax a) reads path writes = writes
reads-none w script.TooLong reads path writes = writes

abbrev pub DoWhatTheyMay : Type 0
DoWhatTheyMay = (w : World) (s : ScriptEntry) (now : ℕ) (outcome : Outcome) → IsSound w → May w s now outcome → MayDoAll w outcome.acts

abbrev pub WriteToMedia : Type 0
WriteToMedia = (w : World) (s : ScriptEntry) (now : ℕ) (outcome : Outcome) (path : List ℕ) → May w s now outcome → ActsWrite outcome.acts path → StatementWrites w s.item path

pub knows-other : {tells : Type 0} (e : Kept) (a : Disk) (s : ScriptEntry) (now : ℕ) (plan : Plan) (outcome : Outcome) → (tells → IsLawful a) → ReadsNoMedium s.item → DoWhatTheyMay → WriteToMedia → Knows tells e a a (λ w. Unit {0}) plan s now outcome
knows-other e a s now plan outcome lawful reads does media = record {
  lawful = lawful;
  call = λ told. nothing_yet a;
  known = λ told w stands. tt;
  may = λ w sound may. does w s now outcome sound may;
  sets = λ w sound may acts. none-planned w plan outcome.acts acts (λ path writes. reads-none w s.item reads path (media w s now outcome path may writes));
}
