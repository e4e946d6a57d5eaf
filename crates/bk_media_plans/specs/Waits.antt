-- Plans of `:wait`, as outcomes of the machine.
use Rattle.std.specs.Prelude.{◌≡◌, ◌<◌, ◌+◌, ◌^◌, ℕ, true, List, [], None, Some, Ok}
use Rattle.bk_acts.specs.Conditions.{KeepRecords}
use Rattle.bk_acts.specs.Meaning.{Spell}
use Rattle.bk_header.specs.Conditions.{KeepsConditions}
use Rattle.bk_items.specs.declared.item.ScriptEntry.{ScriptEntry}
use Rattle.bk_kept.specs.declared.kept.Database.{Database as KeptDatabase}
use Rattle.bk_kept.specs.declared.kept.Kept.{Kept}
use Rattle.bk_kept.specs.Keeps.{Sees}
use Rattle.bk_kept.specs.Stored.{SaysNamed}
use Rattle.bk_machine.specs.declared.job.Job.{Job}
use Rattle.bk_machine.specs.Acts.{Act, done, job_set, said_time}
use Rattle.bk_machine.specs.Checks.{is_path}
use Rattle.bk_machine.specs.Machine.{May}
use Rattle.bk_machine.specs.MayDo.{MayDoAll}
use Rattle.bk_machine.specs.Outcome.{Outcome}
use Rattle.bk_machine.specs.Sound.{IsSound, JobIs}
use Rattle.bk_machine.specs.World.{World, database_named}
use Rattle.bk_machine.specs.Writes.{current_job}
use Rattle.bk_machine.specs.statements.Backup.{ShowsRoom}
use Rattle.bk_machine.specs.statements.Job.{Running, check_job, finishes, job_header}
use Rattle.bk_world.specs.declared.reply.Reply.{Reply}
use Rattle.bk_world.specs.declared.reply.Reply.TheVariants as reply
use Rattle.bk_world.specs.declared.reply.Reply.TheVariants.{SetMade}
use Rattle.bk_world.specs.Medium.{Slot, medium, medium_at}
use Rattle.bk_world.specs.Records.{stamped}
use Rattle.bk_world.specs.Says.{alone}
use Rattle.bk_plans.specs.declared.refusal.Refusal.{Refusal}
use Rattle.bk_plans.specs.declared.refusal.Refusal.TheVariants.{Broken, NoMemory}
use Rattle.bk_media_plans.specs.Backups.{HasRoom, IsSetHeader}
use Rattle.bk_media_plans.specs.declared.wait_plan.Finish.{Finish}
use Rattle.bk_media_plans.specs.declared.wait_plan.WaitPlan.{WaitPlan}
use Rattle.bk_media_plans.specs.declared.wait_plan.WaitPlan.TheVariants.{Refused, Finishes}

-- the medium of the current database's backup, if one runs, has so many sets and room for one more
abbrev pub HasSets : World → ℕ → Type 0
HasSets w sets = JobIs (λ (job : Job). ShowsRoom (medium_at w.media job.medium) (Ok (Some sets))) (current_job w)

-- These acts of a world end the backup of the current database: it has none any more, says the stamp of its set by these records, among what is open in it, and the set is sealed
-- by this header behind so many on its medium, which is there; its row of backupset has the position behind them.
pub record AreFinishing (w : World) (now sets : ℕ) (finish : Finish) (acts : List Act) : Type 0 where
  pub r : Running
  pub runs : check_job w ≡ Ok r
  pub named : database_named w.databases finish.name ≡ Some r.database
  pub job_is : r.database.job ≡ Some r.job
  pub are : acts ≡ finishes (sets + 1) r finish.header
  pub may : MayDoAll w acts
  pub header_is : finish.header ≡ job_header w r (said_time w r.database now)
  pub base_is : finish.base ≡ finish.header
  pub row_is : finish.row ≡ record { position = sets + 1; header = finish.header }
  pub name_is : finish.name ≡ r.database.name
  pub path_is : finish.path ≡ r.job.medium
  pub transactions_are : finish.transactions ≡ r.database.transactions
  pub spell : Spell finish.records r.database.end (alone (stamped finish.header.finish finish.header.set))
  pub says : SaysNamed (done w (job_set finish.name None)) finish.name finish.records (alone (stamped finish.header.finish finish.header.set)) finish.transactions
  pub slots : List Slot
  pub there : medium_at w.media finish.path ≡ Some (medium slots)

-- the acts of a plan, where so many sets are on the medium
abbrev pub AreWaitActs : World → ℕ → ℕ → WaitPlan → List Act → Type 0
AreWaitActs w now sets (Refused rule) acts = acts ≡ []
AreWaitActs w now sets (Finishes finish) acts = AreFinishing w now sets finish acts

-- what it replies
abbrev pub wait_reply : WaitPlan → Reply
wait_reply (Refused rule) = reply.Refused rule
wait_reply (Finishes finish) = finish.reply

-- A plan of `:wait` at a moment, where so many sets are on the medium: one outcome, to which it may come in each world that is seen and of which this is known, and whose acts are then those of
-- the plan.
pub record PlansWait (k : Kept) (Known : World → Type 0) (sets : ℕ) (s : ScriptEntry) (now : ℕ) (plan : WaitPlan) : Type 0 where
  pub outcome : Outcome
  pub replies : outcome.reply ≡ wait_reply plan
  pub may : (w : World) → IsSound w → Sees w k → Known w → May w s now outcome
  pub acts : (w : World) → IsSound w → Sees w k → Known w → AreWaitActs w now sets plan outcome.acts

-- what the end of a backup keeps beside its types
pub record KeepsFinish (finish : Finish) : Type 0 where
  pub path : is_path finish.path ≡ true
  pub records : KeepRecords finish.records
  pub header : KeepsConditions finish.header
  pub row : KeepsConditions finish.row.header

-- what a plan keeps beside its types
abbrev pub KeepsWait : WaitPlan → Type 0
KeepsWait (Refused rule) = Unit {0}
KeepsWait (Finishes finish) = KeepsFinish finish

-- How the backup of a database ends at a time, where so many sets are on its medium: by its own header, and by the stamp that is said at the database's end, among what is open in it.
pub record IsFinish (d : KeptDatabase) (job : Job) (sets time : ℕ) (finish : Finish) : Type 0 where
  pub name : finish.name ≡ d.name
  pub path : finish.path ≡ job.medium
  pub transactions : finish.transactions ≡ d.transactions
  pub spell : Spell finish.records d.shown.«end» (alone (stamped time job.set))
  pub header : IsSetHeader d job (d.shown.«end» + 1) time finish.header
  pub base : IsSetHeader d job (d.shown.«end» + 1) time finish.base
  pub row : IsSetHeader d job (d.shown.«end» + 1) time finish.row.header
  pub position : HasRoom (Some sets) → finish.row.position ≡ sets + 1
  pub replies : HasRoom (Some sets) → finish.reply ≡ SetMade (sets + 1) job.first job.checkpoint (d.shown.«end» + 1)
  pub low : d.shown.«end» < 2 ^ 62

-- a plan of that
abbrev pub IsFinishPlan : KeptDatabase → Job → ℕ → ℕ → WaitPlan → Type 0
IsFinishPlan d job sets time (Finishes finish) = IsFinish d job sets time finish
IsFinishPlan d job sets time (Refused rule) = ⊥

-- a plan refuses by the rule of a refusal
abbrev pub IsRefusedWait : Refusal → WaitPlan → Type 0
IsRefusedWait (Broken rule) plan = plan ≡ Refused rule
IsRefusedWait NoMemory plan = ⊥
