-- The parts of a full backup, and of one that only starts.
use Rattle.std.specs.Prelude.{◌≡◌, ◌<◌, ℕ, ◌+◌, Bool, true, false, List, [], ◌∷◌, ◌++◌, Option, Some, None}
use Rattle.bk_acts.specs.declared.act.StoredAct.{StoredAct}
use Rattle.bk_acts.specs.declared.act.StoredAct.TheVariants.{Checkpointed, Logged as LoggedAct, Based}
use Rattle.bk_acts.specs.Conditions.{KeepRecords}
use Rattle.bk_acts.specs.Meaning.{Spell}
use Rattle.bk_ids.specs.declared.guid.Guid.{Guid}
use Rattle.bk_ids.specs.declared.record.Rec.{Rec}
use Rattle.bk_machine.specs.declared.history_row.HistoryRow.TheVariants.{Backup}
use Rattle.bk_machine.specs.declared.job.Job.{Job}
use Rattle.bk_machine.specs.World.{World, log_of, session_numbered}
use Rattle.bk_machine.specs.statements.Backup.{most_sets, set_header}
use Rattle.bk_header.specs.Conditions.{KeepsConditions}
use Rattle.bk_world.specs.Records.{stamped}
use Rattle.bk_world.specs.Says.{alone}
use Rattle.bk_world.specs.Telling.{model}
use Rattle.bk_world.specs.declared.header.Header.{Header}
use Rattle.bk_world.specs.declared.reply.Reply.{Reply}
use Rattle.bk_world.specs.declared.reply.Reply.TheVariants.{JobStarted, SetMade}
use Rattle.bk_kept.specs.declared.kept.Database.{Database as KeptDatabase}
use Rattle.bk_kept.specs.declared.kept.Kept.{Kept}
use Rattle.bk_plans.specs.declared.parts.Part.{Part}
use Rattle.bk_plans.specs.declared.parts.Part.TheVariants.{Stored, MediumMade, SetDrawn, SetSealed, Noted, JobBegun}
use Rattle.bk_plans.specs.declared.parts.Plan.{Plan}
use Rattle.bk_plans.specs.declared.parts.Plan.TheVariants.{Parts, Readied}
use Rattle.bk_kept.specs.Keeps.{Sees, ShowsLog, database_of}
use Rattle.bk_plans.specs.Planned.{IsKeptBehind}

-- a header is the machine's, of the set that a job of a database finishes at a time, with its stamp just below last
abbrev pub IsSetHeader : KeptDatabase → Job → ℕ → ℕ → Header → Type 0
IsSetHeader d job last time header = (w : World) → ShowsLog w.history d → header ≡ set_header (model (log_of w.history (database_of d))) (database_of d) job last time

-- that of a job that finishes at once: its stamp comes right behind the checkpoint at the database's end
abbrev pub IsFullHeader : KeptDatabase → Job → Header → Type 0
IsFullHeader d job header = IsSetHeader d job (d.shown.«end» + 2) job.start header

-- the part by which a set's GUID is drawn: its medium is made where none is, or it comes behind so many sets
abbrev pub draws_part : Option ℕ → List ℕ → Part
draws_part None path = MediumMade path
draws_part (Some sets) path = SetDrawn

-- a medium has room for one set more
abbrev pub HasRoom : Option ℕ → Type 0
HasRoom None = Unit {0}
HasRoom (Some sets) = sets < most_sets

-- the position of that set
abbrev pub position_behind : Option ℕ → ℕ
position_behind None = 1
position_behind (Some sets) = sets + 1

-- by an act a database says the stamp of a set behind a checkpoint at its end, and its transactions stay open
pub record IsStamp (d : KeptDatabase) (set : Guid) (time : ℕ) (stored : StoredAct) : Type 0 where
  pub records : List Rec
  pub is : stored ≡ LoggedAct d.name d.transactions records
  pub spell : Spell records (d.shown.«end» + 1) (alone (stamped time set))
  pub keep : KeepRecords records

-- one part more, by which a database marks a checkpoint at its end
pub record MarksOne (d : KeptDatabase) (time : ℕ) (old new : List Part) : Type 0 where
  pub kept : ℕ
  pub are : new ≡ old ++ Stored (Checkpointed d.name time kept) ∷ []
  pub kept_is : IsKeptBehind d kept

-- one part more, by which it says the stamp of a set
pub record StampsOne (d : KeptDatabase) (set : Guid) (time : ℕ) (old new : List Part) : Type 0 where
  pub records : List Rec
  pub are : new ≡ old ++ Stored (LoggedAct d.name d.transactions records) ∷ []
  pub spell : Spell records (d.shown.«end» + 1) (alone (stamped time set))
  pub keep : KeepRecords records

-- one part more, by which the set of a job is sealed on its medium
pub record SealsOne (d : KeptDatabase) (job : Job) (old new : List Part) : Type 0 where
  pub header : Header
  pub are : new ≡ old ++ SetSealed job.medium header ∷ []
  pub is : IsFullHeader d job header
  pub keeps : KeepsConditions header

-- one part more, by which its row comes to backupset
pub record NotesOne (d : KeptDatabase) (sets : Option ℕ) (job : Job) (old new : List Part) : Type 0 where
  pub position : ℕ
  pub header : Header
  pub are : new ≡ old ++ Noted (Backup (record { position = position; header = header })) ∷ []
  pub position_is : HasRoom sets → position ≡ position_behind sets
  pub is : IsFullHeader d job header
  pub keeps : KeepsConditions header

-- one part more, by which the database is based on it
pub record BasesOne (d : KeptDatabase) (job : Job) (old new : List Part) : Type 0 where
  pub header : Header
  pub are : new ≡ old ++ Stored (Based d.name header) ∷ []
  pub is : IsFullHeader d job header

-- the six parts of a full backup: the draw of its set, the checkpoint at its start, the stamp at its finish, its set, its row, and what the database is based on
pub record IsBackup (d : KeptDatabase) (sets : Option ℕ) (job : Job) (parts : List Part) : Type 0 where
  pub kept : ℕ
  pub finish : List Rec
  pub header : Header
  pub position : ℕ
  pub row_header : Header
  pub base : Header
  pub are : parts ≡ draws_part sets job.medium ∷ Stored (Checkpointed d.name job.start kept) ∷ Stored (LoggedAct d.name d.transactions finish) ∷ SetSealed job.medium header ∷ Noted (Backup (record { position = position; header = row_header })) ∷ Stored (Based d.name base) ∷ []
  pub kept_is : IsKeptBehind d kept
  pub spell : Spell finish (d.shown.«end» + 1) (alone (stamped job.start job.set))
  pub keep : KeepRecords finish
  pub is_header : IsFullHeader d job header
  pub position_is : HasRoom sets → position ≡ position_behind sets
  pub is_row : IsFullHeader d job row_header
  pub is_base : IsFullHeader d job base
  pub keeps : KeepsConditions header
  pub row_keeps : KeepsConditions row_header

-- the reply to them, where the medium has room for the set
abbrev pub IsBackupReply : KeptDatabase → Option ℕ → Job → Reply → Type 0
IsBackupReply d sets job answer = HasRoom sets → answer ≡ SetMade (position_behind sets) job.first job.checkpoint (d.shown.«end» + 2)

-- a plan of those parts, and the reply to them
abbrev pub IsBackupPlan : KeptDatabase → Option ℕ → Job → Plan → Type 0
IsBackupPlan d sets job (Parts parts answer) = IsBackup d sets job parts.items × IsBackupReply d sets job answer
IsBackupPlan d sets job _ = ⊥

-- the three parts of a backup that only starts: the draw of its set, the checkpoint at its start, and the job, of which nothing is copied yet
pub record IsStart (d : KeptDatabase) (sets : Option ℕ) (job : Job) (parts : List Part) : Type 0 where
  pub kept : ℕ
  pub are : parts ≡ draws_part sets job.medium ∷ Stored (Checkpointed d.name job.start kept) ∷ JobBegun d.name job ∷ []
  pub kept_is : IsKeptBehind d kept

-- a plan of those parts, behind which the session's next backup doesn't only start
abbrev pub IsStartPlan : KeptDatabase → Option ℕ → Job → Plan → Type 0
IsStartPlan d sets job (Readied parts starts answer) = IsStart d sets job parts.items × (starts ≡ false) × (answer ≡ JobStarted)
IsStartPlan d sets job _ = ⊥

-- the plan of a backup that only starts, or is done at once
abbrev pub PlansJob : Bool → KeptDatabase → Option ℕ → Job → Plan → Type 0
PlansJob true d sets job plan = IsStartPlan d sets job plan
PlansJob false d sets job plan = IsBackupPlan d sets job plan

-- the plan of a backup by a job, as the current session of what is kept says whether it only starts
pub record PlansChecked (k : Kept) (d : KeptDatabase) (sets : Option ℕ) (job : Job) (plan : Plan) : Type 0 where
  pub starts : Bool
  pub starts_is : (w : World) → Sees w k → starts ≡ (session_numbered w.sessions w.session).starts
  pub plans : PlansJob starts d sets job plan
