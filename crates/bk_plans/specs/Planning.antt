-- Plans of statements, as outcomes of the machine.
use Rattle.std.specs.Prelude.{◌≡◌, ◌≤◌, ℕ, Bool, Option, length, true, false, List, [], ◌∷◌, ◌++◌, None, Some}
use Rattle.std.specs.List.{AllByRecursion}
use Rattle.bk_acts.specs.Conditions.{KeepsAct}
use Rattle.bk_header.specs.Conditions.{KeepsConditions}
use Rattle.bk_items.specs.declared.item.ScriptEntry.{ScriptEntry}
use Rattle.bk_items.specs.declared.item.ScriptItem.{ScriptItem}
use Rattle.bk_items.specs.declared.item.ScriptItem.TheVariants.{BackupDatabase, RestoreDatabase, QueryMedium, SelectCatalog, Wait}
use Rattle.bk_machine.specs.Acts.{Act, turned, seated, readied, medium_made, set_drawn, set_sealed, noted, job_set, done}
use Rattle.bk_machine.specs.Checks.{used_up, is_path}
use Rattle.bk_machine.specs.declared.history_row.HistoryRow.{HistoryRow}
use Rattle.bk_machine.specs.declared.history_row.HistoryRow.TheVariants.{Backup, Restore, Mark}
use Rattle.bk_machine.specs.Machine.{May}
use Rattle.bk_machine.specs.MayDo.{MayDo}
use Rattle.bk_machine.specs.Outcome.{Outcome}
use Rattle.bk_machine.specs.Sound.{IsSound}
use Rattle.bk_machine.specs.World.{World, Database, database_named}
use Rattle.bk_machine.specs.declared.job.Job.{Job}
use Rattle.bk_machine.specs.statements.Backup.{all_extents}
use Rattle.bk_machine.specs.statements.Job.{stepped}
use Rattle.bk_world.specs.Medium.{Slot, medium, medium_at}
use Rattle.bk_world.specs.declared.header.Header.{Header}
use Rattle.bk_world.specs.declared.reply.Reply.{Reply}
use Rattle.bk_world.specs.declared.reply.Reply.TheVariants as reply
use Rattle.bk_kept.specs.declared.kept.Kept.{Kept}
use Rattle.bk_plans.specs.declared.parts.Part.{Part}
use Rattle.bk_plans.specs.declared.parts.Part.TheVariants.{Stored, MediumMade, SetDrawn, SetSealed, Noted, JobBegun, JobStepped}
use Rattle.bk_plans.specs.declared.parts.Plan.{Plan}
use Rattle.bk_plans.specs.declared.parts.Plan.TheVariants.{Refused, Answered, Turned, Seated, Parts, Readied}
use Rattle.bk_kept.specs.Jobs.{IsApart}
use Rattle.bk_kept.specs.Keeps.{Sees}
use Rattle.bk_kept.specs.Stored.{IsDone}

-- Parts.

-- a medium is made where none is
pub record MakesMedium (w : World) (path : List ℕ) (act : Act) : Type 0 where
  pub is : act ≡ medium_made path
  pub absent : medium_at w.media path ≡ None
  pub draws : used_up w.counter ≡ false

-- the GUID of a set is drawn, and one is left for it
pub record DrawsSet (w : World) (act : Act) : Type 0 where
  pub is : act ≡ set_drawn
  pub draws : used_up w.counter ≡ false

-- a set is sealed on a medium that is there
pub record SealsSet (w : World) (path : List ℕ) (header : Header) (act : Act) : Type 0 where
  pub is : act ≡ set_sealed path header
  pub may : MayDo w act
  pub slots : List Slot
  pub there : medium_at w.media path ≡ Some (medium slots)

-- A backup may start in the database of a name: none runs there, nothing of it is copied yet, and no backup that runs has its set.
pub record StartsJob (w : World) (name : List ℕ) (job : Job) : Type 0 where
  pub db : Database
  pub found : database_named w.databases name ≡ Some db
  pub none : db.job ≡ None
  pub may : MayDo w (job_set name (Some job))
  pub whole : job.left ≡ all_extents db.files
  pub apart : IsApart w job.set

-- it starts by this act
pub record BeginsJob (w : World) (name : List ℕ) (job : Job) (act : Act) : Type 0 where
  pub is : act ≡ job_set name (Some job)
  pub starts : StartsJob w name job

-- the backup of the database of a name goes on by so many extents
pub record StepsJob (w : World) (name : List ℕ) (count : ℕ) (act : Act) : Type 0 where
  pub db : Database
  pub found : database_named w.databases name ≡ Some db
  pub job : Job
  pub runs : db.job ≡ Some job
  pub is : act ≡ job_set name (Some (stepped count job))
  pub may : MayDo w act

-- a part is this act, which may be done to a world
abbrev pub IsPart : World → Part → Act → Type 0
IsPart w (Stored stored) act = IsDone w stored act
IsPart w (MediumMade path) act = MakesMedium w path act
IsPart w SetDrawn act = DrawsSet w act
IsPart w (SetSealed path header) act = SealsSet w path header act
IsPart w (Noted row) act = act ≡ noted row
IsPart w (JobBegun name job) act = BeginsJob w name job act
IsPart w (JobStepped name count) act = StepsJob w name count act

-- parts are these acts, each of which may be done behind those before it
abbrev pub AreParts : World → List Part → List Act → Type 0
AreParts w [] [] = Unit {0}
AreParts w (part ∷ parts) (act ∷ acts) = IsPart w part act × AreParts (done w act) parts acts
AreParts w _ _ = ⊥

-- the text of the stop of a restore has at most 65,535 bytes, if there is one
abbrev pub IsShortStop : Option (List ℕ) → Type 0
IsShortStop None = Unit {0}
IsShortStop (Some stop) = length stop ≤ 65535

-- what a row of msdb keeps beside its types
abbrev pub KeepsRow : HistoryRow → Type 0
KeepsRow (Backup row) = KeepsConditions row.header
KeepsRow (Restore row) = IsShortStop row.stop
KeepsRow (Mark row) = Unit {0}

-- what a part keeps beside its types
abbrev pub KeepsPart : Part → Type 0
KeepsPart (Stored stored) = KeepsAct stored
KeepsPart (MediumMade path) = is_path path ≡ true
KeepsPart SetDrawn = Unit {0}
KeepsPart (SetSealed path header) = (is_path path ≡ true) × KeepsConditions header
KeepsPart (Noted row) = KeepsRow row
KeepsPart (JobBegun name job) = is_path job.medium ≡ true
KeepsPart (JobStepped name count) = Unit {0}

-- Plans.

-- what a plan replies
abbrev pub reply_of : Plan → Reply
reply_of (Refused rule) = reply.Refused rule
reply_of (Answered answer) = answer
reply_of (Turned name) = reply.Done
reply_of (Seated session) = reply.Nothing
reply_of (Parts parts answer) = answer
reply_of (Readied parts starts answer) = answer

-- Parts are these acts, behind which the current session's next backup only starts, or it doesn't any more.
pub record AreReadying (w : World) (parts : List Part) (starts : Bool) (acts : List Act) : Type 0 where
  pub front : List Act
  pub parts_are : AreParts w parts front
  pub are : acts ≡ front ++ readied starts ∷ []

-- the acts of a plan, each of which may be done to a world behind those before it
abbrev pub AreActsOf : World → Plan → List Act → Type 0
AreActsOf w (Refused rule) acts = acts ≡ []
AreActsOf w (Answered answer) acts = acts ≡ []
AreActsOf w (Turned name) acts = acts ≡ turned name ∷ []
AreActsOf w (Seated session) acts = acts ≡ seated session ∷ []
AreActsOf w (Parts parts answer) acts = AreParts w parts.items acts
AreActsOf w (Readied parts starts answer) acts = AreReadying w parts.items starts acts

-- what a plan keeps beside its types
abbrev pub KeepsPlan : Plan → Type 0
KeepsPlan (Parts parts answer) = AllByRecursion KeepsPart parts.items
KeepsPlan (Readied parts starts answer) = AllByRecursion KeepsPart parts.items
KeepsPlan _ = Unit {0}

-- A plan of a statement at a moment: one outcome, to which the statement may come in each world that is seen and of which this is known, and
-- whose acts are then those of the plan.
pub record Plans (k : Kept) (Known : World → Type 0) (s : ScriptEntry) (now : ℕ) (plan : Plan) : Type 0 where
  pub outcome : Outcome
  pub replies : outcome.reply ≡ reply_of plan
  pub may : (w : World) → IsSound w → Sees w k → Known w → May w s now outcome
  pub acts : (w : World) → IsSound w → Sees w k → Known w → AreActsOf w plan outcome.acts

-- an item that reads neither a medium nor the tables of msdb
abbrev pub ReadsNoMedium : ScriptItem → Type 0
ReadsNoMedium (BackupDatabase name units disk options) = ⊥
ReadsNoMedium (RestoreDatabase name units disk options) = ⊥
ReadsNoMedium (QueryMedium query disk file) = ⊥
ReadsNoMedium (SelectCatalog catalog) = ⊥
ReadsNoMedium Wait = ⊥
ReadsNoMedium _ = Unit {0}
