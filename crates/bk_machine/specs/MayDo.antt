-- Which acts may be done to a sound world, so that it stays sound.
use Rattle.std.specs.Prelude.{◌≡◌, ◌≢◌, ◌⊎◌, ◌<◌, ◌≤◌, ◌+◌, true, List, [], ◌∷◌, length, Option, Some, None, ℕ}
use Rattle.std.specs.List.{AllByRecursion}
use Rattle.bk_ids.specs.Name.{lowered}
use Rattle.bk_world.specs.declared.database.Creation.{Creation}
use Rattle.bk_world.specs.declared.database.Status.TheVariants.{Online, Down}
use Rattle.bk_world.specs.Records.{Said, more, numbered, Deed, checkpointed}
use Rattle.bk_world.specs.SoundLogs.{MayFollow}
use Rattle.bk_world.specs.Telling.{tables}
use Rattle.bk_world.specs.Says.{alone}
use Rattle.bk_machine.specs.Acts.{latest, Act, Recovery, turned, seated, readied, created, dropped, logged, medium_made, set_drawn, noted, set_sealed, based, job_set, jobs_dropped, replaced, restored, recovered, done, drawn}
use Rattle.bk_machine.specs.Checks.{last_number, most_branches}
use Rattle.bk_machine.specs.Fits.{FitsLog, FitsStorage}
use Rattle.bk_machine.specs.Sound.{AreNumbered, AreOpen, ArePlaced, IsFitJob, IsNotToCome, IsOther, IsSoundSet, JobIs, LeavesStamp, has_begin}
use Rattle.bk_world.specs.declared.transaction.Open.{Open}
use Rattle.bk_machine.specs.declared.job.Job.{Job}
use Rattle.bk_machine.specs.World.{World, Database, database_named, log_of, log_to, most_sessions}
use Rattle.bk_machine.specs.statements.Restore.{Recovers}

-- the two next GUIDs, a name that no database has, files and filegroups as a database may have them, and a time up to the last one
pub record MayCreate (w : World) (c : Creation) : Type 0 where
  pub family : c.family ≡ drawn w w.counter
  pub branch : c.branch ≡ drawn w (w.counter + 1)
  pub new : database_named w.databases c.name ≡ None
  pub fits : FitsStorage c.storage
  pub time : c.time ≤ latest

-- a record that moves no points of a database
abbrev pub IsNoMark : Deed → Type 0
IsNoMark (checkpointed time) = ⊥
IsNoMark _ = Unit {0}

-- no checkpoint is among some records, or it is said alone
abbrev pub MarksAlone : List Said → Type 0
MarksAlone said = AllByRecursion (λ (s : Said). IsNoMark s.deed) said ⊎ ((time : ℕ) × (said ≡ alone (checkpointed time)))

-- a database that is online may say this: each record may come, rows get cells of their groups, and its log still fits a set
pub record MaySay (w : World) (db : Database) (said : List Said) : Type 0 where
  pub online : db.status ≡ Online
  pub may : MayFollow (log_of w.history db) (numbered db.end said)
  pub tables : AreNumbered 1 (tables (more (log_of w.history db) db.end said))
  pub places : ArePlaced db.files (log_of w.history db) (numbered db.end said)
  pub fits : FitsLog (length db.groups) (more (log_of w.history db) db.end said)
  pub marks : MarksAlone said

-- a transaction was open in a database before, or begins at its end or behind it
abbrev pub IsOpenOrNew : Database → Open → Type 0
IsOpenOrNew db t = (has_begin db.transactions t.begin ≡ true) ⊎ (db.end ≤ t.begin)

-- and these transactions are open then
pub record MayLog (w : World) (db : Database) (said : List Said) (transactions : List Open) : Type 0 where
  pub says : MaySay w db said
  pub each : AllByRecursion (IsOpenOrNew db) transactions
  pub opens : AreOpen (more (log_of w.history db) db.end said) (db.end + length said) transactions
  pub leaves : JobIs (λ (job : Job). LeavesStamp (more (log_of w.history db) db.end said) (db.end + length said) transactions) db.job

-- A database that is down may be recovered at a number of its log, on the next GUID as its branch, where there are numbers for what the recovery says,
-- and its path has room for the branch.
pub record MayRecover (w : World) (db : Database) (r : Recovery) : Type 0 where
  pub down : db.status ≡ Down
  pub some : 0 < r.at
  pub within : r.at ≤ db.end
  pub branch : r.branch ≡ drawn w w.counter
  pub recovers : Recovers (log_to w.history db r.at) r
  pub numbers : r.at + length r.said ≤ last_number
  pub room : length db.path < most_branches

-- a backup of a database that is online may start or go on, with a GUID that was drawn, which no other database's backup has
pub record MayRun (w : World) (db : Database) (job : Job) : Type 0 where
  pub online : db.status ≡ Online
  pub fit : IsFitJob (log_of w.history db) db.end db.transactions job
  pub drawn : IsNotToCome w job.set
  pub apart : AllByRecursion (λ (o : Database). lowered o.name ≢ lowered db.name → IsOther job.set o) w.databases
  pub keeps : db.kept ≤ job.first

-- this holds of the database of a name
abbrev pub HoldsOf : Option Database → (Database → Type 0) → Type 0
HoldsOf None P = ⊥
HoldsOf (Some db) P = P db

abbrev pub MayDo : World → Act → Type 0
MayDo w (turned name) = Unit {0}
MayDo w (seated session) = session ≤ most_sessions
MayDo w (readied starts) = Unit {0}
MayDo w (created c) = MayCreate w c
MayDo w (dropped name) = Unit {0}
MayDo w (logged name said transactions) = HoldsOf (database_named w.databases name) (λ db. MayLog w db said transactions)
MayDo w (medium_made path) = Unit {0}
MayDo w set_drawn = Unit {0}
MayDo w (set_sealed path header) = IsSoundSet w header
MayDo w (noted row) = Unit {0}
MayDo w (based name header) = Unit {0}
MayDo w (job_set name job) = JobIs (λ (job : Job). HoldsOf (database_named w.databases name) (λ db. MayRun w db job)) job
MayDo w jobs_dropped = Unit {0}
MayDo w (replaced name header) = IsSoundSet w header
MayDo w (restored name base redo) = Unit {0}
MayDo w (recovered name r) = HoldsOf (database_named w.databases name) (λ db. MayRecover w db r)

-- some acts may be done one after another
abbrev pub MayDoAll : World → List Act → Type 0
MayDoAll w [] = Unit {0}
MayDoAll w (act ∷ acts) = MayDo w act × MayDoAll (done w act) acts

-- an act behind which no transaction is open and no backup runs
abbrev pub LeavesIdle : Act → Type 0
LeavesIdle (logged name said transactions) = transactions ≡ []
LeavesIdle (job_set name job) = job ≡ None
LeavesIdle _ = Unit {0}
