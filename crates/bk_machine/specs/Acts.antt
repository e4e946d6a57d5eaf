-- Acts: what a statement does to a world, one act for each of its parts.
-- SQL Server: BACKUP, RESTORE (Transact-SQL); "Recovery Paths"; "Transaction Log Architecture and Management Guide".
use Rattle.std.specs.Prelude.{ℕ, ◌+◌, max, min, Bool, true, false, not, ◌&&◌, ◌||◌, List, [], ◌∷◌, ◌++◌, length, filter, map, nat_le, Option, Some, None, ◌==◌, if◌then◌else◌}
use Rattle.std.specs.Str.{bytes_eq}
use Rattle.bk_ids.specs.declared.guid.Guid.{Guid}
use Rattle.bk_ids.specs.declared.path.Branch.{Branch}
use Rattle.bk_ids.specs.declared.record.RecoveryModel.{RecoveryModel}
use Rattle.bk_ids.specs.declared.record.RecoveryModel.TheVariants.{Simple, Full, BulkLogged}
use Rattle.bk_ids.specs.declared.unit.UnitId.TheVariants.{File}
use Rattle.bk_ids.specs.Path.{last_branch}
use Rattle.bk_world.specs.declared.database.Base.{Base}
use Rattle.bk_world.specs.declared.database.Creation.{Creation}
use Rattle.bk_world.specs.declared.database.FileSpec.{FileSpec}
use Rattle.bk_world.specs.declared.database.State.{State}
use Rattle.bk_world.specs.declared.database.State.TheVariants as state
use Rattle.bk_world.specs.declared.database.Status.{Status}
use Rattle.bk_world.specs.declared.database.Status.TheVariants as status
use Rattle.bk_world.specs.declared.database.Unit.{Unit as RestoreUnit}
use Rattle.bk_world.specs.declared.header.Header.{Header}
use Rattle.bk_world.specs.declared.header.HeaderFile.{HeaderFile}
use Rattle.bk_world.specs.declared.msdb.BackupRow.{BackupRow}
use Rattle.bk_world.specs.declared.msdb.MarkRow.{MarkRow}
use Rattle.bk_world.specs.declared.msdb.RestoreRow.{RestoreRow}
use Rattle.bk_machine.specs.declared.history_row.HistoryRow.{HistoryRow}
use Rattle.bk_machine.specs.declared.history_row.HistoryRow.TheVariants.{Backup, Restore, Mark}
use Rattle.bk_world.specs.History.{is_guid}
use Rattle.bk_world.specs.Lines.{RecordLine, said_on_last}
use Rattle.bk_world.specs.Medium.{Slot, Reading, readable, not_media, medium, medium_at, with_medium}
use Rattle.bk_world.specs.Records.{Deed, Logged, Said, database_made, checkpointed, numbered}
use Rattle.bk_world.specs.Says.{alone}
use Rattle.bk_world.specs.Telling.{model, time}
use Rattle.bk_world.specs.declared.transaction.Open.{Open}
use Rattle.bk_machine.specs.declared.job.Job.{Job}
use Rattle.bk_machine.specs.World.{World, Database, log_of, log_to, least_begin, database_named, with_database, without_database, with_new_database, session_numbered, with_session}

-- a recovery: where, on which branch that is drawn for it, and what is said there
pub record Recovery : Type 0 where
  pub at : ℕ
  pub branch : Guid
  pub said : List Said

-- What is done to a world in one part. Databases are named by their names.
pub data Act : Type 0 where
  -- the current session's current database is set, or it has none
  turned : Option (List ℕ) → Act
  -- this session is the current one from now on
  seated : ℕ → Act
  -- the current session's next backup only starts, or it doesn't any more
  readied : Bool → Act
  -- a database is made, and says its first record
  created : Creation → Act
  dropped : List ℕ → Act
  -- a database says this at its end, and then these transactions are open
  logged : List ℕ → List Said → List Open → Act
  -- a medium is made at a path, without sets, for a set whose GUID is drawn
  medium_made : List ℕ → Act
  -- the GUID of a set is drawn that comes behind those on a medium
  set_drawn : Act
  -- a set is sealed behind those on a medium
  set_sealed : List ℕ → Header → Act
  -- a row is added to its table of msdb
  noted : HistoryRow → Act
  -- a database is based on a set
  based : List ℕ → Header → Act
  -- the backup of a database starts or goes on, or there is none any more
  job_set : List ℕ → Option Job → Act
  -- no database has one any more
  jobs_dropped : Act
  -- a set takes the place of the database of a name, or comes behind the others; its files are Bad
  replaced : List ℕ → Header → Act
  -- the files of a database are restored, as of a number
  restored : List ℕ → Option Base → ℕ → Act
  -- a database goes online
  recovered : List ℕ → Recovery → Act

-- Numbers, times.

-- the last millisecond of the year 9999, which no time is above
abbrev pub latest : ℕ
latest = 253402300799999

-- the GUID that an instance draws as this one
abbrev pub drawn : World → ℕ → Guid
drawn w low = record { high = w.instance; low = low }

-- the time of what a database says now: never below the last time in its log
unfoldable pub said_time : World → Database → ℕ → ℕ
said_time w db now = max (min now latest) (time (log_of w.history db))

-- the log isn't kept for backups
abbrev pub is_simple : RecoveryModel → Bool
is_simple Simple = true
is_simple Full = false
is_simple BulkLogged = false

-- A new database.

-- each data file of a new database, online
abbrev pub online_files : List FileSpec → List RestoreUnit
online_files files = map (λ (f : FileSpec). record { id = File f.number; state = state.Online }) files

-- a database as it is made: its first record is number 1
unfoldable pub new_database : Creation → Database
new_database c = record {
  name = c.name;
  family = c.family;
  groups = c.storage.groups;
  files = c.storage.files;
  log_name = c.storage.log_name;
  log_path = c.storage.log_path;
  path = (record { guid = c.branch; start = 1 }) ∷ [];
  end = 2;
  archive = 1;
  kept = 1;
  checkpoint = 1;
  chain = false;
  began = false;
  base = None;
  status = status.Online;
  units = online_files c.storage.files;
  job = None;
  transactions = [];
}

-- the line of a branch with what is said on it from a number on
abbrev pub new_line : Guid → ℕ → List Said → RecordLine
new_line branch at said = record { branch = branch; records = numbered at said }

-- what a new database says
abbrev pub creation_said : Creation → List Said
creation_said c = alone (database_made c.time c.family c.branch)

-- What a database says.

-- the first number that a running job needs, or else this one
abbrev pub job_first : Option Job → ℕ → ℕ
job_first None n = n
job_first (Some job) n = min job.first n

-- what the live log keeps from a checkpoint at n on: the open transactions, and what a job needs
abbrev pub floor : Database → ℕ → ℕ
floor db n = min n (min (least_begin db.transactions n) (job_first db.job n))

-- where no log backup will come, a checkpoint drops the log that nobody needs
abbrev pub kept_after : Database → RecoveryModel → ℕ → ℕ
kept_after db model n = if is_simple model || not db.chain then max db.kept (floor db n) else db.kept

-- the points of a database behind a record: a checkpoint moves them
abbrev pub pointed_by : RecoveryModel → Database → ℕ → Deed → Database
pointed_by model db n (checkpointed time) = record db { checkpoint = n; kept = kept_after db model n }
pointed_by model db n _ = db

abbrev pub pointed : RecoveryModel → Database → List Logged → Database
pointed model db [] = db
pointed model db (r ∷ rs) = pointed model (pointed_by model db r.lsn r.deed) rs

-- a database behind what it said, with these transactions open
abbrev pub gone_on : RecoveryModel → List Said → List Open → Database → Database
gone_on model said transactions db = record (pointed model db (numbered db.end said)) { end = db.end + length said; transactions = transactions }

-- a database of a world says this at its end
unfoldable pub says : World → Database → List Said → List Open → World
says w db said transactions = record w {
  history = said_on_last w.history (last_branch db.path) (numbered db.end said);
  databases = with_database w.databases db.name (gone_on (model (log_of w.history db)) said transactions);
}

-- Backups.

-- the slots of a reading with one more behind them
abbrev pub with_slot : Option Reading → Slot → Reading
with_slot None slot = medium (slot ∷ [])
with_slot (Some not_media) slot = medium (slot ∷ [])
with_slot (Some (medium slots)) slot = medium (slots ++ slot ∷ [])

-- a database is based on a set: where no log backup could come before, the log chain begins with it
abbrev pub based_on : Header → Database → Database
based_on header db = record db {
  base = Some (record { set = header.set; lsn = header.checkpoint });
  chain = db.chain || not (is_simple header.model);
  archive = if not db.chain && not (is_simple header.model) then header.first else db.archive;
  began = db.began && (db.chain || is_simple header.model);
}

-- a database with this job
abbrev pub with_job : Option Job → Database → Database
with_job job db = record db { job = job }

-- Restores.

-- each file of a set, in one state
abbrev pub file_units : State → List HeaderFile → List RestoreUnit
file_units state files = map (λ file. record { id = File file.spec.number; state = state }) files

-- the database that a set of data makes, with its files Bad
abbrev pub taken_over : List ℕ → Header → Database
taken_over name header = record {
  name = name;
  family = header.family;
  groups = header.groups;
  files = map (λ file. file.spec) header.files;
  log_name = header.log_name;
  log_path = header.log_path;
  path = header.path;
  end = header.last;
  archive = header.last;
  kept = header.last;
  checkpoint = header.last;
  chain = false;
  began = false;
  base = None;
  status = status.Down;
  units = file_units state.Bad header.files;
  job = None;
  transactions = [];
}

-- all units in one state
abbrev pub units_in : State → List RestoreUnit → List RestoreUnit
units_in state units = map (λ (u : RestoreUnit). record u { state = state }) units

-- what is restored goes online, and nothing else
abbrev pub online_state : State → State
online_state (state.Restoring base redo) = state.Online
online_state _ = state.Offline

abbrev pub online_units : List RestoreUnit → List RestoreUnit
online_units units = map (λ (u : RestoreUnit). record u { state = online_state u.state }) units

abbrev pub same_base : Option Base → Option Base → Bool
same_base None None = true
same_base (Some a) (Some b) = is_guid a.set b.set && a.lsn == b.lsn
same_base _ _ = false

-- what differentials are based on behind a recovery: the base of the restored units, where all have one
abbrev pub base_with : State → Option Base → Option Base
base_with (state.Restoring base redo) other = if same_base base other then base else None
base_with _ other = other

abbrev pub common_base : List RestoreUnit → Option Base
common_base [] = None
common_base (u ∷ units) = common_from u.state units
  where
    common_from : State → List RestoreUnit → Option Base
    common_from (state.Restoring base redo) [] = base
    common_from (state.Restoring base redo) (v ∷ vs) = base_with v.state (common_from (state.Restoring base redo) vs)
    common_from _ [] = None
    common_from _ (v ∷ vs) = common_from v.state vs

-- a path that is recovered at a number goes on from there on a new branch
abbrev pub forked : List Branch → ℕ → Guid → List Branch
forked path at branch = filter (λ b. nat_le b.start at) path ++ (record { guid = branch; start = at }) ∷ []

-- a database is recovered at a number, below which the recovery model was this
abbrev pub gone_online : RecoveryModel → Recovery → Database → Database
gone_online model r db = record db {
  path = forked db.path r.at r.branch;
  end = r.at + length r.said;
  archive = r.at;
  kept = r.at;
  checkpoint = r.at;
  chain = not (is_simple model);
  began = true;
  base = common_base db.units;
  status = status.Online;
  units = online_units db.units;
}

-- a database of a world goes online on a new line
unfoldable pub goes_online : World → Database → Recovery → World
goes_online w db r = record w {
  counter = w.counter + 1;
  history = new_line r.branch r.at r.said ∷ w.history;
  databases = with_database w.databases db.name (gone_online (model (log_to w.history db r.at)) r);
}

-- Rows of msdb.

-- what a row is in backupset, restorehistory and logmarkhistory
abbrev pub backups_in : HistoryRow → List BackupRow
backups_in (Backup row) = row ∷ []
backups_in (Restore row) = []
backups_in (Mark row) = []

abbrev pub restores_in : HistoryRow → List RestoreRow
restores_in (Backup row) = []
restores_in (Restore row) = row ∷ []
restores_in (Mark row) = []

abbrev pub marks_in : HistoryRow → List MarkRow
marks_in (Backup row) = []
marks_in (Restore row) = []
marks_in (Mark row) = row ∷ []

-- What acts make of a world.

-- the standby files without that of a database, if it has one
abbrev pub without_standby : Status → List (List ℕ) → List (List ℕ)
without_standby (status.Standby file) standbys = filter (λ s. not (bytes_eq s file)) standbys
without_standby status.Online standbys = standbys
without_standby status.Down standbys = standbys

abbrev pub without_standby_of : Option Database → List (List ℕ) → List (List ℕ)
without_standby_of None standbys = standbys
without_standby_of (Some db) standbys = without_standby db.status standbys

-- a world where a database is found, or else as it was
abbrev pub where_found : World → Option Database → (Database → World) → World
where_found w None next = w
where_found w (Some db) next = next db

-- a world behind an act
unfoldable pub done : World → Act → World
done w (turned name) = record w { sessions = with_session w.sessions (record (session_numbered w.sessions w.session) { current = name }) }
done w (seated session) = record w { session = session }
done w (readied starts) = record w { sessions = with_session w.sessions (record (session_numbered w.sessions w.session) { starts = starts }) }
done w (created c) = record w {
  counter = w.counter + 2;
  history = new_line c.branch 1 (creation_said c) ∷ w.history;
  databases = w.databases ++ new_database c ∷ [];
}
done w (dropped name) = record w {
  databases = without_database w.databases name;
  standbys = without_standby_of (database_named w.databases name) w.standbys;
}
done w (logged name records transactions) = where_found w (database_named w.databases name) (λ db. says w db records transactions)
done w (medium_made path) = record w { counter = w.counter + 1; media = with_medium w.media path (medium []) }
done w set_drawn = record w { counter = w.counter + 1 }
done w (set_sealed path header) = record w { media = with_medium w.media path (with_slot (medium_at w.media path) (readable header)) }
done w (noted row) = record w { backups = w.backups ++ backups_in row; restores = w.restores ++ restores_in row; marks = w.marks ++ marks_in row }
done w (based name header) = record w { databases = with_database w.databases name (based_on header) }
done w (job_set name job) = record w { databases = with_database w.databases name (with_job job) }
done w jobs_dropped = record w { databases = map (with_job None) w.databases }
done w (replaced name header) = record w {
  databases = with_new_database w.databases (taken_over name header);
  standbys = without_standby_of (database_named w.databases name) w.standbys;
}
done w (restored name base redo) = record w { databases = with_database w.databases name (λ db. record db { units = units_in (state.Restoring base redo) db.units }) }
done w (recovered name r) = where_found w (database_named w.databases name) (λ db. goes_online w db r)

-- a world behind several acts
abbrev pub done_all : World → List Act → World
done_all w [] = w
done_all w (act ∷ acts) = done_all (done w act) acts
