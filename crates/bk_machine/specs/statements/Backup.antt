-- BACKUP DATABASE: a full backup to a medium, a new one or one that is there, part by part. That one may only start is this project's own.
-- SQL Server: BACKUP (Transact-SQL); "Full Database Backups"; "Media Sets, Media Families, and Backup Sets"; "backupset (Transact-SQL)".
use Rattle.std.specs.Prelude.{◌≡◌, ◌<◌, ℕ, zero, suc, ◌+◌, Bool, true, false, not, ◌&&◌, ◌||◌, nat_le, List, [], ◌∷◌, flat_map, length, map, Option, Some, None, is_none, Result, Ok, Err}
use Rattle.std.specs.List.{list_any}
use Rattle.std.specs.Str.{bytes_eq}
use Rattle.bk_ids.specs.declared.guid.Guid.{Guid}
use Rattle.bk_ids.specs.declared.record.ExtentId.{ExtentId}
use Rattle.bk_ids.specs.declared.record.RecoveryModel.{RecoveryModel}
use Rattle.bk_items.specs.declared.item.UnitName.{UnitName}
use Rattle.bk_items.specs.declared.options.BackupOptions.{BackupOptions}
use Rattle.bk_world.specs.declared.database.Base.{Base}
use Rattle.bk_world.specs.declared.database.FileSpec.{FileSpec}
use Rattle.bk_world.specs.declared.header.Header.{Header}
use Rattle.bk_world.specs.declared.header.SetKind.TheVariants as kind
use Rattle.bk_world.specs.declared.reply.Reply.TheVariants.{JobStarted, SetMade}
use Rattle.bk_world.specs.declared.rule.Limit.TheVariants.{Sets}
use Rattle.bk_world.specs.declared.rule.Rule.{Rule}
use Rattle.bk_world.specs.declared.rule.Rule.TheVariants.{NoSuchDatabase, NotMedia, FileInUse, LimitReached, NotBuilt}
use Rattle.bk_world.specs.Medium.{Reading, Slot, medium, medium_at, not_media}
use Rattle.bk_world.specs.Records.{checkpointed, stamped}
use Rattle.bk_world.specs.Says.{alone}
use Rattle.bk_world.specs.Telling.{model}
use Rattle.bk_machine.specs.declared.history_row.HistoryRow.TheVariants as row
use Rattle.bk_machine.specs.Acts.{Act, readied, logged, medium_made, set_drawn, set_sealed, noted, based, job_set, drawn, said_time}
use Rattle.bk_machine.specs.Checks.{Checked, ◌>>=◌, refuse_if, or_refuse, outside, online, limit, used_up, is_path, without_job}
use Rattle.bk_machine.specs.Outcome.{Outcome}
use Rattle.bk_machine.specs.declared.job.Job.{Job}
use Rattle.bk_machine.specs.World.{World, Database, database_named, log_of, least_begin, session_numbered}

-- Which of them are built.

-- a switch that is on, and one that is off or isn't there
abbrev pub is_on : Option Bool → Bool
is_on None = false
is_on (Some on) = on

abbrev pub is_off : Option Bool → Bool
is_off switch = not (is_on switch)

-- how many bytes the name of a set has at most (a script has no longer ones: their items are TooLong there)
abbrev pub most_set_name_bytes : ℕ
most_set_name_bytes = 65535

-- the name of a set, empty where none is given
abbrev pub set_name : Option (List ℕ) → List ℕ
set_name None = []
set_name (Some name) = name

-- media aren't emptied yet, sets don't expire, and there are no copies and no differentials
abbrev pub has_built_options : BackupOptions → Bool
has_built_options o = is_off o.init && is_off o.format && is_off o.skip && is_none o.expire && is_none o.retain
    && not (o.copy_only || o.differential || o.no_recovery || o.no_truncate) && nat_le (length (set_name o.name)) most_set_name_bytes

abbrev pub is_whole_backup : List UnitName → BackupOptions → Bool
is_whole_backup [] options = has_built_options options
is_whole_backup (unit ∷ units) options = false

-- Media.

-- how many sets a medium has at most, damaged ones among them
abbrev pub most_sets : ℕ
most_sets = 65535

-- the backup of a database writes to the medium at a path
abbrev pub is_written_by : List ℕ → Option Job → Bool
is_written_by path None = false
is_written_by path (Some job) = bytes_eq job.medium path

-- refused where the backup of some database writes to it
abbrev pub check_unwritten : List Database → List ℕ → Checked (Unit {0})
check_unwritten databases path = refuse_if (list_any (λ (db : Database). is_written_by path db.job) databases) (FileInUse path)

-- refused where the file at a medium's path is no medium, or has no room for a set
abbrev pub check_medium : Option Reading → Checked (Unit {0})
check_medium None = Ok tt
check_medium (Some not_media) = Err NotMedia
check_medium (Some (medium slots)) = refuse_if (nat_le most_sets (length slots)) (LimitReached Sets)

-- what a backup is told of the file at its medium's path: there is none; it is a medium with so many sets and room for one more; or the rule by which it is refused
abbrev pub ShowsRoom : Option Reading → Result (Option ℕ) Rule → Type 0
ShowsRoom reading (Ok None) = reading ≡ None
ShowsRoom reading (Ok (Some n)) = (slots : List Slot) × (reading ≡ Some (medium slots)) × (length slots ≡ n) × (n < most_sets)
ShowsRoom reading (Err rule) = check_medium reading ≡ Err rule

-- the position of the next set on a medium, which is made where none is there
abbrev pub next_position : Option Reading → ℕ
next_position None = 1
next_position (Some not_media) = 1
next_position (Some (medium slots)) = length slots + 1

-- the set's GUID is drawn: the medium is made for it, or it comes behind the sets that are there
abbrev pub draws_set : Option Reading → List ℕ → Act
draws_set None path = medium_made path
draws_set (Some reading) path = set_drawn

-- Rules.

unfoldable pub check_backup : World → ℕ → List ℕ → List UnitName → List ℕ → BackupOptions → Checked Database
check_backup w line name units path options = do
  _ ← refuse_if (not (is_whole_backup units options && is_path path)) (NotBuilt line)
  _ ← outside w
  named ← or_refuse (database_named w.databases name) NoSuchDatabase
  db ← online named
  _ ← without_job db
  _ ← check_unwritten w.databases path
  _ ← check_medium (medium_at w.media path)
  _ ← limit (used_up db.end || used_up w.counter)
  Ok db

-- The set.

-- the number of a base's checkpoint, 0 where there is none
abbrev pub base_lsn : Option Base → ℕ
base_lsn None = 0
base_lsn (Some base) = base.lsn

-- so many extents of a file, from one on
abbrev pub extents_from : ℕ → ℕ → ℕ → List ExtentId
extents_from file extent zero = []
extents_from file extent (suc count) = record { file = file; extent = extent } ∷ extents_from file (extent + 1) count

-- all data extents, file by file; those of a file count from 1
abbrev pub all_extents : List FileSpec → List ExtentId
all_extents files = flat_map (λ (f : FileSpec). extents_from f.number 1 f.extents) files

-- a full backup of a database whose checkpoint is its end
abbrev pub full_job : Database → BackupOptions → List ℕ → Guid → ℕ → Job
full_job db options path set time = record {
  set = set;
  kind = kind.Full;
  files = map (λ (f : FileSpec). f.number) db.files;
  copy_only = false;
  checksums = is_on options.checksum;
  name = set_name options.name;
  expiry = None;
  start = time;
  medium = path;
  first = least_begin db.transactions db.end;
  checkpoint = db.end;
  left = all_extents db.files;
}

-- the header of the set that a job finishes: of the database as it is then, whose recovery model is this, with its stamp just below last
abbrev pub set_header : RecoveryModel → Database → Job → ℕ → ℕ → Header
set_header model db job last time = record {
  version = 1;
  kind = job.kind;
  model = model;
  copy_only = job.copy_only;
  bulk = false;
  begins_chain = false;
  checksums = job.checksums;
  set = job.set;
  family = db.family;
  first = job.first;
  checkpoint = job.checkpoint;
  last = last;
  database_backup = base_lsn db.base;
  base = None;
  start = job.start;
  finish = time;
  expiry = job.expiry;
  database = db.name;
  name = job.name;
  path = db.path;
  groups = db.groups;
  files = map (λ file. record { spec = file; in_set = true }) db.files;
  log_name = db.log_name;
  log_path = db.log_path;
}

-- that of a backup that finishes at once: its stamp comes right behind its checkpoint
unfoldable pub full_header : World → Database → BackupOptions → List ℕ → Guid → ℕ → Header
full_header w db options path set time = set_header (model (log_of w.history db)) db (full_job db options path set time) (db.end + 2) time

-- Parts.

-- the checkpoint at its start; the stamp at its finish; the set is sealed at a position; its row of backupset; the points move
abbrev pub full_parts : ℕ → Database → List ℕ → Header → List Act
full_parts position db path header =
    logged db.name (alone (checkpointed header.start)) db.transactions
    ∷ logged db.name (alone (stamped header.finish header.set)) db.transactions
    ∷ set_sealed path header
    ∷ noted (row.Backup (record { position = position; header = header }))
    ∷ based db.name header
    ∷ []

-- before all that the set's GUID is drawn
abbrev pub full_backup : Option Reading → Database → List ℕ → Header → List Act
full_backup before db path header = draws_set before path ∷ full_parts (next_position before) db path header

abbrev pub backed_up : Option Reading → Database → List ℕ → Header → Outcome
backed_up before db path header = record { acts = full_backup before db path header; reply = SetMade (next_position before) header.first header.checkpoint header.last }

-- behind `:start`: the set's GUID is drawn; the checkpoint; the database has the job, and the session's next backup doesn't only start
abbrev pub started : Option Reading → Database → Job → Outcome
started before db job = record {
  acts = draws_set before job.medium ∷ logged db.name (alone (checkpointed job.start)) db.transactions ∷ job_set db.name (Some job) ∷ readied false ∷ [];
  reply = JobStarted;
}

-- it starts, or is done at once
abbrev pub does_backup : Bool → World → List ℕ → BackupOptions → Guid → ℕ → Database → Outcome
does_backup true w path options set time db = started (medium_at w.media path) db (full_job db options path set time)
does_backup false w path options set time db = backed_up (medium_at w.media path) db path (full_header w db options path set time)

abbrev pub DoesBackup : World → List ℕ → BackupOptions → ℕ → Database → Outcome → Type 0
DoesBackup w path options now db outcome = outcome ≡ does_backup (session_numbered w.sessions w.session).starts w path options (drawn w w.counter) (said_time w db now) db
