-- The databases of a world as an instance hosts them: of each its description and points, which its store's note keeps, the records of its log, and, in memory alone, the backup that runs and what is open in it.
-- SQL Server: "Database Files and Filegroups"; "Transaction Log Architecture and Management Guide", log truncation.
use Rattle.std.specs.Prelude.{◌≡◌, ℕ, ◌==◌, ◌&&◌, ◌||◌, Bool, true, false, not, List, [], ◌∷◌, map, Option, None, Some, if◌then◌else◌}
use Rattle.std.specs.List.{AllByRecursion, list_any}
use Rattle.bk_ids.specs.Name.{same_name}
use Rattle.bk_known.specs.declared.known.DatabaseSpec.{DatabaseSpec}
use Rattle.bk_machine.specs.Acts.{Act, Recovery, common_base, creation_said, file_units, forked, is_simple, kept_after, online_files, online_units, recovered, restored, units_in}
use Rattle.bk_machine.specs.declared.job.Job.{Job}
use Rattle.bk_machine.specs.World.{World, Database, log_of}
use Rattle.bk_machine.specs.statements.Restore.{base_of, is_online}
use Rattle.bk_points.specs.declared.points.Points.{Points}
use Rattle.bk_world.specs.declared.database.Creation.{Creation}
use Rattle.bk_world.specs.declared.database.FileSpec.{FileSpec}
use Rattle.bk_world.specs.declared.database.State.TheVariants as state
use Rattle.bk_world.specs.declared.database.Status.TheVariants.{Down, Online}
use Rattle.bk_world.specs.declared.database.Storage.{Storage}
use Rattle.bk_world.specs.declared.database.Unit.{Unit as RestoreUnit}
use Rattle.bk_world.specs.declared.header.Header.{Header}
use Rattle.bk_world.specs.declared.header.HeaderFile.{HeaderFile}
use Rattle.bk_world.specs.declared.transaction.Open.{Open}
use Rattle.bk_world.specs.Cut.{end_behind}
use Rattle.bk_world.specs.Lines.{RecordLines, log_below}
use Rattle.bk_world.specs.Records.{Deed, Logged, Said, checkpointed, more, numbered}
use Rattle.bk_world.specs.Telling.{model}

-- ---- one database

-- A database as its store and the instance's memory hold it. The files of one that is being restored hold no records: then these are what the machine knows of its path, up to where it is restored.
pub record Hosted : Type 0 where
  pub spec : DatabaseSpec
  pub points : Points
  pub records : List Logged
  pub job : Option Job
  pub transactions : List Open

-- a deed is a checkpoint's
abbrev pub is_checkpoint : Deed → Bool
is_checkpoint (checkpointed time) = true
is_checkpoint _ = false

-- the record of a number is
abbrev pub has_checkpoint : ℕ → List Logged → Bool
has_checkpoint n rs = list_any (λ (r : Logged). r.lsn == n && is_checkpoint r.deed) rs

-- what is said is none
abbrev pub SaysNoCheckpoint : List Said → Type 0
SaysNoCheckpoint said = AllByRecursion (λ (s : Said). is_checkpoint s.deed ≡ false) said

-- the latest checkpoint: the one that was noted as the next, once its record is in the log
abbrev pub checkpoint_of : Points → List Logged → ℕ
checkpoint_of points rs = if has_checkpoint points.next_checkpoint rs then points.next_checkpoint else points.checkpoint

-- the least number that the live log holds: the one that was noted with it
abbrev pub kept_of : Points → List Logged → ℕ
kept_of points rs = if has_checkpoint points.next_checkpoint rs then points.next_kept else points.kept

-- the database of a world that it is: it goes on behind its log
abbrev pub database_of : Hosted → Database
database_of h = record {
  name = h.spec.name;
  family = h.spec.family;
  groups = h.spec.storage.groups;
  files = h.spec.storage.files;
  log_name = h.spec.storage.log_name;
  log_path = h.spec.storage.log_path;
  path = h.spec.path;
  end = end_behind h.records;
  archive = h.points.archive;
  kept = kept_of h.points h.records;
  checkpoint = checkpoint_of h.points h.records;
  chain = h.points.chain;
  began = h.points.began;
  base = h.points.base;
  status = h.points.status;
  units = h.points.units;
  job = h.job;
  transactions = h.transactions;
}

-- its records are the log of its path
pub record IsHosted (history : RecordLines) (h : Hosted) : Type 0 where
  pub log : log_of history (database_of h) ≡ h.records

-- it can be used: it isn't being restored
abbrev pub is_up : Hosted → Bool
is_up h = is_online h.points.status

-- the databases of a world are these
pub record Hosts (w : World) (hosted : List Hosted) : Type 0 where
  pub same : w.databases ≡ map database_of hosted
  pub each : AllByRecursion (IsHosted w.history) hosted

-- the test for a name
abbrev pub names : List ℕ → Hosted → Bool
names name h = same_name h.spec.name name

-- ---- what acts make of it

-- it says this at its end, and then these transactions are open
abbrev pub saying : List Said → List Open → Hosted → Hosted
saying said transactions h = record h { records = more h.records (end_behind h.records) said; transactions = transactions }

-- this backup of it runs, or none
abbrev pub running : Option Job → Hosted → Hosted
running job h = record h { job = job }

-- what the live log holds behind a checkpoint at its end
abbrev pub kept_next : Hosted → ℕ
kept_next h = kept_after (database_of h) (model h.records) (end_behind h.records)

-- a checkpoint is noted as the next one: it is to come at the end
abbrev pub awaiting : Points → List Logged → ℕ → Points
awaiting points rs kept = record points { next_checkpoint = end_behind rs; next_kept = kept; kept = kept_of points rs; checkpoint = checkpoint_of points rs }

abbrev pub noting : Hosted → Hosted
noting h = record h { points = awaiting h.points h.records (kept_next h) }

-- its points without a next checkpoint: those that were noted for one are taken in where it is in the log
abbrev pub folded : Points → List Logged → Points
folded points rs = record points { next_checkpoint = 0; next_kept = 0; kept = kept_of points rs; checkpoint = checkpoint_of points rs }

abbrev pub folding : Hosted → Hosted
folding h = record h { points = folded h.points h.records }

-- it is based on a set: where no log backup could come before, the log chain begins with it
abbrev pub based_points : Header → Points → Points
based_points header points = record points {
  base = Some (record { set = header.set; lsn = header.checkpoint });
  chain = points.chain || not (is_simple header.model);
  archive = if not points.chain && not (is_simple header.model) then header.first else points.archive;
  began = points.began && (points.chain || is_simple header.model);
}

abbrev pub basing : Header → Hosted → Hosted
basing header h = record h { points = based_points header h.points }

-- the points of a database as it is made
abbrev pub first_points : List FileSpec → Points
first_points files = record {
  next_checkpoint = 0;
  next_kept = 0;
  archive = 1;
  kept = 1;
  checkpoint = 1;
  chain = false;
  began = false;
  base = None;
  status = Online;
  units = online_files files;
}

-- a database as it is made, with its first record
abbrev pub created_spec : Creation → DatabaseSpec
created_spec c = record { name = c.name; family = c.family; path = (record { guid = c.branch; start = 1 }) ∷ []; storage = c.storage }

abbrev pub creating : Creation → Hosted
creating c = record { spec = created_spec c; points = first_points c.storage.files; records = numbered 1 (creation_said c); job = None; transactions = [] }

-- ---- a restore

-- the units of a set's database, restored from it
abbrev pub restored_units : Header → List RestoreUnit
restored_units header = units_in (state.Restoring (base_of header) header.last) (file_units state.Bad header.files)

-- its filegroups, files and log
abbrev pub set_storage : Header → Storage
set_storage header = record { groups = header.groups; files = map (λ (file : HeaderFile). file.spec) header.files; log_name = header.log_name; log_path = header.log_path }

-- the log of a set
abbrev pub set_log : World → Header → List Logged
set_log w header = log_below w.history header.path header.last

-- the points of a database that a set takes the place of: its files are Bad
abbrev pub parked_points : Header → Points
parked_points header = record {
  next_checkpoint = 0;
  next_kept = 0;
  archive = header.last;
  kept = header.last;
  checkpoint = header.last;
  chain = false;
  began = false;
  base = None;
  status = Down;
  units = file_units state.Bad header.files;
}

-- the database behind the first part of a whole restore: it has the set's log, up to the set's end
abbrev pub parking : List Logged → List ℕ → Header → Hosted
parking rs name header = record {
  spec = record { name = name; family = header.family; path = header.path; storage = set_storage header };
  points = parked_points header;
  records = rs;
  job = None;
  transactions = [];
}

-- what comes behind that part: its files are restored, and it is recovered
abbrev pub bringing_up : List ℕ → Header → Recovery → List Act
bringing_up name header r = restored name (base_of header) header.last ∷ recovered name r ∷ []

-- the points of a database that went online at the end of a set whose log is this
abbrev pub online_points : Header → List Logged → Points
online_points header rs = record {
  next_checkpoint = 0;
  next_kept = 0;
  archive = header.last;
  kept = header.last;
  checkpoint = header.last;
  chain = not (is_simple (model rs));
  began = true;
  base = common_base (restored_units header);
  status = Online;
  units = online_units (restored_units header);
}

-- the database behind a whole restore: it has the set's log, and what the recovery says behind that
abbrev pub restoring : List Logged → List ℕ → Header → Recovery → Hosted
restoring rs name header r = record {
  spec = record { name = name; family = header.family; path = forked header.path r.at r.branch; storage = set_storage header };
  points = online_points header rs;
  records = more rs r.at r.said;
  job = None;
  transactions = [];
}
