-- Which worlds the databases that are kept stand for, and those that are seen of them.
use Rattle.std.specs.Prelude.{◌≡◌, true, List, map}
use Rattle.std.specs.List.{AllByRecursion}
use Rattle.bk_machine.specs.World.{World, Database, Session}
use Rattle.bk_machine.specs.statements.Restore.{is_online}
use Rattle.bk_shown.specs.Shown.{Shows}
use Rattle.bk_world.specs.Lines.{RecordLines, log_below}
use Rattle.bk_kept.specs.declared.kept.Database.{Database as KeptDatabase}
use Rattle.bk_kept.specs.declared.kept.Kept.{Kept}
use Rattle.bk_kept.specs.declared.kept.Session.{Session as KeptSession}

-- the database of the world that one in memory is
abbrev pub database_of : KeptDatabase → Database
database_of d = record {
  name = d.name;
  family = d.family;
  groups = d.groups;
  files = d.files;
  log_name = d.log_name;
  log_path = d.log_path;
  path = d.path;
  end = d.shown.«end»;
  archive = d.archive;
  kept = d.kept;
  checkpoint = d.checkpoint;
  chain = d.chain;
  began = d.began;
  base = d.base;
  status = d.status;
  units = d.units;
  job = d.job;
  transactions = d.transactions;
}

-- the session of the world that one in memory is
abbrev pub session_of : KeptSession → Session
session_of s = record { number = s.number; current = s.current; starts = s.starts }

-- what is kept of a database's log is what the log shows
abbrev pub ShowsLog : RecordLines → KeptDatabase → Type 0
ShowsLog history d = Shows d.files (log_below history d.path d.shown.«end») d.shown

-- of a database it is seen what its log shows, where it is online
abbrev pub IsSeenOf : RecordLines → KeptDatabase → Type 0
IsSeenOf history d = is_online d.status ≡ true → ShowsLog history d

-- databases in memory are those of this world, with what their logs show
pub record KeepsDatabases (w : World) (databases : List KeptDatabase) : Type 0 where
  pub same : w.databases ≡ map database_of databases
  pub kept : AllByRecursion (ShowsLog w.history) databases

-- what is kept in memory stands for this world, but for its media
pub record Keeps (w : World) (k : Kept) : Type 0 where
  pub number : w.instance ≡ k.number
  pub counter : w.counter ≡ k.counter
  pub session : w.session ≡ k.session
  pub sessions : w.sessions ≡ map session_of k.sessions.items
  pub databases : w.databases ≡ map database_of k.databases.items
  pub kept : AllByRecursion (ShowsLog w.history) k.databases.items

-- what is seen of what is kept stands for this world, but for its media, and for the logs of databases that aren't online
pub record Sees (w : World) (k : Kept) : Type 0 where
  pub number : w.instance ≡ k.number
  pub counter : w.counter ≡ k.counter
  pub session : w.session ≡ k.session
  pub sessions : w.sessions ≡ map session_of k.sessions.items
  pub databases : w.databases ≡ map database_of k.databases.items
  pub seen : AllByRecursion (IsSeenOf w.history) k.databases.items
