-- The world: one instance with its databases, media, standby files, tables of msdb and sessions.
use Rattle.std.specs.Prelude.{ℕ, Bool, false, true, not, min, List, [], ◌∷◌, filter, Option, Some, None, ◌==◌, if◌then◌else◌}
use Rattle.bk_ids.specs.declared.guid.Guid.{Guid}
use Rattle.bk_ids.specs.declared.path.Branch.{Branch}
use Rattle.bk_ids.specs.Name.{same_name}
use Rattle.bk_world.specs.declared.database.Base.{Base}
use Rattle.bk_world.specs.declared.database.FileSpec.{FileSpec}
use Rattle.bk_world.specs.declared.database.Status.{Status}
use Rattle.bk_world.specs.declared.database.Unit.{Unit as RestoreUnit}
use Rattle.bk_world.specs.declared.msdb.BackupRow.{BackupRow}
use Rattle.bk_world.specs.declared.msdb.RestoreRow.{RestoreRow}
use Rattle.bk_world.specs.declared.msdb.MarkRow.{MarkRow}
use Rattle.bk_world.specs.declared.transaction.Open.{Open}
use Rattle.bk_world.specs.Lines.{RecordLines, log_below}
use Rattle.bk_world.specs.Medium.{Reading}
use Rattle.bk_world.specs.Records.{Logged}
use Rattle.bk_machine.specs.declared.job.Job.{Job}

-- how many sessions there are, and how many writes a transaction has at most
abbrev pub most_sessions : ℕ
most_sessions = 32

abbrev pub most_writes : ℕ
most_writes = 1024

pub record Database : Type 0 where
  pub name : List ℕ
  pub family : Guid
  -- PRIMARY first
  pub groups : List (List ℕ)
  -- by number
  pub files : List FileSpec
  pub log_name : List ℕ
  pub log_path : List ℕ
  pub path : List Branch
  -- the number that its next log record gets
  pub end : ℕ
  -- where its next log backup begins
  pub archive : ℕ
  -- the least number that the live log still holds
  pub kept : ℕ
  -- its latest checkpoint
  pub checkpoint : ℕ
  -- whether its log can be backed up
  pub chain : Bool
  -- whether a log backup began the chain
  pub began : Bool
  -- what a differential would be based on
  pub base : Option Base
  pub status : Status
  pub units : List RestoreUnit
  pub job : Option Job
  -- in the order in which they began; their writes are the log's pending ones
  pub transactions : List Open

-- a session: its number from 1, its current database, and whether its next backup only starts
pub record Session : Type 0 where
  pub number : ℕ
  pub current : Option (List ℕ)
  pub starts : Bool

pub record World : Type 0 where
  -- the instance's number
  pub instance : ℕ
  -- the low number of the GUID that it draws next
  pub counter : ℕ
  -- what was said on each branch
  pub history : RecordLines
  pub databases : List Database
  -- media by path
  pub media : List (List ℕ × Reading)
  -- the paths of the standby files that are there
  pub standbys : List (List ℕ)
  pub backups : List BackupRow
  pub restores : List RestoreRow
  pub marks : List MarkRow
  -- the current session
  pub session : ℕ
  -- the sessions of which there is something to say
  pub sessions : List Session
  -- whether no run was cut off in it: the last one, if there was one, ended with its sessions closed
  pub closed : Bool

-- the world of an instance that has nothing yet
unfoldable pub empty_world : ℕ → World
empty_world instance = record {
  instance = instance;
  counter = 1;
  history = [];
  databases = [];
  media = [];
  standbys = [];
  backups = [];
  restores = [];
  marks = [];
  session = 1;
  sessions = [];
  closed = true;
}

-- a run begins with session 1 and no current database
unfoldable pub opened : World → World
opened w = record w { session = 1; sessions = []; closed = false }

-- a run has ended: no session is there any more (jobs were dropped and open transactions rolled back before)
unfoldable pub ended : World → World
ended w = record w { session = 1; sessions = []; closed = true }

-- a world behind a crash: no session is there, and so many GUIDs are drawn
unfoldable pub restarted : ℕ → World → World
restarted counter w = record w { counter = counter; session = 1; sessions = []; closed = false }

-- Logs.

-- the log of a database below a number: the records of its path
unfoldable pub log_to : RecordLines → Database → ℕ → List Logged
log_to history db n = log_below history db.path n

-- its whole log
unfoldable pub log_of : RecordLines → Database → List Logged
log_of history db = log_below history db.path db.end

-- the least begin of some transactions, at most this end
abbrev pub least_begin : List Open → ℕ → ℕ
least_begin [] end = end
least_begin (t ∷ transactions) end = min t.begin (least_begin transactions end)

-- the open transaction of a session
abbrev pub transaction_of : List Open → ℕ → Option Open
transaction_of [] session = None
transaction_of (t ∷ transactions) session = if t.session == session then Some t else transaction_of transactions session

-- some transactions without the one with this first record
abbrev pub without_begin : List Open → ℕ → List Open
without_begin transactions begin = filter (λ (t : Open). not (t.begin == begin)) transactions

-- an open transaction, and the database in which it is open
pub record Held : Type 0 where
  pub database : Database
  pub transaction : Open

-- one of this database, if there is one, or else this
abbrev pub held_by : Database → Option Open → Option Held → Option Held
held_by database None rest = rest
held_by database (Some t) rest = Some (record { database = database; transaction = t })

-- the open transaction of a session, in whichever database it is
abbrev pub held_in : List Database → ℕ → Option Held
held_in [] session = None
held_in (database ∷ databases) session = held_by database (transaction_of database.transactions session) (held_in databases session)

-- the open transaction of the current session
abbrev pub own_held : World → Option Held
own_held w = held_in w.databases w.session

-- Databases by name.

-- the database of this name
abbrev pub database_named : List Database → List ℕ → Option Database
database_named [] name = None
database_named (database ∷ databases) name = if same_name database.name name then Some database else database_named databases name

-- the databases with the one of this name changed
abbrev pub with_database : List Database → List ℕ → (Database → Database) → List Database
with_database [] name change = []
with_database (database ∷ databases) name change = if same_name database.name name then change database ∷ databases else database ∷ with_database databases name change

-- the databases without the one of this name
abbrev pub without_database : List Database → List ℕ → List Database
without_database [] name = []
without_database (database ∷ databases) name = if same_name database.name name then databases else database ∷ without_database databases name

-- the databases with this one in the place of that with its name, or else behind the others
abbrev pub with_new_database : List Database → Database → List Database
with_new_database [] new = new ∷ []
with_new_database (database ∷ databases) new = if same_name database.name new.name then new ∷ databases else database ∷ with_new_database databases new

-- Sessions.

-- what there is to say of a session
abbrev pub session_numbered : List Session → ℕ → Session
session_numbered [] number = record { number = number; current = None; starts = false }
session_numbered (session ∷ sessions) number = if session.number == number then session else session_numbered sessions number

-- the sessions with this one in the place of that with its number
abbrev pub with_session : List Session → Session → List Session
with_session [] new = new ∷ []
with_session (session ∷ sessions) new = if session.number == new.number then new ∷ sessions else session ∷ with_session sessions new

-- the name of the current session's current database
abbrev pub current_name : World → Option (List ℕ)
current_name w = (session_numbered w.sessions w.session).current

-- the database of a name, if there is a name
abbrev pub database_of : List Database → Option (List ℕ) → Option Database
database_of databases None = None
database_of databases (Some name) = database_named databases name

-- the current session's current database
abbrev pub current_database : World → Option Database
current_database w = database_of w.databases (current_name w)
