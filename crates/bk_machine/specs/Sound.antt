-- What every reachable world keeps.
use Rattle.std.specs.Prelude.{◌≡◌, ◌≢◌, ◌⊎◌, ◌<◌, ◌≤◌, ℕ, ◌+◌, ◌==◌, Bool, true, false, List, [], ◌∷◌, ◌++◌, length, Option, Some, None, Contains}
use Rattle.std.specs.List.{AllByRecursion, list_any, find}
use Rattle.bk_ids.specs.declared.guid.Guid.{Guid}
use Rattle.bk_ids.specs.declared.path.Branch.{Branch}
use Rattle.bk_ids.specs.Name.{lowered}
use Rattle.bk_ids.specs.Path.{branch_at, last_branch, IsPath}
use Rattle.bk_world.specs.declared.database.FileSpec.{FileSpec}
use Rattle.bk_world.specs.declared.database.Storage.{Storage}
use Rattle.bk_world.specs.declared.database.Status.TheVariants.{Online}
use Rattle.bk_world.specs.declared.database.TableSpec.{TableSpec}
use Rattle.bk_world.specs.declared.header.Header.{Header}
use Rattle.bk_world.specs.declared.header.HeaderFile.{HeaderFile}
use Rattle.bk_world.specs.Lines.{RecordLine, RecordLines, has_record_line, line_on, log_below, MayGoOn}
use Rattle.bk_world.specs.Medium.{Slot, Reading, readable, damaged, no_set, not_media, medium, medium_at}
use Rattle.bk_world.specs.Pending.{Pending, of_transaction, pending}
use Rattle.bk_world.specs.Places.{IsCellOf}
use Rattle.bk_world.specs.Records.{Deed, Logged, Counts, written}
use Rattle.bk_world.specs.SoundLogs.{IsSound as IsSoundLog, NoLoadPends, undoes}
use Rattle.bk_world.specs.Telling.{telling, tables, model, time}
use Rattle.bk_world.specs.declared.transaction.Open.{Open}
use Rattle.bk_machine.specs.Checks.{last_number}
use Rattle.bk_machine.specs.Fits.{FitsSet}
use Rattle.bk_machine.specs.declared.job.Job.{Job}
use Rattle.bk_machine.specs.World.{World, Database, log_of, most_sessions, most_writes}

-- The history.

-- each branch has one line
abbrev pub IsOnce : RecordLines → Type 0
IsOnce [] = Unit {0}
IsOnce (line ∷ lines) = (has_record_line lines line.branch ≡ false) × IsOnce lines

-- records rise by their numbers, from above a number on
abbrev pub RiseFrom : ℕ → List Logged → Type 0
RiseFrom n [] = Unit {0}
RiseFrom n (r ∷ rs) = (n < r.lsn) × RiseFrom r.lsn rs

-- a GUID isn't one that this instance will draw
abbrev pub IsNotToCome : World → Guid → Type 0
IsNotToCome w guid = guid.high ≡ w.instance → guid.low < w.counter

-- a line's branch is drawn, and its records rise
pub record IsSoundLine (w : World) (line : RecordLine) : Type 0 where
  pub drawn : IsNotToCome w line.branch
  pub rises : RiseFrom 0 line.records

-- one of some records at a number or above tells an entry
abbrev pub IsReached : List Logged → ℕ → Type 0
IsReached [] n = ⊥
IsReached (r ∷ rs) n = ((n ≤ r.lsn) × (telling r.deed ≢ None)) ⊎ IsReached rs n

-- a branch has an entry at a number or above: no crash loses what lies there
abbrev pub IsPassed : RecordLines → Option Guid → ℕ → Type 0
IsPassed lines None n = Unit {0}
IsPassed lines (Some branch) n = IsReached (line_on lines branch).records n

-- what a path shows below n is held: each of these numbers is passed on its branch
abbrev pub IsHeld : RecordLines → List Branch → ℕ → Type 0
IsHeld lines path n = (k : ℕ) → 0 < k → k < n → IsPassed lines (branch_at path k) k

-- Logs.

-- a row is written in a cell of its table's group
abbrev pub IsPlaced : List FileSpec → List TableSpec → Deed → Type 0
IsPlaced files tables (written at before c) = (t : TableSpec) × (find (λ (made : TableSpec). made.number == c.table) tables ≡ Some t) × IsCellOf files t.group at
IsPlaced files tables _ = Unit {0}

-- and so is each row of some records behind others, by the tables that were made before it
abbrev pub ArePlaced : List FileSpec → List Logged → List Logged → Type 0
ArePlaced files before [] = Unit {0}
ArePlaced files before (r ∷ rs) = IsPlaced files (tables before) r.deed × ArePlaced files (before ++ r ∷ []) rs

-- tables are numbered in the order in which they were made
abbrev pub AreNumbered : ℕ → List TableSpec → Type 0
AreNumbered n [] = Unit {0}
AreNumbered n (t ∷ tables) = (t.number ≡ n) × AreNumbered (n + 1) tables

-- A log up to an end: it has each number once, each of its records may come behind those before it, and rows lie in cells of these files.
pub record IsLog (files : List FileSpec) (rs : List Logged) (end : ℕ) : Type 0 where
  pub counts : Counts 1 rs end
  pub sound : IsSoundLog rs
  pub tables : AreNumbered 1 (tables rs)
  pub places : ArePlaced files [] rs

-- Databases.

-- each transaction is another session's, and began at another number
pub record Apart (a b : Open) : Type 0 where
  pub session : a.session ≢ b.session
  pub begin : a.begin ≢ b.begin

abbrev pub AreApart : List Open → Type 0
AreApart [] = Unit {0}
AreApart (t ∷ transactions) = AllByRecursion (Apart t) transactions × AreApart transactions

-- a transaction with this first record is open
abbrev pub has_begin : List Open → ℕ → Bool
has_begin transactions begin = list_any (λ (t : Open). t.begin == begin) transactions

-- a transaction has as many pending writes as it may have, or fewer
abbrev pub HasFew : List Logged → Open → Type 0
HasFew rs t = length (of_transaction t.begin (pending rs)) ≤ most_writes

-- and none of its writes is undone
abbrev pub KeepsAll : List Logged → Open → Type 0
KeepsAll rs t = AllByRecursion (λ (r : Logged). undoes t.begin r ≡ false) rs

-- What is pending in a log that ends here is of these open transactions, of which each has few writes, none of them undone, and no minimal load is pending.
-- Numbers are left, one to undo each pending write and one to end each transaction.
pub record AreOpen (rs : List Logged) (end : ℕ) (transactions : List Open) : Type 0 where
  pub numbers : end + (length (pending rs) + length transactions) ≤ last_number
  pub pending : AllByRecursion (λ (w : Pending). has_begin transactions w.begin ≡ true) (pending rs)
  pub loads : NoLoadPends rs
  pub apart : AreApart transactions
  pub begins : AllByRecursion (λ (t : Open). (0 < t.begin) × (t.begin < end)) transactions
  pub few : AllByRecursion (HasFew rs) transactions
  pub seats : AllByRecursion (λ (t : Open). t.session ≤ most_sessions) transactions
  pub kept : AllByRecursion (KeepsAll rs) transactions

-- nothing is open, and no job runs
pub record IsIdle (db : Database) : Type 0 where
  pub job : db.job ≡ None
  pub transactions : db.transactions ≡ []

-- this holds of a job, if there is one
abbrev pub JobIs : (Job → Type 0) → Option Job → Type 0
JobIs P None = Unit {0}
JobIs P (Some job) = P job

-- beside what is open in a log that ends here, numbers are left for a stamp, and for the recovery of the set behind it
abbrev pub LeavesStamp : List Logged → ℕ → List Open → Type 0
LeavesStamp rs end transactions = end + (length (pending rs) + (length transactions + 2)) ≤ last_number

-- A job: there are numbers for its end. Its set begins at its checkpoint, which was said, or below, and not above what is open.
pub record IsFitJob (rs : List Logged) (end : ℕ) (transactions : List Open) (job : Job) : Type 0 where
  pub numbers : LeavesStamp rs end transactions
  pub some : 1 ≤ job.first
  pub first : job.first ≤ job.checkpoint
  pub said : job.checkpoint < end
  pub begins : AllByRecursion (λ (t : Open). job.first ≤ t.begin) transactions

-- the live log keeps what is open from its first record on, and what a job needs
pub record IsKept (kept : ℕ) (transactions : List Open) (runs : Option Job) : Type 0 where
  pub begins : AllByRecursion (λ (t : Open). kept ≤ t.begin) transactions
  pub job : JobIs (λ (j : Job). kept ≤ j.first) runs

-- a database that is online has open transactions and perhaps a job, and another one is idle
pub record OpenBy (lines : RecordLines) (db : Database) : Type 0 where
  pub online : db.status ≡ Online → AreOpen (log_of lines db) db.end db.transactions
  pub offline : db.status ≢ Online → IsIdle db
  pub job : JobIs (IsFitJob (log_of lines db) db.end db.transactions) db.job
  pub keeps : IsKept db.kept db.transactions db.job

-- A database that is online goes on. A record that is of no transaction, so that no crash loses it, lies on its last branch; and one lies at
-- its kept number or behind it.
pub record IsOnline (lines : RecordLines) (db : Database) : Type 0 where
  pub goes_on : MayGoOn lines db.path db.end
  pub anchor : (r : Logged) × Contains (log_of lines db) r × (r.begin ≡ 0) × AllByRecursion (λ (b : Branch). b.start ≤ r.lsn) db.path
  pub holds : (r : Logged) × Contains (log_of lines db) r × (r.begin ≡ 0) × (db.kept ≤ r.lsn)

-- what a database shows is held, but on the last branch of one that is online, which goes on
abbrev pub IsHeldOf : RecordLines → Database → Type 0
IsHeldOf lines db = (k : ℕ) → 0 < k → k < db.end → ((db.status ≡ Online) × (branch_at db.path k ≡ last_branch db.path)) ⊎ IsPassed lines (branch_at db.path k) k

-- the filegroups and files of a database
abbrev pub storage_of : Database → Storage
storage_of db = record { groups = db.groups; files = db.files; log_name = db.log_name; log_path = db.log_path }

-- a database, but for what is open in it
pub record IsWholeDatabase (w : World) (db : Database) : Type 0 where
  pub log : IsLog db.files (log_of w.history db) db.end
  pub path : IsPath db.path
  pub starts : AllByRecursion (λ (b : Branch). b.start < db.end) db.path
  pub kept : db.kept ≤ db.end
  pub drawn : AllByRecursion (λ (b : Branch). IsNotToCome w b.guid) db.path
  pub family : IsNotToCome w db.family
  pub job : JobIs (λ (job : Job). IsNotToCome w job.set) db.job
  pub held : IsHeldOf w.history db
  pub online : db.status ≡ Online → IsOnline w.history db
  pub fits : FitsSet (storage_of db) db.path (log_of w.history db)

-- the backup of a database, if one runs, has another set
abbrev pub IsOther : Guid → Database → Type 0
IsOther set db = (job : Job) → db.job ≡ Some job → set ≢ job.set

-- two databases have different names, where both are online they write on different branches, and where backups of both run these have different sets
pub record Differ (a b : Database) : Type 0 where
  pub names : lowered a.name ≢ lowered b.name
  pub branches : a.status ≡ Online → b.status ≡ Online → last_branch a.path ≢ last_branch b.path
  pub sets : (job : Job) → a.job ≡ Some job → IsOther job.set b

-- each of some databases differs from all behind it
abbrev pub AreDifferent : List Database → Type 0
AreDifferent [] = Unit {0}
AreDifferent (db ∷ databases) = AllByRecursion (Differ db) databases × AreDifferent databases

-- Media.

-- the files of a set's database
abbrev pub files_of_set : Header → List FileSpec
files_of_set header = specs_of header.files
  where
    specs_of : List HeaderFile → List FileSpec
    specs_of [] = []
    specs_of (file ∷ files) = file.spec ∷ specs_of files

-- the filegroups and files of a set's database
abbrev pub storage_in : Header → Storage
storage_in header = record { groups = header.groups; files = files_of_set header; log_name = header.log_name; log_path = header.log_path }

-- A set: the log of its path is whole below its end, and held. Numbers are left for its recovery: to undo each pending write, and to name the branch.
pub record IsSoundSet (w : World) (header : Header) : Type 0 where
  pub log : IsLog (files_of_set header) (log_below w.history header.path header.last) header.last
  pub path : IsPath header.path
  pub starts : AllByRecursion (λ (b : Branch). b.start < header.last) header.path
  pub drawn : AllByRecursion (λ (b : Branch). IsNotToCome w b.guid) header.path
  pub set : IsNotToCome w header.set
  pub family : IsNotToCome w header.family
  pub held : IsHeld w.history header.path header.last
  pub model : header.model ≡ model (log_below w.history header.path header.last)
  pub finish : header.finish ≡ time (log_below w.history header.path header.last)
  pub numbers : header.last + (length (pending (log_below w.history header.path header.last)) + 1) ≤ last_number
  pub fits : FitsSet (storage_in header) header.path (log_below w.history header.path header.last)

abbrev pub IsSoundSlot : World → Slot → Type 0
IsSoundSlot w (readable header) = IsSoundSet w header
IsSoundSlot w (damaged stored found) = Unit {0}
IsSoundSlot w no_set = Unit {0}

abbrev pub IsSoundReading : World → Reading → Type 0
IsSoundReading w not_media = Unit {0}
IsSoundReading w (medium slots) = AllByRecursion (IsSoundSlot w) slots

-- there is a set with this header on the medium at a path
abbrev pub SetIn : World → List ℕ → Header → Type 0
SetIn w path header = (slots : List Slot) × (medium_at w.media path ≡ Some (medium slots)) × Contains slots (readable header)

-- Worlds.

-- a world, but for what is open in it
pub record IsWhole (w : World) : Type 0 where
  pub once : IsOnce w.history
  pub lines : AllByRecursion (IsSoundLine w) w.history
  pub databases : AllByRecursion (IsWholeDatabase w) w.databases
  pub different : AreDifferent w.databases
  pub media : AllByRecursion (λ (m : List ℕ × Reading). IsSoundReading w m.1) w.media

pub record IsSound (w : World) : Type 0 where
  pub whole : IsWhole w
  pub opens : AllByRecursion (OpenBy w.history) w.databases
  pub seat : w.session ≤ most_sessions

-- nothing is open in any database, as it is between runs
abbrev pub AreIdle : World → Type 0
AreIdle w = AllByRecursion IsIdle w.databases
