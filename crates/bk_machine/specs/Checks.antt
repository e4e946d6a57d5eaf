-- Checks, one after the other: the first rule that is broken ends them, and what they find is handed on.
use Rattle.std.specs.Prelude.{ℕ, min, is_some, Bool, true, false, ◌||◌, ◌&&◌, nat_le, nat_lt, List, [], ◌∷◌, length, map, flat_map, codes, not, filter, Option, Some, None, Result, Ok, Err, if◌then◌else◌}
use Rattle.std.specs.List.{list_any}
use Rattle.std.specs.Str.{bytes_eq}
use Rattle.bk_ids.specs.Name.{same_name}
use Rattle.bk_world.specs.declared.database.State.{State}
use Rattle.bk_world.specs.declared.database.State.TheVariants as state
use Rattle.bk_world.specs.declared.database.Status.{Status}
use Rattle.bk_world.specs.declared.database.Status.TheVariants as status
use Rattle.bk_world.specs.declared.database.TableSpec.{TableSpec}
use Rattle.bk_world.specs.declared.database.Unit.{Unit as RestoreUnit}
use Rattle.bk_world.specs.declared.rule.Limit.TheVariants.{Lsn}
use Rattle.bk_world.specs.declared.rule.Rule.{Rule}
use Rattle.bk_world.specs.declared.rule.Rule.TheVariants.{NotOnline, InTransaction, JobRunning, DatabaseInUse, FileInUse, LimitReached}
use Rattle.bk_world.specs.declared.rule.StatusWord.{StatusWord}
use Rattle.bk_world.specs.declared.rule.StatusWord.TheVariants as word
use Rattle.bk_world.specs.declared.transaction.Open.{Open}
use Rattle.bk_machine.specs.World.{World, Database, own_held}

-- what checks come to: what they found, or the first rule that is broken
abbrev pub Checked : Type 0 → Type 0
Checked A = Result A Rule

infixl 10 ◌>>=◌
-- a check, and then the next, which may look at what it found
abbrev pub ◌>>=◌ : {A B : Type 0} → Checked A → (A → Checked B) → Checked B
(Err rule) >>= next = Err rule
(Ok found) >>= next = next found

-- refused by this rule where the test holds
abbrev pub refuse_if : Bool → Rule → Checked (Unit {0})
refuse_if test rule = if test then Err rule else Ok tt

-- refused by this rule where nothing is found
abbrev pub or_refuse : {A : Type 0} → Option A → Rule → Checked A
or_refuse None rule = Err rule
or_refuse (Some found) rule = Ok found

-- Transactions.

-- refused inside a transaction of the current session
abbrev pub outside : World → Checked (Unit {0})
outside w = refuse_if (is_some (own_held w)) InTransaction

-- the lesser of a number and another one, if there is one
abbrev pub lesser : ℕ → Option ℕ → ℕ
lesser n None = n
lesser n (Some m) = min n m

-- the least session of some transactions
abbrev pub least_session : List Open → Option ℕ
least_session [] = None
least_session (t ∷ transactions) = Some (lesser t.session (least_session transactions))

abbrev pub unused_by : Option ℕ → Checked (Unit {0})
unused_by None = Ok tt
unused_by (Some session) = Err (DatabaseInUse session)

-- refused where a session has an open transaction in the database
abbrev pub unused : Database → Checked (Unit {0})
unused db = unused_by (least_session db.transactions)

-- refused while a backup of the database runs
abbrev pub without_job : Database → Checked (Unit {0})
without_job db = refuse_if (is_some db.job) JobRunning

-- Numbers.

-- The numbers from here on, 2^62 - 2^32, are kept for what is never refused: the end of a transaction, of a backup, of a run.
abbrev pub kept_numbers : ℕ
kept_numbers = 4611686014132420608

-- No end of a log lies beyond this number, 2^62.
abbrev pub last_number : ℕ
last_number = 4611686018427387904

-- log records or GUIDs are used up, from this number on
abbrev pub used_up : ℕ → Bool
used_up n = nat_le kept_numbers n

-- refused where numbers are used up
abbrev pub limit : Bool → Checked (Unit {0})
limit test = refuse_if test (LimitReached Lsn)

-- Names. SQL Server: "System Databases"; CREATE DATABASE.

-- the names of the databases that the server keeps for itself
abbrev pub is_system : List ℕ → Bool
is_system name = same_name name (codes "master") || same_name name (codes "msdb") || same_name name (codes "tempdb")

-- a name has 1 to 64 bytes (a script has no others: their items are TooLong there)
abbrev pub is_name : List ℕ → Bool
is_name name = nat_lt 0 (length name) && nat_le (length name) 64

-- a path of a medium has 1 to 100 bytes (a script has no others, either)
abbrev pub is_path : List ℕ → Bool
is_path path = nat_lt 0 (length path) && nat_le (length path) 100

-- how many branches a recovery path has at most
abbrev pub most_branches : ℕ
most_branches = 64

-- how many databases an instance has at most
abbrev pub most_databases : ℕ
most_databases = 16

-- the table of this name
abbrev pub table_named : List TableSpec → List ℕ → Option TableSpec
table_named [] name = None
table_named (table ∷ tables) name = if same_name table.name name then Some table else table_named tables name

-- Status. SQL Server: "Database States".

abbrev pub is_restoring : State → Bool
is_restoring (state.Restoring base redo) = true
is_restoring _ = false

-- the word of a status, if it isn't online: one that is down waits for more where some unit was restored
abbrev pub word_of : Status → List RestoreUnit → Option StatusWord
word_of status.Online units = None
word_of (status.Standby file) units = Some word.Standby
word_of status.Down units = Some (if list_any (λ u. is_restoring u.state) units then word.Restoring else word.Interrupted)

abbrev pub online_by : Option StatusWord → Database → Checked Database
online_by None db = Ok db
online_by (Some word) db = Err (NotOnline word)

-- the database, refused where it isn't online
abbrev pub online : Database → Checked Database
online db = online_by (word_of db.status db.units) db

-- Paths of data files.

-- the paths of the data files of some databases
abbrev pub paths_of : List Database → List (List ℕ)
paths_of databases = flat_map (λ (db : Database). map (λ f. f.path) db.files) databases

-- the databases of other names
abbrev pub others : List Database → List ℕ → List Database
others databases name = filter (λ (db : Database). not (same_name db.name name)) databases

abbrev pub has_path : List (List ℕ) → List ℕ → Bool
has_path paths path = list_any (λ other. bytes_eq other path) paths

-- refused at the first path that is in use
abbrev pub free_paths : List (List ℕ) → List (List ℕ) → Checked (Unit {0})
free_paths used [] = Ok tt
free_paths used (path ∷ paths) = if has_path used path then Err (FileInUse path) else free_paths used paths

-- refused at the first path that stands before, too
abbrev pub different_paths : List (List ℕ) → List (List ℕ) → Checked (Unit {0})
different_paths before [] = Ok tt
different_paths before (path ∷ paths) = if has_path before path then Err (FileInUse path) else different_paths (path ∷ before) paths
