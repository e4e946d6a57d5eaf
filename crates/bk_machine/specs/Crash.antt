-- What a crash leaves: the acts of a front of a run, without what was open.
-- SQL Server: "Restore and Recovery Overview", the undo phase.
use Rattle.std.specs.Prelude.{◌≡◌, ◌≢◌, ◌<◌, ◌≤◌, ℕ, zero, suc, ◌+◌, ◌-◌, max, false, List, [], ◌∷◌, ◌++◌, Option, None, Some, length, take, drop, map}
use Rattle.std.specs.List.{AllByRecursion, AllZip}
use Rattle.bk_ids.specs.declared.guid.Guid.{Guid}
use Rattle.bk_ids.specs.Path.{last_branch}
use Rattle.bk_world.specs.declared.database.Status.{Status}
use Rattle.bk_world.specs.declared.database.Status.TheVariants.{Online, Standby, Down}
use Rattle.bk_world.specs.Cut.{IsCutLog, end_behind}
use Rattle.bk_world.specs.Lines.{RecordLine, line_on, MayGoOn}
use Rattle.bk_world.specs.Records.{Deed, Logged, Said, undone}
use Rattle.bk_world.specs.Telling.{telling}
use Rattle.bk_machine.specs.Acts.{Act, logged, done_all}
use Rattle.bk_machine.specs.Checks.{last_number}
use Rattle.bk_machine.specs.Outcome.{Outcome}
use Rattle.bk_machine.specs.Run.{behind_all}
use Rattle.bk_machine.specs.Sound.{RiseFrom}
use Rattle.bk_world.specs.declared.transaction.Open.{Open}
use Rattle.bk_machine.specs.World.{World, Database, log_of, least_begin, database_named}

-- Where a run is cut.

-- the acts of the first of some outcomes
abbrev pub next_acts : List Outcome → List Act
next_acts [] = []
next_acts (outcome ∷ outcomes) = outcome.acts

-- of an act that is cut, so many of the records that it says; where it said none, it did nothing
abbrev pub front_of : ℕ → List Act → List Act
front_of zero acts = []
front_of (suc n) [] = []
front_of (suc n) (logged name said transactions ∷ acts) = logged name (take (suc n) said) transactions ∷ []
front_of (suc n) (act ∷ acts) = []

-- what an act that is cut says tells no entry
abbrev pub AreQuiet : List Said → Type 0
AreQuiet said = AllByRecursion (λ (s : Said). telling s.deed ≡ None) said

abbrev pub IsQuiet : Act → Type 0
IsQuiet (logged name said transactions) = AreQuiet said
IsQuiet _ = Unit {0}

-- A run is cut in one statement at most, behind some of its acts, and inside of an act only among records that tell no entry. At least so many
-- statements are done, and no more than were begun; before is the world behind them, cut the one at the cut, and whole the one behind the statement that is cut.
pub record CutsRun (old : World) (outcomes : List Outcome) (least : ℕ) (before cut whole : World) : Type 0 where
  pub done : ℕ
  pub enough : least ≤ done
  pub within : done ≤ length outcomes
  pub acts : ℕ
  pub records : ℕ
  pub quiet : AllByRecursion IsQuiet (front_of records (drop acts (next_acts (drop done outcomes))))
  pub is_before : before ≡ behind_all old (take done outcomes)
  pub is_cut : cut ≡ done_all before (take acts (next_acts (drop done outcomes)) ++ front_of records (drop acts (next_acts (drop done outcomes))))
  pub is_whole : whole ≡ done_all before (next_acts (drop done outcomes))

-- the world where a run is cut between two acts: behind so many of its statements, and so many acts of the next one
abbrev pub cut_between : World → List Outcome → ℕ → ℕ → World
cut_between old outcomes done k = done_all (behind_all old (take done outcomes)) (take k (next_acts (drop done outcomes)))

-- What is left.

-- a record that undoes
abbrev pub IsUndoing : Deed → Type 0
IsUndoing (undone at c n) = Unit {0}
IsUndoing _ = ⊥

-- What is left of a branch: an end of it may be lost, which tells no entry; and then records that undo what was open.
pub record LineLeft (cut left : RecordLine) : Type 0 where
  pub branch : left.branch ≡ cut.branch
  pub kept : List Logged
  pub lost : List Logged
  pub undoing : List Logged
  pub splits : cut.records ≡ kept ++ lost
  pub quiet : AllByRecursion (λ (r : Logged). telling r.deed ≡ None) lost
  pub is : left.records ≡ kept ++ undoing
  pub rises : RiseFrom 0 left.records
  pub undoes : AllByRecursion (λ (r : Logged). IsUndoing r.deed) undoing

-- no database that is online writes on this branch
abbrev pub IsNoOnes : Guid → Database → Type 0
IsNoOnes branch db = db.status ≡ Online → last_branch db.path ≢ Some branch

-- the end of a database, 0 where there is none
abbrev pub end_in : Option Database → ℕ
end_in None = 0
end_in (Some db) = db.end

-- the least number that was in use by a database when a statement began: a new one begins at its own end
abbrev pub begin_in : Option Database → ℕ → ℕ
begin_in None end = end
begin_in (Some db) end = least_begin db.transactions db.end

-- the greatest end before or behind a statement
abbrev pub greatest_end : World → World → Database → ℕ
greatest_end before whole db = max (end_in (database_named before.databases db.name)) (end_in (database_named whole.databases db.name))

-- A crash doesn't use up the numbers.
abbrev pub most_end : World → World → Database → ℕ
most_end before whole db = greatest_end before whole db + (greatest_end before whole db - begin_in (database_named before.databases db.name) (greatest_end before whole db)) + 16

-- the first records of some transactions
abbrev pub begins_of : List Open → List ℕ
begins_of transactions = map (λ (t : Open). t.begin) transactions

-- the first records of what may be open in a database while a statement goes on: of a transaction that the statement begins, and of those before it
abbrev pub begins_in : Option Database → List ℕ
begins_in None = []
begins_in (Some db) = db.end ∷ begins_of db.transactions

-- the first records of what may be open in a database where a statement is cut
abbrev pub open_begins : World → Database → List ℕ
open_begins before db = begins_in (database_named before.databases db.name)

-- The log of a database that is online is cut, and what was open in it is undone. No record is lost that is of no transaction, and the database
-- goes on behind what is left: its last branch has nothing at its end or above.
pub record OnlineLeft (before whole cut left : World) (begins : List ℕ) (old new : Database) : Type 0 where
  pub log : IsCutLog begins (log_of cut.history old) (log_of left.history new)
  pub of_some : AllByRecursion (λ (r : Logged). 0 < r.begin) log.lost
  pub end : new.end ≡ end_behind (log_of left.history new)
  pub goes_on : MayGoOn left.history new.path new.end
  pub bound : new.end ≤ most_end before whole old
  pub numbers : new.end ≤ last_number

-- another one keeps its log
pub record OfflineLeft (cut left : World) (old new : Database) : Type 0 where
  pub log : log_of left.history new ≡ log_of cut.history old
  pub end : new.end ≡ old.end

abbrev pub StatusLeft : Status → World → World → World → World → List ℕ → Database → Database → Type 0
StatusLeft Online before whole cut left begins old new = OnlineLeft before whole cut left begins old new
StatusLeft (Standby file) before whole cut left begins old new = OfflineLeft cut left old new
StatusLeft Down before whole cut left begins old new = OfflineLeft cut left old new

-- what is left of a database: no job and no transaction, neither those that were open nor one of its own of the statement that is cut
pub record DatabaseLeft (before whole cut left : World) (old new : Database) : Type 0 where
  pub same : new ≡ record old { job = None; transactions = []; end = new.end }
  pub log : StatusLeft old.status before whole cut left (open_begins before old) old new

-- What is left of a world: no session, and a counter that may have moved on by at most 1,024.
pub record WorldLeft (before whole cut left : World) : Type 0 where
  pub instance : left.instance ≡ cut.instance
  pub no_less : cut.counter ≤ left.counter
  pub no_more : left.counter ≤ cut.counter + 1024
  pub lines : AllZip LineLeft cut.history left.history
  pub others : (branch : Guid) → AllByRecursion (IsNoOnes branch) cut.databases → line_on left.history branch ≡ line_on cut.history branch
  pub databases : AllZip (DatabaseLeft before whole cut left) cut.databases left.databases
  pub media : left.media ≡ cut.media
  pub standbys : left.standbys ≡ cut.standbys
  pub backups : left.backups ≡ cut.backups
  pub restores : left.restores ≡ cut.restores
  pub marks : left.marks ≡ cut.marks
  pub session : left.session ≡ 1
  pub sessions : left.sessions ≡ []
  pub closed : left.closed ≡ false

-- a crash of a run that came to these outcomes, after at least so many of them, may leave this world
pub record Leaves (old : World) (outcomes : List Outcome) (least : ℕ) (left : World) : Type 0 where
  pub before : World
  pub cut : World
  pub whole : World
  pub cuts : CutsRun old outcomes least before cut whole
  pub world : WorldLeft before whole cut left
