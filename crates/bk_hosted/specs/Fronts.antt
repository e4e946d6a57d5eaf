-- What a crash leaves of hosted databases: fronts of their logs, with all undone that is pending there.
-- SQL Server: "Restore and Recovery Overview", the undo phase; "Transaction Log Architecture and Management Guide", the log buffer.
use Rattle.std.specs.Prelude.{◌≡◌, ◌<◌, ℕ, Bool, true, false, List, [], ◌++◌, length, take, None}
use Rattle.std.specs.List.{AllByRecursion, AllZip}
use Rattle.bk_hosted.specs.Hosted.{Hosted, database_of, is_up}
use Rattle.bk_machine.specs.Acts.{Act, logged}
use Rattle.bk_machine.specs.Crash.{AreQuiet, open_begins}
use Rattle.bk_machine.specs.Sound.{has_begin}
use Rattle.bk_machine.specs.World.{World}
use Rattle.bk_world.specs.declared.transaction.Open.{Open}
use Rattle.bk_world.specs.Cut.{is_among, settled}
use Rattle.bk_world.specs.Records.{Logged}
use Rattle.bk_world.specs.SoundLogs.{NoLoadPends}
use Rattle.bk_world.specs.Telling.{telling}

-- a record may wait in memory: it is of a transaction that is open, and tells no entry
pub record Waits (transactions : List Open) (r : Logged) : Type 0 where
  pub some : 0 < r.begin
  pub of_open : has_begin transactions r.begin ≡ true
  pub quiet : telling r.deed ≡ None

-- A database with a front of its records: what is lost behind it is of transactions that began at these numbers, and tells no entry. No load is cut where it can be used, and nothing is lost where it is being restored.
pub record IsFrontOf (begins : List ℕ) (h front : Hosted) : Type 0 where
  pub same : front ≡ record h { records = front.records }
  pub lost : List Logged
  pub splits : h.records ≡ front.records ++ lost
  pub of_open : AllByRecursion (λ (r : Logged). is_among begins r.begin ≡ true) lost
  pub of_some : AllByRecursion (λ (r : Logged). 0 < r.begin) lost
  pub quiet : AllByRecursion (λ (r : Logged). telling r.deed ≡ None) lost
  pub loads : is_up h ≡ true → NoLoadPends front.records
  pub whole : is_up h ≡ false → lost ≡ []

-- so each of some databases where a statement is cut: what is lost was open before the statement, or is of the statement
abbrev pub AreFronts : World → List Hosted → List Hosted → Type 0
AreFronts before hosted fronts = AllZip (λ (h front : Hosted). IsFrontOf (open_begins before (database_of h)) h front) hosted fronts

-- a log in which all is undone that was pending, where its database can be used; another one stays
abbrev pub settled_by : Bool → List Logged → List Logged
settled_by true rs = settled rs
settled_by false rs = rs

-- a database with its log so, of which no backup runs and in which nothing is open
abbrev pub settling : Hosted → Hosted
settling h = record h { records = settled_by (is_up h) h.records; job = None; transactions = [] }

-- of what a database says in one act, only the last record may tell an entry: an act that is cut inside tells none
abbrev pub TellsLast : Act → Type 0
TellsLast (logged name said transactions) = (n : ℕ) → n < length said → AreQuiet (take n said)
TellsLast _ = Unit {0}

-- worlds with the same rows of msdb
pub record SameRows (old new : World) : Type 0 where
  pub backups : new.backups ≡ old.backups
  pub restores : new.restores ≡ old.restores
  pub marks : new.marks ≡ old.marks
