-- Which front of a log may stay in a crash.
use Rattle.std.specs.Prelude.{◌≡◌, ◌<◌, ◌≤◌, ◌+◌, true, List, ◌++◌, length, None}
use Rattle.std.specs.List.{AllByRecursion}
use Rattle.bk_world.specs.Cut.{end_behind, is_among, settled}
use Rattle.bk_world.specs.Pending.{Pending, pending}
use Rattle.bk_world.specs.Records.{Logged}
use Rattle.bk_world.specs.SoundLogs.{NoLoadPends}
use Rattle.bk_world.specs.Telling.{telling}
use Rattle.bk_machine.specs.Checks.{last_number}
use Rattle.bk_machine.specs.Crash.{greatest_end, most_end, open_begins}
use Rattle.bk_machine.specs.World.{World, Database, log_of}

-- What is lost behind the front is of what was open, and tells no entry. No load is cut.
pub record IsFront (before cut : World) (db : Database) (kept : List Logged) : Type 0 where
  pub lost : List Logged
  pub splits : log_of cut.history db ≡ kept ++ lost
  pub of_open : AllByRecursion (λ (r : Logged). is_among (open_begins before db) r.begin ≡ true) lost
  pub of_some : AllByRecursion (λ (r : Logged). 0 < r.begin) lost
  pub quiet : AllByRecursion (λ (r : Logged). telling r.deed ≡ None) lost
  pub loads : NoLoadPends kept

-- such a front, which doesn't use up the numbers once it is settled
pub record MayStay (before whole cut : World) (db : Database) (kept : List Logged) : Type 0 where
  pub front : IsFront before cut db kept
  pub bound : end_behind (settled kept) ≤ most_end before whole db
  pub numbers : end_behind (settled kept) ≤ last_number

-- Where a statement is cut, what is pending is of what was open, numbers are left to undo it, and nothing lies beyond the statement's ends.
pub record IsCutOf (before whole cut : World) (db : Database) : Type 0 where
  pub of_open : AllByRecursion (λ (w : Pending). is_among (open_begins before db) w.begin ≡ true) (pending (log_of cut.history db))
  pub end : db.end ≤ greatest_end before whole db
  pub numbers : db.end + length (pending (log_of cut.history db)) ≤ last_number
