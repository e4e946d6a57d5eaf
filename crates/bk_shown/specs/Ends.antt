-- The end of a log as bytes, in which all is told of what is pending.
-- SQL Server: "Transaction Log Architecture and Management Guide", active portion of the log.
use Rattle.std.specs.Prelude.{◌≡◌, ◌≤◌, ℕ, ◌+◌, List, ◌++◌, length, map, None}
use Rattle.std.specs.List.{AllByRecursion}
use Rattle.bk_record.specs.Log.{IsLog}
use Rattle.bk_undo.specs.Spelled.{spelled}
use Rattle.bk_world.specs.Pending.{Pending, pending}
use Rattle.bk_world.specs.Records.{Logged}

-- The end of a log from a number on is spelled by these bytes.
pub record SpellsEnd (rs : List Logged) (first : ℕ) (bytes : List ℕ) : Type 0 where
  pub before : List Logged
  pub from : List Logged
  pub splits : rs ≡ before ++ from
  pub first_is : first ≡ length before + 1
  pub spelled_is : IsLog bytes (map spelled from) None

-- And each transaction began there of which something is pending.
pub record HoldsPending (rs : List Logged) (first : ℕ) (bytes : List ℕ) : Type 0 where
  pub spells : SpellsEnd rs first bytes
  pub begun : AllByRecursion (λ (w : Pending). first ≤ w.begin) (pending rs)
