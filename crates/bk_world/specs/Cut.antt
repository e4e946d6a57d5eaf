-- What a crash leaves of a log: all that was promised, and what is left open is undone.
-- SQL Server: "Restore and Recovery Overview", the undo phase.
use Rattle.std.specs.Prelude.{◌≡◌, ℕ, ◌+◌, ◌==◌, Bool, true, List, ◌++◌, length, None}
use Rattle.std.specs.List.{list_any, AllByRecursion}
use Rattle.bk_world.specs.Records.{Logged, more}
use Rattle.bk_world.specs.Pending.{pending}
use Rattle.bk_world.specs.Telling.{telling}
use Rattle.bk_world.specs.Says.{settle_said}
use Rattle.bk_world.specs.SoundLogs.{NoLoadPends}

-- one of these transactions, by their first records
abbrev pub is_among : List ℕ → ℕ → Bool
is_among begins n = list_any (λ begin. begin == n) begins

-- the number behind those of a log that has each number once, from 1 on
abbrev pub end_behind : List Logged → ℕ
end_behind rs = 1 + length rs

-- a log with all that is pending undone at its end
unfoldable pub settled : List Logged → List Logged
settled rs = more rs (end_behind rs) (settle_said (pending rs))

-- A crash leaves this of a log: an end of it may be lost, which is of open transactions alone and tells no entry, and which cuts no load; what is
-- pending then is undone.
pub record IsCutLog (begins : List ℕ) (rs left : List Logged) : Type 0 where
  pub kept : List Logged
  pub lost : List Logged
  pub splits : rs ≡ kept ++ lost
  pub of_open : AllByRecursion (λ r. is_among begins r.begin ≡ true) lost
  pub quiet : AllByRecursion (λ r. telling r.deed ≡ None) lost
  pub loads : NoLoadPends kept
  pub is : left ≡ settled kept
