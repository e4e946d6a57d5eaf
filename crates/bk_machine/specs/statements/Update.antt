-- UPDATE of one row by its key. A row gets its value anew where that is the same, too.
-- SQL Server: UPDATE (Transact-SQL).
use Rattle.std.specs.Prelude.{ℕ, List, Some}
use Rattle.bk_machine.specs.Checks.{Checked, ◌>>=◌}
use Rattle.bk_machine.specs.Outcome.{Outcome}
use Rattle.bk_machine.specs.World.{World}
use Rattle.bk_machine.specs.statements.Target.{DoesWrite, Target, check_table, check_value, check_write}

unfoldable pub check_update : World → List ℕ → ℕ → List ℕ → Checked Target
check_update w table key value = do
  to ← check_table w table
  _ ← check_value value
  check_write w to key

abbrev pub DoesUpdate : World → ℕ → List ℕ → ℕ → Target → Outcome → Type 0
DoesUpdate w key value now to = DoesWrite w key (Some value) now to
