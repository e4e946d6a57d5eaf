-- DELETE of one row by its key. SQL Server: DELETE (Transact-SQL).
use Rattle.std.specs.Prelude.{ℕ, List, None}
use Rattle.bk_machine.specs.Checks.{Checked, ◌>>=◌}
use Rattle.bk_machine.specs.Outcome.{Outcome}
use Rattle.bk_machine.specs.World.{World}
use Rattle.bk_machine.specs.statements.Target.{DoesWrite, Target, check_table, check_write}

unfoldable pub check_delete : World → List ℕ → ℕ → Checked Target
check_delete w table key = do
  to ← check_table w table
  check_write w to key

abbrev pub DoesDelete : World → ℕ → ℕ → Target → Outcome → Type 0
DoesDelete w key now to = DoesWrite w key None now to
