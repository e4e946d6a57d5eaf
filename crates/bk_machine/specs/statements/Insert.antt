-- INSERT. SQL Server: INSERT (Transact-SQL).
use Rattle.std.specs.Prelude.{◌≡◌, ℕ, List, Some, None}
use Rattle.bk_ids.specs.declared.record.Place.{Place}
use Rattle.bk_machine.specs.Checks.{Checked, ◌>>=◌}
use Rattle.bk_machine.specs.Outcome.{Outcome}
use Rattle.bk_machine.specs.World.{World}
use Rattle.bk_machine.specs.statements.Target.{MayPlace, Target, check_new, check_table, check_value, writes_row}

unfoldable pub check_insert : World → List ℕ → ℕ → List ℕ → Checked Target
check_insert w table key value = do
  to ← check_table w table
  _ ← check_value value
  check_new w to key

-- a new row is written at one of the places that it may get
abbrev pub DoesInsert : World → ℕ → List ℕ → ℕ → Target → Outcome → Type 0
DoesInsert w key value now to outcome = (at : Place) × MayPlace w to (to.table.number, key) at × (outcome ≡ writes_row w to at None key (Some value) now)
