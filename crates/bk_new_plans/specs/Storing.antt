-- What CREATE DATABASE checks behind the texts of its statement, outside of a transaction.
use Rattle.std.specs.Prelude.{ℕ, nat_le, ◌||◌, List, length, Option, is_some}
use Rattle.bk_items.specs.declared.item.NewFile.{NewFile}
use Rattle.bk_items.specs.declared.item.NewGroup.{NewGroup}
use Rattle.bk_machine.specs.Checks.{Checked, ◌>>=◌, is_system, most_databases, refuse_if}
use Rattle.bk_machine.specs.World.{World, database_named}
use Rattle.bk_machine.specs.statements.CreateDatabase.{check_free, check_limits, new_storage}
use Rattle.bk_world.specs.declared.database.Storage.{Storage}
use Rattle.bk_world.specs.declared.rule.Limit.TheVariants.{Databases}
use Rattle.bk_world.specs.declared.rule.Rule.TheVariants.{DatabaseExists, LimitReached}

abbrev pub check_storage : World → List ℕ → List NewFile → List NewGroup → Option NewFile → Checked Storage
check_storage w name primary groups log = do
  _ ← refuse_if (is_system name || is_some (database_named w.databases name)) DatabaseExists
  _ ← refuse_if (nat_le most_databases (length w.databases)) (LimitReached Databases)
  _ ← check_limits (new_storage name primary groups log)
  check_free w (new_storage name primary groups log)
