-- DROP DATABASE. SQL Server: DROP DATABASE (Transact-SQL).
use Rattle.std.specs.Prelude.{◌≡◌, ℕ, List, Ok}
use Rattle.bk_world.specs.declared.reply.Reply.TheVariants.{Done}
use Rattle.bk_world.specs.declared.rule.Rule.TheVariants.{NoSuchDatabase}
use Rattle.bk_machine.specs.Acts.{dropped}
use Rattle.bk_machine.specs.Checks.{Checked, ◌>>=◌, or_refuse, outside, unused, without_job}
use Rattle.bk_machine.specs.Outcome.{Outcome, in_one}
use Rattle.bk_machine.specs.World.{World, Database, database_named}

unfoldable pub check_drop_database : World → List ℕ → Checked Database
check_drop_database w name = do
  _ ← outside w
  db ← or_refuse (database_named w.databases name) NoSuchDatabase
  _ ← unused db
  _ ← without_job db
  Ok db

abbrev pub DoesDropDatabase : Database → Outcome → Type 0
DoesDropDatabase db outcome = outcome ≡ in_one (dropped db.name) Done
