-- USE: behind the name of a database that the server keeps for itself there is no current database. SQL Server: USE (Transact-SQL).
use Rattle.std.specs.Prelude.{◌≡◌, ℕ, List, Option, Some, None, Ok, if◌then◌else◌}
use Rattle.bk_world.specs.declared.reply.Reply.TheVariants.{Done}
use Rattle.bk_world.specs.declared.rule.Rule.TheVariants.{NoSuchDatabase}
use Rattle.bk_machine.specs.Acts.{turned}
use Rattle.bk_machine.specs.Checks.{Checked, ◌>>=◌, or_refuse, outside, is_system}
use Rattle.bk_machine.specs.Outcome.{Outcome, in_one}
use Rattle.bk_machine.specs.World.{World, database_named}

-- the name that is set, if one is
unfoldable pub check_used : World → List ℕ → Checked (Option (List ℕ))
check_used w name = if is_system name then Ok None else (do
  _ ← or_refuse (database_named w.databases name) NoSuchDatabase
  Ok (Some name))

unfoldable pub check_use : World → List ℕ → Checked (Option (List ℕ))
check_use w name = do
  _ ← outside w
  check_used w name

abbrev pub DoesUse : Option (List ℕ) → Outcome → Type 0
DoesUse name outcome = outcome ≡ in_one (turned name) Done
