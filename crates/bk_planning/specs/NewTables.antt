-- What CREATE TABLE checks of the database in which a table is made.
use Rattle.std.specs.Prelude.{ℕ, nat_le, List, length, Option, is_some, Ok}
use Rattle.bk_machine.specs.Checks.{Checked, ◌>>=◌, limit, refuse_if, table_named, used_up}
use Rattle.bk_machine.specs.Seen.{tables_in}
use Rattle.bk_machine.specs.World.{World, Database}
use Rattle.bk_machine.specs.statements.CreateTable.{Room, check_group, most_tables}
use Rattle.bk_world.specs.declared.rule.Limit.TheVariants.{Tables}
use Rattle.bk_world.specs.declared.rule.Rule.TheVariants.{TableExists, LimitReached}

abbrev pub check_room : World → Database → List ℕ → Option (List ℕ) → Checked Room
check_room w db table group = do
  _ ← refuse_if (is_some (table_named (tables_in w db) table)) TableExists
  number ← check_group db group
  _ ← refuse_if (nat_le most_tables (length (tables_in w db))) (LimitReached Tables)
  _ ← limit (used_up db.end)
  Ok (record { database = db; group = number })
