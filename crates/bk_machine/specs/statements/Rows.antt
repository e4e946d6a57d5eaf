-- The statements on the rows of a table, a line each.
use Rattle.std.specs.Prelude.{◌≡◌, ℕ, List}
use Rattle.bk_items.specs.declared.rows.RowStatement.{RowStatement}
use Rattle.bk_items.specs.declared.rows.RowStatement.TheVariants.{Insert, Update, Delete, Select, BulkInsert}
use Rattle.bk_world.specs.declared.rule.Rule.TheVariants.{NotBuilt}
use Rattle.bk_machine.specs.Outcome.{ComesTo, Outcome, refused}
use Rattle.bk_machine.specs.World.{World}
use Rattle.bk_machine.specs.statements.Insert.{check_insert, DoesInsert}
use Rattle.bk_machine.specs.statements.Update.{check_update, DoesUpdate}
use Rattle.bk_machine.specs.statements.Delete.{check_delete, DoesDelete}
use Rattle.bk_machine.specs.statements.Select.{check_select, DoesSelect}

-- what such a statement on this line, on the table of this name, may come to at a moment
abbrev pub RowsMay : World → ℕ → List ℕ → RowStatement → ℕ → Outcome → Type 0
RowsMay w line table (Insert key value) now = ComesTo (check_insert w table key value) (DoesInsert w key value now)
RowsMay w line table (Update key value) now = ComesTo (check_update w table key value) (DoesUpdate w key value now)
RowsMay w line table (Delete key) now = ComesTo (check_delete w table key) (DoesDelete w key now)
RowsMay w line table (Select key) now = ComesTo (check_select w table) (DoesSelect w key)
RowsMay w line table (BulkInsert first count value) now = λ outcome. outcome ≡ refused (NotBuilt line)
