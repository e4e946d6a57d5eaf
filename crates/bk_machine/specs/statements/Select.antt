-- SELECT of the rows of a table, all of them or the one of a key. SQL Server: SELECT (Transact-SQL).
use Rattle.std.specs.Prelude.{◌≡◌, ℕ, List, [], ◌∷◌, Option, Some, None}
use Rattle.bk_world.specs.declared.reply.Reply.TheVariants.{Selected}
use Rattle.bk_world.specs.Rows.{Rows}
use Rattle.bk_world.specs.Telling.{row_at}
use Rattle.bk_machine.specs.Checks.{Checked}
use Rattle.bk_machine.specs.Outcome.{Outcome, answered}
use Rattle.bk_machine.specs.Seen.{visible}
use Rattle.bk_machine.specs.World.{World}
use Rattle.bk_machine.specs.statements.Target.{Target, check_table}

-- the row of a key, if there is one
abbrev pub row_of : ℕ → Option (List ℕ) → Rows
row_of key None = []
row_of key (Some value) = (key, value) ∷ []

-- the rows that are asked for
abbrev pub asked_rows : Option ℕ → Rows → Rows
asked_rows None rows = rows
asked_rows (Some key) rows = row_of key (row_at rows key)

unfoldable pub check_select : World → List ℕ → Checked Target
check_select w table = check_table w table

abbrev pub DoesSelect : World → Option ℕ → Target → Outcome → Type 0
DoesSelect w key to outcome = outcome ≡ answered (Selected (asked_rows key (visible w to.database to.table)))
