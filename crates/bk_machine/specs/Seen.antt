-- Tables and rows as the current session sees them.
use Rattle.std.specs.Prelude.{ℕ, Bool, is_some, List, Option, Some, None}
use Rattle.bk_world.specs.declared.database.TableSpec.{TableSpec}
use Rattle.bk_world.specs.Records.{Logged}
use Rattle.bk_world.specs.Rows.{Rows}
use Rattle.bk_world.specs.Telling.{rows, row_at, seen, tables}
use Rattle.bk_world.specs.declared.transaction.Open.{Open}
use Rattle.bk_machine.specs.World.{World, Database, log_of, transaction_of}

-- the tables of a database
unfoldable pub tables_in : World → Database → List TableSpec
tables_in w db = tables (log_of w.history db)

-- the rows of a table that a session with this transaction sees: the committed ones, with its own pending writes over them
abbrev pub visible_by : List Logged → Option Open → ℕ → Rows
visible_by rs None table = rows rs table
visible_by rs (Some t) table = seen rs t.begin table

-- the rows of a table that the current session sees
unfoldable pub visible : World → Database → TableSpec → Rows
visible w db table = visible_by (log_of w.history db) (transaction_of db.transactions w.session) table.number

-- there is a row with this key
abbrev pub has_key : Rows → ℕ → Bool
has_key rows key = is_some (row_at rows key)
