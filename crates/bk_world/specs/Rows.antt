-- What entries show: rows, tables, recovery model, the last time.
-- SQL Server: "Transaction Log Architecture and Management Guide".
use Rattle.std.specs.Prelude.{ℕ, List, [], ◌∷◌, ◌++◌, Option, Some, None, ◌==◌, if◌then◌else◌}
use Rattle.std.specs.Ordering.{nat_cmp}
use Rattle.std.specs.BTreeMap.{insert_entry, is_at}
use Rattle.std.specs.Map.{remove_entry}
use Rattle.bk_ids.specs.declared.record.RecoveryModel.{RecoveryModel}
use Rattle.bk_world.specs.declared.database.TableSpec.{TableSpec}
use Rattle.bk_world.specs.Entry.{Entry, Change, RowChange, rows_set, table_made, model_set, nothing}

-- the rows of a table by rising key
abbrev pub Rows : Type 0
Rows = List (ℕ × List ℕ)

-- the rows with this key set to a value, or gone
abbrev pub with_row : Rows → ℕ → Option (List ℕ) → Rows
with_row rows key (Some value) = insert_entry nat_cmp rows key value
with_row rows key None = remove_entry (is_at (nat_cmp key)) rows

-- the rows of one table after some changes
abbrev pub rows_changed : ℕ → Rows → List RowChange → Rows
rows_changed table rows [] = rows
rows_changed table rows (c ∷ changes) = rows_changed table (if c.table == table then with_row rows c.key c.value else rows) changes

-- the rows of one table after one more entry
abbrev pub rows_after : ℕ → Rows → Change → Rows
rows_after table rows (rows_set changes) = rows_changed table rows changes
rows_after table rows (table_made made) = rows
rows_after table rows (model_set model) = rows
rows_after table rows nothing = rows

-- the rows of one table after some entries
abbrev pub rows_of : ℕ → Rows → List Entry → Rows
rows_of table rows [] = rows
rows_of table rows (entry ∷ entries) = rows_of table (rows_after table rows entry.change) entries

-- the table that an entry makes
abbrev pub table_of : Change → List TableSpec
table_of (rows_set changes) = []
table_of (table_made made) = made ∷ []
table_of (model_set model) = []
table_of nothing = []

-- the tables that entries make, the first made first
abbrev pub tables_of : List Entry → List TableSpec
tables_of [] = []
tables_of (entry ∷ entries) = table_of entry.change ++ tables_of entries

-- the model after one more entry
abbrev pub model_after : RecoveryModel → Change → RecoveryModel
model_after model (rows_set changes) = model
model_after model (table_made made) = model
model_after model (model_set new) = new
model_after model nothing = model

-- the last recovery model among entries
abbrev pub model_of : RecoveryModel → List Entry → RecoveryModel
model_of model [] = model
model_of model (entry ∷ entries) = model_of (model_after model entry.change) entries

-- the last time among entries
abbrev pub time_of : ℕ → List Entry → ℕ
time_of time [] = time
time_of time (entry ∷ entries) = time_of entry.time entries
