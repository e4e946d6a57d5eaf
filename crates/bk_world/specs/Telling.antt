-- What log records tell: entries, times and marks, and with them tables, rows and the recovery model.
-- SQL Server: "Transaction Log Architecture and Management Guide"; "Use marked transactions to recover related databases".
use Rattle.std.specs.Prelude.{ℕ, ◌/◌, ◌==◌, Bool, false, List, [], ◌∷◌, ◌++◌, Option, Some, None, if◌then◌else◌}
use Rattle.std.specs.List.{list_any}
use Rattle.std.specs.Ordering.{nat_cmp}
use Rattle.std.specs.BTreeMap.{is_at}
use Rattle.std.specs.Map.{lookup}
use Rattle.bk_ids.specs.declared.record.ExtentId.{ExtentId}
use Rattle.bk_ids.specs.declared.record.Mark.{Mark}
use Rattle.bk_ids.specs.declared.record.Place.{Place}
use Rattle.bk_ids.specs.declared.record.RecoveryModel.{RecoveryModel}
use Rattle.bk_ids.specs.declared.record.RecoveryModel.TheVariants.{Full}
use Rattle.bk_world.specs.declared.database.TableSpec.{TableSpec}
use Rattle.bk_world.specs.Entry as entry
use Rattle.bk_world.specs.Entry.{Entry, rows_set, nothing, plain_entry}
use Rattle.bk_world.specs.Rows.{Rows, rows_of, rows_changed, tables_of, model_of, time_of}
use Rattle.bk_world.specs.Records.{Deed, Logged, database_made, table_made, written, committed, undone, checkpointed, stamped, model_set, loaded}
use Rattle.bk_world.specs.Pending.{Pending, pending_after, pending, changes_of, of_transaction}

-- the time that a record carries, with the mark of a commit: those that carry one are entries
abbrev pub telling : Deed → Option (ℕ × Option Mark)
telling (database_made time family branch) = Some (time, None)
telling (table_made time spec) = Some (time, None)
telling (committed time mark) = Some (time, mark)
telling (checkpointed time) = Some (time, None)
telling (stamped time set) = Some (time, None)
telling (model_set time model) = Some (time, None)
telling _ = None

-- the data files of some extents, each once
abbrev pub files_of : List ExtentId → List ℕ
files_of [] = []
files_of (e ∷ extents) = if list_any (λ (file : ℕ). file == e.file) (files_of extents) then files_of extents else e.file ∷ files_of extents

-- of a transaction that loaded rows minimally, the data files of its extents
abbrev pub bulk_of : List Pending → Option (List ℕ)
bulk_of [] = None
bulk_of (w ∷ ws) = bulk_by w.extents
  where
    bulk_by : List ExtentId → Option (List ℕ)
    bulk_by [] = None
    bulk_by (e ∷ extents) = Some (files_of (e ∷ extents))

-- the entry of a commit of these writes
abbrev pub commit_entry : List Pending → ℕ → ℕ → Option Mark → Entry
commit_entry own lsn time mark = record { lsn = lsn; time = time; mark = mark; bulk = bulk_of own; change = rows_set (changes_of own) }

-- the entry that a record is behind these pending writes, if it is one
abbrev pub entry_of : List Pending → ℕ → ℕ → Deed → List Entry
entry_of ws lsn begin (database_made time family branch) = plain_entry lsn time (entry.model_set Full) ∷ []
entry_of ws lsn begin (table_made time spec) = plain_entry lsn time (entry.table_made spec) ∷ []
entry_of ws lsn begin (committed time mark) = commit_entry (of_transaction begin ws) lsn time mark ∷ []
entry_of ws lsn begin (checkpointed time) = plain_entry lsn time nothing ∷ []
entry_of ws lsn begin (stamped time set) = plain_entry lsn time nothing ∷ []
entry_of ws lsn begin (model_set time model) = plain_entry lsn time (entry.model_set model) ∷ []
entry_of ws lsn begin _ = []

abbrev pub entries_from : List Pending → List Logged → List Entry
entries_from ws [] = []
entries_from ws (r ∷ rs) = entry_of ws r.lsn r.begin r.deed ++ entries_from (pending_after ws r.lsn r.begin r.deed) rs

-- the entries of a log
unfoldable pub entries : List Logged → List Entry
entries rs = entries_from [] rs

-- what a log shows: tables, the committed rows of a table, the recovery model, the last time
unfoldable pub tables : List Logged → List TableSpec
tables rs = tables_of (entries rs)

unfoldable pub rows : List Logged → ℕ → Rows
rows rs table = rows_of table [] (entries rs)

unfoldable pub model : List Logged → RecoveryModel
model rs = model_of Full (entries rs)

unfoldable pub time : List Logged → ℕ
time rs = time_of 0 (entries rs)

-- the rows that a transaction sees: the committed ones with its own pending writes over them
unfoldable pub seen : List Logged → ℕ → ℕ → Rows
seen rs begin table = rows_changed table (rows rs table) (changes_of (of_transaction begin (pending rs)))

-- the value of a row, if it is there
abbrev pub row_at : Rows → ℕ → Option (List ℕ)
row_at rows key = lookup (is_at (nat_cmp key)) rows

-- a write or a load of a table that passes: what a minimal load must not find in its group
abbrev pub deed_touches : (ℕ → Bool) → Deed → Bool
deed_touches test (written at before c) = test c.table
deed_touches test (loaded load) = test load.table
deed_touches test _ = false

unfoldable pub is_touched : (ℕ → Bool) → List Logged → Bool
is_touched test rs = list_any (λ r. deed_touches test r.deed) rs

-- the extent of a page
abbrev pub extent_of : Place → ExtentId
extent_of at = record { file = at.file; extent = at.page / 8 }

-- the extents whose pages a record changes: what the differential map holds, and of loads the bulk map
abbrev pub extents_of : Deed → List ExtentId
extents_of (written at before c) = extent_of at ∷ []
extents_of (undone at c n) = extent_of at ∷ []
extents_of (loaded load) = load.extents
extents_of _ = []
