-- Log records of the machine as they are spelled: cells in place of rows.
-- SQL Server: "Transaction Log Architecture and Management Guide". Layouts are this project's own.
use Rattle.std.specs.Prelude.{ℕ, List, Option, Some, None}
use Rattle.bk_bytes.specs.Cell.{Row, cell_bytes}
use Rattle.bk_ids.specs.declared.record.Body.{Body}
use Rattle.bk_ids.specs.declared.record.Body.TheVariants as body
use Rattle.bk_ids.specs.declared.record.CellImage.{CellImage}
use Rattle.bk_ids.specs.declared.record.Rec.{Rec}
use Rattle.bk_world.specs.Records.{Deed, Logged, database_made, table_made, begun, written, committed, rolled_back, undone, checkpointed, stamped, model_set, loaded, recovered}

-- the cell of a row with a value, or a free one
abbrev pub cell : ℕ → ℕ → Option (List ℕ) → Option Row
cell table key None = None
cell table key (Some value) = Some (record { table = table; key = key; value = value })

abbrev pub image : ℕ → ℕ → Option (List ℕ) → CellImage
image table key value = record { bytes = cell_bytes (cell table key value) }

-- what a record says, as it is spelled
abbrev pub body_of : Deed → Body
body_of (database_made time family branch) = body.Database time family branch
body_of (table_made time spec) = body.Table time spec.number spec.name spec.group
body_of begun = body.Begin
body_of (written at before c) = body.Write at (image c.table c.key before) (image c.table c.key c.value)
body_of (committed time mark) = body.Commit time mark
body_of rolled_back = body.RollbackEnd
body_of (undone at c n) = body.Compensation at (image c.table c.key c.value) n
body_of (checkpointed time) = body.Checkpoint time
body_of (stamped time set) = body.Stamp time set
body_of (model_set time model) = body.Model time model
body_of (loaded load) = body.Bulk load.table load.first load.count load.value load.extents
body_of (recovered branch) = body.Recovery branch

-- a log record as it is spelled
abbrev pub spelled : Logged → Rec
spelled r = record { lsn = r.lsn; begin = r.begin; body = body_of r.deed }
