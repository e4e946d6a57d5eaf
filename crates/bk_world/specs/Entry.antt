-- Entries: what a history says happened, one for each log record that carries a time.
-- SQL Server: BACKUP (Transact-SQL); "Use marked transactions to recover related databases".
use Rattle.std.specs.Prelude.{ℕ, List, Option, None}
use Rattle.bk_ids.specs.declared.record.Mark.{Mark}
use Rattle.bk_ids.specs.declared.record.RecoveryModel.{RecoveryModel}
use Rattle.bk_world.specs.declared.database.TableSpec.{TableSpec}

-- a row of a table is set to a value, or is gone
pub record RowChange : Type 0 where
  pub table : ℕ
  pub key : ℕ
  pub value : Option (List ℕ)

-- what an entry changes: rows, in their order; the tables; the recovery model; nothing, as a checkpoint or a stamp does
pub data Change : Type 0 where
  rows_set : List RowChange → Change
  table_made : TableSpec → Change
  model_set : RecoveryModel → Change
  nothing : Change

pub record Entry : Type 0 where
  pub lsn : ℕ
  -- milliseconds since 1970-01-01 00:00:00 UTC
  pub time : ℕ
  pub mark : Option Mark
  -- of a minimal bulk load: the numbers of the data files in which its extents lie
  pub bulk : Option (List ℕ)
  pub change : Change

-- an entry without a mark
abbrev pub plain_entry : ℕ → ℕ → Change → Entry
plain_entry lsn time change = record { lsn = lsn; time = time; mark = None; bulk = None; change = change }
