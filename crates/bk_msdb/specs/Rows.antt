-- The tables of msdb: the rows of each, in order. SQL Server: "backupset (Transact-SQL)", "restorehistory (Transact-SQL)", "logmarkhistory (Transact-SQL)".
use Rattle.std.specs.Prelude.{List, [], ◌∷◌, ◌++◌}
use Rattle.bk_world.specs.declared.msdb.BackupRow.{BackupRow}
use Rattle.bk_world.specs.declared.msdb.RestoreRow.{RestoreRow}
use Rattle.bk_world.specs.declared.msdb.MarkRow.{MarkRow}
use Rattle.bk_machine.specs.declared.history_row.HistoryRow.{HistoryRow}
use Rattle.bk_machine.specs.declared.history_row.HistoryRow.TheVariants.{Backup, Restore, Mark}

-- the rows of each table
pub record Tables : Type 0 where
  pub backups : List BackupRow
  pub restores : List RestoreRow
  pub marks : List MarkRow

-- tables without rows
abbrev pub no_rows : Tables
no_rows = record { backups = []; restores = []; marks = [] }

-- the tables with one more row, the last one of its table
abbrev pub with_row : Tables → HistoryRow → Tables
with_row tables (Backup row) = record tables { backups = tables.backups ++ row ∷ [] }
with_row tables (Restore row) = record tables { restores = tables.restores ++ row ∷ [] }
with_row tables (Mark row) = record tables { marks = tables.marks ++ row ∷ [] }
