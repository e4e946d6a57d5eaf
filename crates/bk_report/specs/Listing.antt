-- What is listed, a line for each row. SQL Server: "RESTORE HEADERONLY", "RESTORE FILELISTONLY", "backupset", "restorehistory", "logmarkhistory".
use Rattle.std.specs.Prelude.{ℕ, ◌+◌, List, [], ◌∷◌, ◌++◌, flat_map}
use Rattle.bk_world.specs.declared.header.Header.{Header}
use Rattle.bk_world.specs.declared.msdb.BackupRow.{BackupRow}
use Rattle.bk_world.specs.declared.msdb.RestoreRow.{RestoreRow}
use Rattle.bk_world.specs.declared.reply.Listing.{Listing}
use Rattle.bk_world.specs.declared.reply.Listing.TheVariants.{Sets, Files, Backups, Restores, Marks}
use Rattle.bk_report.specs.Files.{file_lines}
use Rattle.bk_report.specs.Histories.{mark_line, restore_line}
use Rattle.bk_report.specs.Sets.{backup_line, header_line}

-- a set with its position
abbrev pub set_line : ℕ × Header → List ℕ
set_line set = header_line set.0 set.1

-- rows of backupset, numbered from this one on
abbrev pub backup_lines : ℕ → List BackupRow → List ℕ
backup_lines id [] = []
backup_lines id (row ∷ rows) = backup_line id row ++ backup_lines (id + 1) rows

-- rows of restorehistory, numbered from this one on
abbrev pub restore_lines : ℕ → List RestoreRow → List ℕ
restore_lines id [] = []
restore_lines id (row ∷ rows) = restore_line id row ++ restore_lines (id + 1) rows

-- a listing: its rows in their order, with no line above or below them
unfoldable pub listing_text : Listing → List ℕ
listing_text (Sets sets) = flat_map set_line sets
listing_text (Files storage) = file_lines storage
listing_text (Backups rows) = backup_lines 1 rows
listing_text (Restores rows) = restore_lines 1 rows
listing_text (Marks rows) = flat_map mark_line rows
