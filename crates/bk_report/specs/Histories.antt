-- What was restored and marked. SQL Server: "restorehistory", "logmarkhistory".
use Rattle.std.specs.Prelude.{ℕ, List, [], ◌∷◌, codes}
use Rattle.std.specs.Fmt.{decimal}
use Rattle.bk_ids.specs.Guid.{guid_text}
use Rattle.bk_world.specs.declared.msdb.MarkRow.{MarkRow}
use Rattle.bk_world.specs.declared.msdb.RestoreKind.{RestoreKind}
use Rattle.bk_world.specs.declared.msdb.RestoreKind.TheVariants.{Set, Files, Pages}
use Rattle.bk_world.specs.declared.msdb.RestoreRow.{RestoreRow}
use Rattle.bk_report.specs.Cells.{tabbed, line, flag, maybe_text}
use Rattle.bk_report.specs.Sets.{type_letter}
use Rattle.bk_report.specs.Times.{time_text}

-- restore_type
abbrev pub restore_letter : RestoreKind → List ℕ
restore_letter (Set kind) = type_letter kind
restore_letter Files = codes "F"
restore_letter Pages = codes "P"

-- time, database, the set's GUID, type
abbrev pub restored_cells : RestoreRow → List ℕ
restored_cells row = tabbed (time_text row.time ∷ row.database ∷ guid_text row.set ∷ restore_letter row.kind ∷ [])

-- replace, recovery, the text of the stop
abbrev pub asked_cells : RestoreRow → List ℕ
asked_cells row = tabbed (flag row.replace ∷ flag row.recovery ∷ maybe_text row.stop ∷ [])

-- a row of restorehistory
abbrev pub restore_line : ℕ → RestoreRow → List ℕ
restore_line id row = line (decimal id ∷ restored_cells row ∷ asked_cells row ∷ [])

-- a row of logmarkhistory: database, mark, description, LSN, time
abbrev pub mark_line : MarkRow → List ℕ
mark_line row = line (row.database ∷ row.mark.name ∷ maybe_text row.mark.description ∷ decimal row.lsn ∷ time_text row.time ∷ [])
