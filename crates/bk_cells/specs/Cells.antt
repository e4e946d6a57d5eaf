-- The cells of pages, as a log of the machine says.
-- SQL Server: "Transaction Log Architecture and Management Guide"; "Pages and Extents Architecture Guide". Layouts are this project's own.
use Rattle.std.specs.Prelude.{List, [], ◌∷◌, Option, None, if◌then◌else◌}
use Rattle.bk_bytes.specs.Cell.{Row}
use Rattle.bk_ids.specs.declared.record.Place.{Place}
use Rattle.bk_undo.specs.Cells.{is_place}
use Rattle.bk_undo.specs.Spelled.{cell}
use Rattle.bk_world.specs.Records.{Deed, Logged, written, undone}

-- what the cell at a place holds behind one more record: a write and what undoes one set a cell
abbrev pub cell_after : Deed → Place → Option Row → Option Row
cell_after (written place before c) at old = if is_place at place then cell c.table c.key c.value else old
cell_after (undone place c n) at old = if is_place at place then cell c.table c.key c.value else old
cell_after _ at old = old

-- and behind more records
abbrev pub cell_from : List Logged → Place → Option Row → Option Row
cell_from [] at old = old
cell_from (r ∷ rs) at old = cell_from rs at (cell_after r.deed at old)

-- what the cell at a place holds at the end of a log
unfoldable pub cell_of : List Logged → Place → Option Row
cell_of rs at = cell_from rs at None
