-- Rows that are found in the cells of pages. Layouts are this project's own.
-- SQL Server: "Pages and Extents Architecture Guide".
use Rattle.std.specs.Prelude.{◌≡◌, ◌<◌, ◌≤◌, ◌⊎◌, ℕ, suc, List, [], length, Option, Some, None, slice_index_or}
use Rattle.std.specs.List.{All, Contains, count_by}
use Rattle.std.specs.Str.{IsUtf8}
use Rattle.bk_bytes.specs.Cell.{Row, FitsCell, cell_bytes}
use Rattle.bk_facts.specs.declared.facts.DataFile.{DataFile}
use Rattle.bk_ids.specs.declared.record.Place.{Place}
use Rattle.bk_page.specs.Page.{cell_at}
use Rattle.bk_paged.specs.Names.{IsThere}
use Rattle.bk_pool.specs.Pool.{IsIn, Pool}
use Rattle.bk_undo.specs.Cells.{is_place}
use Rattle.bk_world.specs.PlacedRows.{ComesBefore}
use Rattle.bk_world.specs.declared.row.PlacedRow.{PlacedRow}

-- ---- rows and cells

-- the row of a cell, in its place
abbrev pub placed : Place → Row → PlacedRow
placed at row = record { table = row.table; key = row.key; value = row.value; place = at }

-- what the cell of a row holds
abbrev pub cell_in : PlacedRow → Row
cell_in row = record { table = row.table; key = row.key; value = row.value }

-- a cell holds no row, or one that fits there, with a text for its value
abbrev pub IsTextCell : Option Row → Type 0
IsTextCell None = Unit {0}
IsTextCell (Some row) = FitsCell row × IsUtf8 row.value

-- the bytes of a page spell what its cells hold
abbrev pub HoldsCells : (Place → Option Row) → ℕ → ℕ → List ℕ → Type 0
HoldsCells cells file page bytes =
    (slot : ℕ) → slot < 63 → IsTextCell (cells (record { file = file; page = page; slot = slot })) × (cell_at bytes slot ≡ cell_bytes (cells (record { file = file; page = page; slot = slot })))

-- so does each page that lies in a frame
abbrev pub AreInPool : (Place → Option Row) → Pool → Type 0
AreInPool cells pool = (i file page : ℕ) → IsIn pool.pages i file page → HoldsCells cells file page (slice_index_or pool.frames i [])

-- a cell of a page of the data files
pub record IsCellIn (files : List DataFile) (at : Place) : Type 0 where
  pub page : IsThere files (record { file = at.file; page = at.page })
  pub slot : at.slot < 63

-- no row comes before the one in front of it by table and key
abbrev pub DontFall : List PlacedRow → Type 0
DontFall rows = (k : ℕ) (d : PlacedRow) → suc k < length rows → ComesBefore (slice_index_or rows (suc k) d) (slice_index_or rows k d) → ⊥

-- ---- which rows were found

-- a cell lies before one in this slot of this page of this file
abbrev pub IsBefore : ℕ → ℕ → ℕ → Place → Type 0
IsBefore file page slot at = (at.file < file) ⊎ ((at.file ≡ file) × ((at.page < page) ⊎ ((at.page ≡ page) × (at.slot < slot))))

-- Each of these rows is what the cell at its place holds, no two lie in one cell, and they are all rows in the cells of these files that are among some.
pub record AreRowsIn (cells : Place → Option Row) (files : List DataFile) (Among : Place → Type 0) (rows : List PlacedRow) : Type 0 where
  pub used : All (λ (row : PlacedRow). cells row.place ≡ Some (cell_in row)) rows
  pub among : All (λ (row : PlacedRow). Among row.place) rows
  pub apart : (at : Place) → count_by (λ (row : PlacedRow). is_place row.place at) rows ≤ 1
  pub there : (at : Place) (row : Row) → IsCellIn files at → Among at → cells at ≡ Some row → Contains rows (placed at row)

-- so far as cells before this one go
abbrev pub AreFound : (Place → Option Row) → List DataFile → ℕ → ℕ → ℕ → List PlacedRow → Type 0
AreFound cells files file page slot rows = AreRowsIn cells files (IsBefore file page slot) rows

-- and of all cells
abbrev pub AreAll : (Place → Option Row) → List DataFile → List PlacedRow → Type 0
AreAll cells files rows = AreRowsIn cells files (λ at. Unit {0}) rows
