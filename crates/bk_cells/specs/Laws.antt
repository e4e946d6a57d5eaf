-- What the layers above may take of the cells of pages.
use Rattle.std.specs.Prelude.{◌≡◌, ◌<◌, ℕ, List, [], map, Some, slice_get}
use Rattle.std.specs.List.{AllByRecursion}
use Rattle.bk_bytes.specs.Cell.{Row, cell_bytes}
use Rattle.bk_ids.specs.declared.record.Place.{Place}
use Rattle.bk_paths.specs.Laws.{IsPlain}
use Rattle.bk_paths.specs.Pages.{last_page}
use Rattle.bk_paths.specs.Paths.{IsPath}
use Rattle.bk_shown.specs.Shown.{ArePlaced}
use Rattle.bk_undo.specs.Spelled.{spelled}
use Rattle.bk_world.specs.Pending.{pending}
use Rattle.bk_world.specs.Places.{place_of}
use Rattle.bk_world.specs.Records.{Counts, Logged, RowId}
use Rattle.bk_world.specs.SoundLogs.{IsSound}
use Rattle.bk_world.specs.Telling.{row_at, rows}
use Rattle.bk_world.specs.declared.database.FileSpec.{FileSpec}
use Rattle.bk_cells.specs.Cells.{cell_of}

-- the page as of the end of a path holds in each cell what the log says that it spells
abbrev pub CellsAreOnPages : Type 0
CellsAreOnPages = (rs : List Logged) (at : Place) → AllByRecursion IsPlain rs → IsPath (map spelled rs) → at.slot < 63
    → slice_get (last_page (record { file = at.file; page = at.page }) (map spelled rs)).cells at.slot ≡ Some (cell_bytes (cell_of rs at))

-- a used cell is its row's
pub record HoldsRow (rs : List Logged) (at : Place) (row : Row) : Type 0 where
  pub value : row_at (rows rs row.table) row.key ≡ Some row.value
  pub place : place_of rs (row.table, row.key) ≡ Some at

-- where nothing is pending, used cells hold committed rows, each in its place, and each committed row lies in a cell
pub record HoldsRows (rs : List Logged) : Type 0 where
  pub used : (at : Place) (row : Row) → cell_of rs at ≡ Some row → HoldsRow rs at row
  pub there : (id : RowId) (value : List ℕ) → row_at (rows rs id.0) id.1 ≡ Some value → (at : Place) × (place_of rs id ≡ Some at) × (cell_of rs at ≡ Some (record { table = id.0; key = id.1; value = value }))

abbrev pub CellsAreRows : Type 0
CellsAreRows = (files : List FileSpec) (rs : List Logged) («end» : ℕ) → Counts 1 rs «end» → IsSound rs → ArePlaced files [] rs → pending rs ≡ [] → HoldsRows rs
