-- What a log record does to pages. SQL Server: "Transaction log architecture and management guide"; the layouts are this project's own.
use Rattle.std.specs.Prelude.{ℕ, ◌+◌, ◌*◌, ◌/◌, ◌%◌, Bool, false, List, Some, map, nat_lt, ◌==◌, ◌&&◌, if◌then◌else◌, slice_set}
use Rattle.std.specs.List.{list_any, position_or_len, range_with_len}
use Rattle.bk_ids.specs.declared.record.Place.{Place}
use Rattle.bk_ids.specs.declared.record.ExtentId.{ExtentId}
use Rattle.bk_ids.specs.declared.record.Rec.{Rec}
use Rattle.bk_ids.specs.declared.record.Body.{Body}
use Rattle.bk_ids.specs.declared.record.Body.TheVariants.{Write, Compensation, Bulk}
use Rattle.bk_bytes.specs.Cell.{cell_bytes}
use Rattle.bk_redo.specs.declared.place.PageAt.{PageAt}
use Rattle.bk_redo.specs.PageStates.{PageState, free_cell}

-- rows with rising keys and one value, and the extents that they fill
pub record Load : Type 0 where
  pub table : ℕ
  pub first : ℕ
  pub count : ℕ
  pub value : List ℕ
  pub extents : List ExtentId

-- a record sets one cell, fills extents, or leaves all pages as they are
pub data Effect : Type 0 where
  sets_cell : Place → List ℕ → Effect
  fills_extents : Load → Effect
  leaves_pages : Effect

abbrev pub effect_of : Body → Effect
effect_of (Write place before after) = sets_cell place after.bytes
effect_of (Compensation place cell undone) = sets_cell place cell.bytes
effect_of (Bulk table first count value extents) = fills_extents (record { table = table; first = first; count = count; value = value; extents = extents })
effect_of _ = leaves_pages

-- the cell's page is this one
abbrev pub is_on : Place → PageAt → Bool
is_on place at = place.file == at.file && place.page == at.page

-- the page lies in this extent, which has eight pages
abbrev pub is_in : PageAt → ExtentId → Bool
is_in at extent = extent.file == at.file && extent.extent == at.page / 8

-- an effect fills the extent of a page
abbrev pub fills_page : PageAt → Effect → Bool
fills_page at (fills_extents load) = list_any (is_in at) load.extents
fills_page at _ = false

-- an effect is on a page
abbrev pub is_effect_on : PageAt → Effect → Bool
is_effect_on at (sets_cell place image) = is_on place at
is_effect_on at (fills_extents load) = list_any (is_in at) load.extents
is_effect_on at leaves_pages = false

-- the cell of the k-th row of a load; free behind its last row
unfoldable pub loaded_cell : Load → ℕ → List ℕ
loaded_cell load k = if nat_lt k load.count then cell_bytes (Some (record { table = load.table; key = load.first + k; value = load.value })) else free_cell

-- the rows fill the extents in their order, 504 an extent, by rising page and slot: this is the first one of a page
abbrev pub first_row : Load → PageAt → ℕ
first_row load at = 504 * position_or_len (is_in at) load.extents + 63 * (at.page % 8)

unfoldable pub loaded_cells : Load → PageAt → List (List ℕ)
loaded_cells load at = map (λ slot. loaded_cell load (first_row load at + slot)) (range_with_len 0 63)

-- the cells of a page after an effect that is on it
abbrev pub cells_after : PageAt → Effect → List (List ℕ) → List (List ℕ)
cells_after at (sets_cell place image) cells = slice_set cells place.slot image
cells_after at (fills_extents load) cells = loaded_cells load at
cells_after at leaves_pages cells = cells

-- a record changes a page
abbrev pub touches : PageAt → Rec → Bool
touches at r = is_effect_on at (effect_of r.body)

-- a record fills the extent of a page
abbrev pub fills : PageAt → Rec → Bool
fills at r = fills_page at (effect_of r.body)

-- a page after a record
abbrev pub changed : PageAt → PageState → Rec → PageState
changed at page r = if touches at r then record { lsn = r.lsn; cells = cells_after at (effect_of r.body) page.cells } else page
