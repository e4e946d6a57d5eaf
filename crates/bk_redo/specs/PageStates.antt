-- Pages as the log sees them.
use Rattle.std.specs.Prelude.{ℕ, List, None, map, replicate}
use Rattle.std.specs.List.{range_with_len}
use Rattle.bk_bytes.specs.Cell.{cell_bytes}
use Rattle.bk_page.specs.Page.{lsn_of, cell_at}

-- a page: the number of the last record that changed it, and its 63 cells
pub record PageState : Type 0 where
  pub lsn : ℕ
  pub cells : List (List ℕ)

-- the bytes of a free cell
unfoldable pub free_cell : List ℕ
free_cell = cell_bytes None

-- a page before any record
unfoldable pub fresh : PageState
fresh = record { lsn = 0; cells = replicate 63 free_cell }

-- the cells that the 8192 bytes of a page hold
unfoldable pub cells_of : List ℕ → List (List ℕ)
cells_of bytes = map (cell_at bytes) (range_with_len 0 63)

-- the page that 8192 bytes hold
abbrev pub page_of : List ℕ → PageState
page_of bytes = record { lsn = lsn_of bytes; cells = cells_of bytes }
