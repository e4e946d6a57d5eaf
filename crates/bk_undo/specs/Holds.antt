-- What a store holds of a log of the machine: its cells, places, pending writes and rows are what the log says.
-- SQL Server: "Transaction Log Architecture and Management Guide". That a row has one cell is this project's own.
use Rattle.std.specs.Prelude.{◌≡◌, ℕ, List, [], ◌∷◌, ◌++◌, map, Option, Some, if◌then◌else◌}
use Rattle.bk_ids.specs.declared.record.Place.{Place}
use Rattle.bk_world.specs.Entry.{RowChange}
use Rattle.bk_world.specs.Pending.{Pending, pending}
use Rattle.bk_world.specs.Places.{homes, place_of}
use Rattle.bk_world.specs.Records.{Logged, RowId, id_of, is_row}
use Rattle.bk_world.specs.Telling.{row_at, rows}
use Rattle.bk_undo.specs.Cells.{CellWrite, Stored, Tied, is_place}
use Rattle.bk_undo.specs.Spelled.{cell}

-- a pending write as one of a cell
abbrev pub cell_write : Pending → CellWrite
cell_write w = record {
  lsn = w.lsn;
  begin = w.begin;
  row = id_of w.change;
  place = w.place;
  before = cell w.change.table w.change.key w.before;
  after = cell w.change.table w.change.key w.change.value;
}

-- what is stored is what a log says
pub record Holds (rs : List Logged) (s : Stored) : Type 0 where
  pub tied : Tied s
  pub pending : s.pending ≡ map cell_write (pending rs)
  pub rows : (id : RowId) → s.rows id ≡ row_at (rows rs id.0) id.1
  pub places : (id : RowId) → s.places id ≡ place_of rs id
  -- a committed row lies where it lay when it was committed
  pub homes : (id : RowId) (at : Place) → homes rs id ≡ Some at → s.places id ≡ Some at

-- what is stored once a row is written
unfoldable pub wrote : Stored → ℕ → ℕ → Place → Option (List ℕ) → RowChange → Stored
wrote s n begin at before c = record {
  cells = λ p. if is_place p at then cell c.table c.key c.value else s.cells p;
  places = λ id. if is_row (id_of c) id then Some at else s.places id;
  pending = s.pending ++ cell_write (record { lsn = n; begin = begin; place = at; before = before; change = c; extents = [] }) ∷ [];
  rows = s.rows;
}
