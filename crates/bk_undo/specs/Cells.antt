-- How the cells of pages, the places of rows, the pending writes and the committed rows belong together.
-- SQL Server: "Transaction Log Architecture and Management Guide". That a row has one cell is this project's own.
use Rattle.std.specs.Prelude.{◌≡◌, ◌<◌, ℕ, ◌==◌, ◌&&◌, Bool, List, [], ◌∷◌, Option, Some, None, if◌then◌else◌}
use Rattle.std.specs.List.{filter, AllByRecursion}
use Rattle.bk_bytes.specs.Cell.{Row, cell_bytes}
use Rattle.bk_ids.specs.declared.record.Place.{Place}
pub use Rattle.bk_world.specs.Records.{RowId, is_row}
use Rattle.bk_undo.specs.declared.pending.Pending.{Pending}

-- ---- what there is

-- a write of a row's cell: its number, that of its transaction's first record, and what the cell held before and after
pub record CellWrite : Type 0 where
  pub lsn : ℕ
  pub begin : ℕ
  pub row : RowId
  pub place : Place
  pub before : Option Row
  pub after : Option Row

-- what each cell holds, where each row lies that has a place, the writes that are pending, and the committed value of each row
pub record Stored : Type 0 where
  pub cells : Place → Option Row
  pub places : RowId → Option Place
  pub pending : List CellWrite
  pub rows : RowId → Option (List ℕ)

-- nothing was stored yet
abbrev pub nothing_stored : Stored
nothing_stored = record { cells = λ at. None; places = λ id. None; pending = []; rows = λ id. None }

-- two places are one
abbrev pub is_place : Place → Place → Bool
is_place a b = (a.file == b.file) && ((a.page == b.page) && (a.slot == b.slot))

-- the value that a cell holds, whichever row's
abbrev pub value_in : Option Row → Option (List ℕ)
value_in None = None
value_in (Some row) = Some row.value

-- the value of a row that a cell holds
abbrev pub row_in : Option Row → RowId → Option (List ℕ)
row_in None id = None
row_in (Some row) id = if is_row (row.table, row.key) id then Some row.value else None

-- a cell that is free, or holds this row
abbrev pub IsFreeOr : RowId → Option Row → Type 0
IsFreeOr id None = Unit {0}
IsFreeOr id (Some row) = (row.table, row.key) ≡ id

-- the pending writes at a place
abbrev pub writes_at : Place → List CellWrite → List CellWrite
writes_at at writes = filter (λ w. is_place at w.place) writes

-- these writes of one cell, one after the other, lead from what it held to what it holds now
abbrev pub LeadsTo : Option Row → List CellWrite → Option Row → Type 0
LeadsTo cell [] now = cell ≡ now
LeadsTo cell (w ∷ writes) now = (w.before ≡ cell) × LeadsTo w.after writes now

-- the rows once these writes are committed
abbrev pub rows_written : List CellWrite → (RowId → Option (List ℕ)) → RowId → Option (List ℕ)
rows_written [] rows id = rows id
rows_written (w ∷ writes) rows id = rows_written writes (λ other. if is_row w.row other then value_in w.after else rows other) id

-- ---- how it belongs together

-- a write is of the row that has its place, and leaves that row or a free cell
pub record IsOwn (places : RowId → Option Place) (w : CellWrite) : Type 0 where
  pub placed : places w.row ≡ Some w.place
  pub holds : IsFreeOr w.row w.after

-- writes lie by rising number
abbrev pub WritesRise : List CellWrite → Type 0
WritesRise [] = Unit {0}
WritesRise (w ∷ writes) = AllByRecursion (λ v. w.lsn < v.lsn) writes × WritesRise writes

-- Cells, places, pending writes and rows are tied.
pub record Tied (s : Stored) : Type 0 where
  -- what each cell held when all before was committed, from which the pending writes lead to what it holds
  pub committed : Place → Option Row
  pub leads : (at : Place) → LeadsTo (committed at) (writes_at at s.pending) (s.cells at)
  -- the row of a key is the committed cell at its place; without a place there is none
  pub rows : (id : RowId) (at : Place) → s.places id ≡ Some at → s.rows id ≡ row_in (committed at) id
  pub unplaced : (id : RowId) → s.places id ≡ None → s.rows id ≡ None
  -- a committed cell that is used has its key's place
  pub own : (at : Place) (row : Row) → committed at ≡ Some row → s.places (row.table, row.key) ≡ Some at
  -- so has each pending write
  pub written : AllByRecursion (IsOwn s.places) s.pending
  -- no two keys have one place, and no two transactions have pending writes at one place
  pub alone : (id other : RowId) (at : Place) → s.places id ≡ Some at → s.places other ≡ Some at → id ≡ other
  pub single : (at : Place) → (begin : ℕ) × AllByRecursion (λ w. w.begin ≡ begin) (writes_at at s.pending)
  pub rise : WritesRise s.pending

-- the used cells are exactly the rows, each in one place
pub record AreRows (s : Stored) : Type 0 where
  pub used : (at : Place) (row : Row) → s.cells at ≡ Some row → (s.rows (row.table, row.key) ≡ Some row.value) × (s.places (row.table, row.key) ≡ Some at)
  pub there : (id : RowId) (value : List ℕ) → s.rows id ≡ Some value → (at : Place) × (s.places id ≡ Some at) × (s.cells at ≡ Some (record { table = id.0; key = id.1; value = value }))

-- a pending write as the log's reader knows it
abbrev pub pending_of : CellWrite → Pending
pending_of w = record { lsn = w.lsn; begin = w.begin; place = w.place; before = record { bytes = cell_bytes w.before } }
