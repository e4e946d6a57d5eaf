-- What each kind of log record does to cells, places, pending writes and rows.
-- SQL Server: "Transaction Log Architecture and Management Guide"; "BULK INSERT (Transact-SQL)".
use Rattle.std.specs.Prelude.{◌≡◌, ◌≢◌, ◌<◌, ℕ, ◌+◌, ◌==◌, not, false, List, [], ◌∷◌, ◌++◌, Option, Some, None, if◌then◌else◌}
use Rattle.std.specs.List.{filter, AllByRecursion}
use Rattle.bk_bytes.specs.Cell.{Row, cell_bytes}
use Rattle.bk_ids.specs.declared.record.Body.{Body}
use Rattle.bk_ids.specs.declared.record.Body.TheVariants.{Write, Commit, RollbackEnd, Compensation, Bulk}
use Rattle.bk_ids.specs.declared.record.CellImage.{CellImage}
use Rattle.bk_ids.specs.declared.record.Place.{Place}
use Rattle.bk_ids.specs.declared.record.Rec.{Rec}
use Rattle.bk_undo.specs.Cells.{RowId, CellWrite, Stored, is_place, is_row, IsFreeOr, writes_at, rows_written}

-- the cells, the places, the rows are as they were
abbrev pub SameCells : Stored → Stored → Type 0
SameCells old new = (at : Place) → new.cells at ≡ old.cells at

abbrev pub SamePlaces : Stored → Stored → Type 0
SamePlaces old new = (id : RowId) → new.places id ≡ old.places id

abbrev pub SameRows : Stored → Stored → Type 0
SameRows old new = (id : RowId) → new.rows id ≡ old.rows id

-- one cell holds something else
abbrev pub SetsCell : Stored → Place → Option Row → Stored → Type 0
SetsCell old at cell new = (p : Place) → new.cells p ≡ (if is_place p at then cell else old.cells p)

-- A write notes what the cell at its row's place holds and leaves that row or a free cell there. No other transaction has written it.
pub record WritesRow (lsn begin : ℕ) (at : Place) (before after : CellImage) (old new : Stored) : Type 0 where
  pub row : RowId
  pub cell : Option Row
  pub noted : before ≡ record { bytes = cell_bytes (old.cells at) }
  pub left : after ≡ record { bytes = cell_bytes cell }
  pub placed : old.places row ≡ Some at
  pub holds : IsFreeOr row cell
  pub unlocked : AllByRecursion (λ w. w.begin ≡ begin) (writes_at at old.pending)
  pub later : AllByRecursion (λ w. w.lsn < lsn) old.pending
  pub cells : SetsCell old at cell new
  pub pending : new.pending ≡ old.pending ++ (record { lsn = lsn; begin = begin; row = row; place = at; before = old.cells at; after = cell }) ∷ []
  pub places : SamePlaces old new
  pub rows : SameRows old new

-- a commit makes rows of the pending writes of its transaction, in their order
pub record CommitsRows (begin : ℕ) (old new : Stored) : Type 0 where
  pub pending : new.pending ≡ filter (λ w. not (w.begin == begin)) old.pending
  pub rows : (id : RowId) → new.rows id ≡ rows_written (filter (λ w. w.begin == begin) old.pending) old.rows id
  pub cells : SameCells old new
  pub places : SamePlaces old new

-- a compensation puts back what the last pending write at a place noted, one of its own transaction
pub record UndoesWrite (begin : ℕ) (at : Place) (image : CellImage) (undone : ℕ) (old new : Stored) : Type 0 where
  pub front : List CellWrite
  pub write : CellWrite
  pub back : List CellWrite
  pub whole : old.pending ≡ front ++ write ∷ back
  pub last : AllByRecursion (λ w. is_place at w.place ≡ false) back
  pub own : write.begin ≡ begin
  pub number : write.lsn ≡ undone
  pub place : write.place ≡ at
  pub noted : image ≡ record { bytes = cell_bytes write.before }
  pub cells : SetsCell old at write.before new
  pub pending : new.pending ≡ front ++ back
  pub places : SamePlaces old new
  pub rows : SameRows old new

-- The end of a rollback finds nothing of its transaction pending.
pub record EndsRollback (begin : ℕ) (old new : Stored) : Type 0 where
  pub none : AllByRecursion (λ w. (w.begin == begin) ≡ false) old.pending
  pub cells : SameCells old new
  pub pending : new.pending ≡ old.pending
  pub places : SamePlaces old new
  pub rows : SameRows old new

-- A minimal bulk load puts new rows into free cells that no row has. Its three records become durable together, so its rows count from this one on.
pub record LoadsRows (table first count : ℕ) (value : List ℕ) (old new : Stored) : Type 0 where
  pub at : ℕ → Place
  pub apart : (i j : ℕ) → i < count → j < count → at i ≡ at j → i ≡ j
  pub free : (i : ℕ) → i < count → old.cells (at i) ≡ None
  pub unowned : (i : ℕ) → i < count → (id : RowId) → old.places id ≢ Some (at i)
  pub new_keys : (i : ℕ) → i < count → old.places (table, first + i) ≡ None
  pub cells : (i : ℕ) → i < count → new.cells (at i) ≡ Some (record { table = table; key = first + i; value = value })
  pub other_cells : (p : Place) → ((i : ℕ) → i < count → at i ≢ p) → new.cells p ≡ old.cells p
  pub places : (i : ℕ) → i < count → new.places (table, first + i) ≡ Some (at i)
  pub other_places : (id : RowId) → ((i : ℕ) → i < count → (table, first + i) ≢ id) → new.places id ≡ old.places id
  pub rows : (i : ℕ) → i < count → new.rows (table, first + i) ≡ Some value
  pub other_rows : (id : RowId) → ((i : ℕ) → i < count → (table, first + i) ≢ id) → new.rows id ≡ old.rows id
  pub pending : new.pending ≡ old.pending

-- any other record leaves all as it is
pub record LeavesRows (old new : Stored) : Type 0 where
  pub cells : SameCells old new
  pub pending : new.pending ≡ old.pending
  pub places : SamePlaces old new
  pub rows : SameRows old new

-- what a record does
abbrev pub BodyGoes : ℕ → ℕ → Body → Stored → Stored → Type 0
BodyGoes lsn begin (Write at before after) old new = WritesRow lsn begin at before after old new
BodyGoes lsn begin (Commit time mark) old new = CommitsRows begin old new
BodyGoes lsn begin RollbackEnd old new = EndsRollback begin old new
BodyGoes lsn begin (Compensation at image undone) old new = UndoesWrite begin at image undone old new
BodyGoes lsn begin (Bulk table first count value extents) old new = LoadsRows table first count value old new
BodyGoes lsn begin _ old new = LeavesRows old new

abbrev pub Goes : Rec → Stored → Stored → Type 0
Goes r old new = BodyGoes r.lsn r.begin r.body old new

-- a row without a place gets a free cell that no row has
pub record GivesPlace (row : RowId) (at : Place) (old new : Stored) : Type 0 where
  pub none : old.places row ≡ None
  pub free : old.cells at ≡ None
  pub unowned : (id : RowId) → old.places id ≢ Some at
  pub cells : SameCells old new
  pub pending : new.pending ≡ old.pending
  pub places : (id : RowId) → new.places id ≡ (if is_row row id then Some at else old.places id)
  pub rows : SameRows old new

-- a row that isn't committed gives up its place, where no write is pending
pub record EndsPlace (row : RowId) (at : Place) (old new : Stored) : Type 0 where
  pub placed : old.places row ≡ Some at
  pub no_row : old.rows row ≡ None
  pub settled : writes_at at old.pending ≡ []
  pub cells : SameCells old new
  pub pending : new.pending ≡ old.pending
  pub places : (id : RowId) → new.places id ≡ (if is_row row id then None else old.places id)
  pub rows : SameRows old new
