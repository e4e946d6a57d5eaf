-- What is kept of rows: an entry for each that is committed or may be next, its table and key with its committed value, if it has one.
use Rattle.std.specs.Prelude.{◌≡◌, ℕ, ◌==◌, ◌||◌, Bool, false, List, [], ◌∷◌, Option, Some, None, is_some, filter, map, if◌then◌else◌, option_map}
use Rattle.std.specs.BTreeMap.{is_at}
use Rattle.std.specs.Map.{lookup}
use Rattle.bk_groups.specs.Groups.{Space, place_of, row_cmp}
use Rattle.bk_ids.specs.declared.record.Place.{Place}
use Rattle.bk_world.specs.PlacedRows.{among}
use Rattle.bk_world.specs.Records.{RowId, is_row}
use Rattle.bk_world.specs.declared.row.PlacedRow.{PlacedRow}

abbrev pub RowEntries : Type 0
RowEntries = List (RowId × Option (List ℕ))

-- the value of an entry, if there is one that has one
abbrev pub held : Option (Option (List ℕ)) → Option (List ℕ)
held None = None
held (Some value) = value

-- the entry of a row, if it has one
abbrev pub entry_among : RowEntries → RowId → Option (Option (List ℕ))
entry_among rows id = lookup (is_at (row_cmp id)) rows

-- whether a row has an entry
abbrev pub has_entry : RowEntries → RowId → Bool
has_entry rows id = is_some (entry_among rows id)

-- the value of a row, if it is committed
abbrev pub value_among : RowEntries → RowId → Option (List ℕ)
value_among rows id = held (entry_among rows id)

-- one row has this entry, or none, and all others are as they were
abbrev pub SetsEntry : RowEntries → RowEntries → RowId → Option (Option (List ℕ)) → Type 0
SetsEntry old new id entry = (other : RowId) → entry_among new other ≡ (if is_row id other then entry else entry_among old other)

-- what is committed stays, and a row has an entry besides those that have one
pub record Reserves (id : RowId) (old new : RowEntries) : Type 0 where
  pub values : (other : RowId) → value_among new other ≡ value_among old other
  pub entries : (other : RowId) → has_entry new other ≡ (is_row id other || has_entry old other)

-- what is committed stays, and all rows but some keep their entries
pub record KeepsRows (but : RowId → Bool) (old new : RowEntries) : Type 0 where
  pub values : (id : RowId) → value_among new id ≡ value_among old id
  pub entries : (id : RowId) → but id ≡ false → has_entry new id ≡ has_entry old id

-- these are the committed rows that have a place, with it
pub record ListsPlaced (space : Space) (rows : RowEntries) (listed : List PlacedRow) : Type 0 where
  pub values : (id : RowId) → option_map (λ (row : PlacedRow). row.value) (among listed id) ≡ (if is_some (place_of space id.0 id.1) then value_among rows id else None)
  pub places : (id : RowId) → option_map (λ (row : PlacedRow). row.place) (among listed id) ≡ (if is_some (value_among rows id) then place_of space id.0 id.1 else None)

-- ---- what is listed

-- committed rows, each its table and key with its value
abbrev pub RowValues : Type 0
RowValues = List (RowId × List ℕ)

-- a row before others, if it has a value
abbrev pub with_value : RowId → Option (List ℕ) → RowValues → RowValues
with_value id None rows = rows
with_value id (Some value) rows = (id, value) ∷ rows

-- the rows that are committed
abbrev pub committed_of : RowEntries → RowValues
committed_of [] = []
committed_of (e ∷ rows) = with_value e.0 e.1 (committed_of rows)

-- the keys and values of one table
abbrev pub rows_in : ℕ → RowValues → List (ℕ × List ℕ)
rows_in table rows = map (λ (e : RowId × List ℕ). (e.0.1, e.1)) (filter (λ (e : RowId × List ℕ). e.0.0 == table) rows)

-- a row before others, if it has a place
abbrev pub with_place : RowId × List ℕ → Option Place → List PlacedRow → List PlacedRow
with_place e None rows = rows
with_place e (Some at) rows = (record { table = e.0.0; key = e.0.1; value = e.1; place = at }) ∷ rows

-- the rows that have a place, with it
abbrev pub placed_in : Space → RowValues → List PlacedRow
placed_in space [] = []
placed_in space (e ∷ rows) = with_place e (place_of space e.0.0 e.0.1) (placed_in space rows)
