-- Committed rows with their places, as a list. That a row has one cell is this project's own.
use Rattle.std.specs.Prelude.{◌≡◌, ◌<◌, ◌⊎◌, List, [], ◌∷◌, Option, option_map}
use Rattle.std.specs.List.{find}
use Rattle.bk_world.specs.declared.row.PlacedRow.{PlacedRow}
use Rattle.bk_world.specs.Places.{homes}
use Rattle.bk_world.specs.Records.{Logged, RowId, is_row}
use Rattle.bk_world.specs.Telling as telling
use Rattle.bk_world.specs.Telling.{row_at}

-- a row's table and key
abbrev pub row_id : PlacedRow → RowId
row_id row = (row.table, row.key)

-- the row of this table and key, if it is listed
abbrev pub among : List PlacedRow → RowId → Option PlacedRow
among rows id = find (λ (row : PlacedRow). is_row (row_id row) id) rows

-- a row comes before another: its table is lower, or it is the same and its key is
abbrev pub ComesBefore : PlacedRow → PlacedRow → Type 0
ComesBefore a b = (a.table < b.table) ⊎ ((a.table ≡ b.table) × (a.key < b.key))

-- rows rise by table and key
abbrev pub RowsRise : List PlacedRow → Type 0
RowsRise [] = Unit {0}
RowsRise (a ∷ []) = Unit {0}
RowsRise (a ∷ b ∷ rows) = ComesBefore a b × RowsRise (b ∷ rows)

-- these are the committed rows of a log, each in its cell
pub record AreRowsOf (rs : List Logged) (rows : List PlacedRow) : Type 0 where
  pub values : (id : RowId) → row_at (telling.rows rs id.0) id.1 ≡ option_map (λ (row : PlacedRow). row.value) (among rows id)
  pub places : (id : RowId) → homes rs id ≡ option_map (λ (row : PlacedRow). row.place) (among rows id)
