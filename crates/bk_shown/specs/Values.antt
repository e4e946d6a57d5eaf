-- Which rows a cell can hold, and how a write of one is spelled.
use Rattle.std.specs.Prelude.{◌≡◌, ◌≤◌, ◌<◌, ℕ, ◌^◌, ◌||◌, true, List, length, Option, Some, None, is_some}
use Rattle.std.specs.Str.{IsUtf8}
use Rattle.bk_bytes.specs.Cell.{Row, cell_bytes}
use Rattle.bk_undo.specs.Spelled.{cell}
use Rattle.bk_world.specs.Records.{RowId}

-- a value of a row is a text of at most 112 bytes
abbrev pub IsValue : Option (List ℕ) → Type 0
IsValue None = Unit {0}
IsValue (Some text) = (length text ≤ 112) × IsUtf8 text

-- a row with a value before a write and one behind it: it is there before or behind it, and its key has at most 63 bits
pub record FitsRow (table key : ℕ) (before value : Option (List ℕ)) : Type 0 where
  pub table_fits : table < 2 ^ 32
  pub key_fits : key ≤ 9223372036854775807
  pub before_fits : IsValue before
  pub value_fits : IsValue value
  pub there : (is_some before || is_some value) ≡ true

-- the bytes of two cells are those of the row, before a write and behind it
pub record Spells (old new : List ℕ) (table key : ℕ) (before value : Option (List ℕ)) : Type 0 where
  pub fits : FitsRow table key before value
  pub old_is : old ≡ cell_bytes (cell table key before)
  pub new_is : new ≡ cell_bytes (cell table key value)

-- the row of a cell
abbrev pub id_in : Option Row → Option RowId
id_in None = None
id_in (Some row) = Some (row.table, row.key)

-- the value of a cell whose bytes are text
abbrev pub IsTextOf : Option Row → Option (List ℕ) → Type 0
IsTextOf None found = found ≡ None
IsTextOf (Some row) found = IsUtf8 row.value → found ≡ Some row.value
