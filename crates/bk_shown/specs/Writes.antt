-- Pending writes, and what becomes of rows and places behind them.
use Rattle.std.specs.Prelude.{◌≡◌, ℕ, ◌==◌, ◌&&◌, not, Bool, true, List, [], ◌∷◌, filter, Option, None, is_some, if◌then◌else◌, option_map}
use Rattle.std.specs.List.{AllByRecursion, list_any, find}
use Rattle.bk_groups.specs.Groups.{Space, place_of as space_place}
use Rattle.bk_world.specs.Records.{RowId, is_row}
use Rattle.bk_shown.specs.Rows.{RowEntries, has_entry, value_among}
use Rattle.bk_shown.specs.declared.shown.Written.{Written}

-- the row that is written
abbrev pub row_of : Written → RowId
row_of w = (w.table, w.key)

-- the writes of one transaction, and those of all others
abbrev pub own_of : ℕ → List Written → List Written
own_of begin ws = filter (λ (w : Written). w.begin == begin) ws

abbrev pub others_of : ℕ → List Written → List Written
others_of begin ws = filter (λ (w : Written). not (w.begin == begin)) ws

-- the value of a row behind some writes
abbrev pub value_after : RowId → List Written → Option (List ℕ) → Option (List ℕ)
value_after id [] value = value
value_after id (w ∷ ws) value = value_after id ws (if is_row (row_of w) id then w.value else value)

-- one of some writes is of this row
abbrev pub has_write : List Written → RowId → Bool
has_write ws id = list_any (λ (w : Written). is_row (row_of w) id) ws

-- among some rows those that aren't committed have no place any more, and nothing else changes
pub record LetsGo (among : RowId → Bool) (rows : RowEntries) (old new : Space) : Type 0 where
  pub rooms : new.rooms ≡ old.rooms
  pub tables : new.tables ≡ old.tables
  pub places : (id : RowId) → space_place new id.0 id.1 ≡ (if among id && not (is_some (value_among rows id)) then None else space_place old id.0 id.1)

-- a write of one of a transaction has handed on its value
abbrev pub spent : ℕ → Written → Written
spent begin w = record w { value = (if w.begin == begin then None else w.value) }

-- the row of one of a transaction's writes has no entry
abbrev pub lacks_entry : ℕ → RowEntries → List Written → Bool
lacks_entry begin rows ws = list_any (λ (w : Written). w.begin == begin && not (has_entry rows (row_of w))) ws

-- the row of each write has an entry
abbrev pub HaveEntries : RowEntries → List Written → Type 0
HaveEntries rows ws = AllByRecursion (λ (w : Written). has_entry rows (row_of w) ≡ true) ws

-- some writes are committed, one after the other: each has an entry, and it keeps it
pub record Settles (ws : List Written) (old new : RowEntries) : Type 0 where
  pub values : (id : RowId) → value_among new id ≡ value_after id ws (value_among old id)
  pub entries : (id : RowId) → has_entry new id ≡ has_entry old id

-- the transaction of the first write of a row
abbrev pub writer_of : List Written → RowId → Option ℕ
writer_of ws id = option_map (λ (w : Written). w.begin) (find (λ (w : Written). is_row (row_of w) id) ws)
