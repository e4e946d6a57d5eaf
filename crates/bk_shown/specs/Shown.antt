-- What is kept of a log in memory: it is what the log says.
-- SQL Server: "Transaction Log Architecture and Management Guide". That a row has one cell is this project's own.
use Rattle.std.specs.Prelude.{◌≡◌, ◌<◌, ◌≤◌, ℕ, ◌+◌, ◌^◌, ◌==◌, true, List, [], ◌∷◌, ◌++◌, map, length, Option, Some, option_map}
use Rattle.std.specs.List.{AllByRecursion, find, list_any}
use Rattle.bk_groups.specs.Groups.{AreFiles, new_space, group_of, place_of as space_place}
use Rattle.bk_ids.specs.declared.record.Place.{Place}
use Rattle.bk_ids.specs.declared.record.RecoveryModel.{RecoveryModel}
use Rattle.bk_world.specs.declared.database.FileSpec.{FileSpec}
use Rattle.bk_world.specs.declared.database.TableSpec.{TableSpec}
use Rattle.bk_world.specs.declared.row.PlacedRow.{PlacedRow}
use Rattle.bk_world.specs.Pending as log
use Rattle.bk_world.specs.Pending.{Pending}
use Rattle.bk_world.specs.PlacedRows.{AreRowsOf, RowsRise}
use Rattle.bk_world.specs.Places.{homes, last_of, place_behind, place_of, IsCellOf, IsFreePlace}
use Rattle.bk_world.specs.ReadingLaws.{LieAt}
use Rattle.bk_world.specs.Records.{Counts, Deed, Logged, RowId, table_made, written, loaded, id_of, is_row}
use Rattle.bk_world.specs.SoundLogs.{MayCome, IsSound, NoLoadPends}
use Rattle.bk_world.specs.Telling as telling
use Rattle.bk_world.specs.Telling.{row_at}
use Rattle.bk_shown.specs.Ends.{HoldsPending}
use Rattle.bk_shown.specs.Rows.{value_among}
use Rattle.bk_shown.specs.Values.{FitsRow}
use Rattle.bk_shown.specs.Writes.{HaveEntries}
use Rattle.bk_shown.specs.declared.shown.Shown.{Shown}
use Rattle.bk_shown.specs.declared.shown.Written.{Written}

-- a write as the log says it is pending
abbrev pub pending_of : Written → Pending
pending_of w = record { lsn = w.lsn; begin = w.begin; place = w.place; before = w.before; change = record { table = w.table; key = w.key; value = w.value }; extents = [] }

-- the group of a table, if it is made
abbrev pub group_among : List TableSpec → ℕ → Option ℕ
group_among made number = option_map (λ (t : TableSpec). t.group) (find (λ (t : TableSpec). t.number == number) made)

-- tables are numbered in the order in which they were made
abbrev pub AreNumbered : ℕ → List TableSpec → Type 0
AreNumbered n [] = Unit {0}
AreNumbered n (t ∷ made) = (t.number ≡ n) × AreNumbered (n + 1) made

-- all pending writes of a row are of one transaction
abbrev pub OneWriter : List Pending → RowId → Type 0
OneWriter ws id = (begin : ℕ) × AllByRecursion (λ w. is_row (id_of w.change) id ≡ true → w.begin ≡ begin) ws

-- where a row lies that has these pending writes and this place as a committed row
abbrev pub lies_at : List Pending → (RowId → Option Place) → RowId → Option Place
lies_at ws home id = place_behind (last_of id ws) (home id)

-- Pending writes and committed rows agree on where a row lies.
pub record PlacesAgree (ws : List Pending) (home : RowId → Option Place) : Type 0 where
  pub single : (id : RowId) → OneWriter ws id
  pub placed : AllByRecursion (λ w. lies_at ws home (id_of w.change) ≡ Some w.place) ws
  pub homed : (id : RowId) (at : Place) → home id ≡ Some at → lies_at ws home id ≡ Some at

-- What each log has whose records came one behind the other, no minimal load among them, up to below an end.
pub record LogKeeps (rs : List Logged) («end» : ℕ) : Type 0 where
  pub counts : Counts 1 rs «end»
  pub sound : IsSound rs
  pub loads : NoLoadPends rs
  pub lie : LieAt (log.pending rs) «end»
  pub numbers : AreNumbered 1 (telling.tables rs)
  pub places : PlacesAgree (log.pending rs) (homes rs)

-- a write changes a row of a table, in a cell of the table's group; a table gets the next number, and a name of 1 to 64 bytes; minimal
-- loads aren't kept yet
abbrev pub IsPlaced : List FileSpec → List TableSpec → Deed → Type 0
IsPlaced files made (written at before c) = FitsRow c.table c.key before c.value × ((t : TableSpec) × ((find (λ (t : TableSpec). t.number == c.table) made ≡ Some t) × IsCellOf files t.group at))
IsPlaced files made (table_made time spec) = (spec.number ≡ length made + 1) × ((0 < length spec.name) × (length spec.name ≤ 64))
IsPlaced files made (loaded load) = ⊥
IsPlaced files made _ = Unit {0}

-- and so is each of some records behind others, by the tables that were made before it
abbrev pub ArePlaced : List FileSpec → List Logged → List Logged → Type 0
ArePlaced files before [] = Unit {0}
ArePlaced files before (r ∷ rs) = IsPlaced files (telling.tables before) r.deed × ArePlaced files (before ++ r ∷ []) rs

-- tables, committed rows, pending writes and places are the log's, and each row with a pending write has an entry
pub record ShowsRows (files : List FileSpec) (rs : List Logged) (s : Shown) : Type 0 where
  pub tables : s.tables.items ≡ telling.tables rs
  pub rows : (id : RowId) → value_among s.rows id ≡ row_at (telling.rows rs id.0) id.1
  pub pending : map pending_of s.written.items ≡ log.pending rs
  pub entries : HaveEntries s.rows s.written.items
  pub places : (id : RowId) → space_place s.groups id.0 id.1 ≡ place_of rs id
  pub rooms : s.groups.rooms ≡ (new_space files).rooms
  pub groups : (number : ℕ) → group_of s.groups number ≡ group_among (telling.tables rs) number

-- What is kept is what a log in these files shows.
pub record Shows (files : List FileSpec) (rs : List Logged) (s : Shown) : Type 0 where
  pub files_are : AreFiles files
  pub log : LogKeeps rs s.«end»
  pub placed : ArePlaced files [] rs
  pub kept : ShowsRows files rs s
  pub model : s.model ≡ telling.model rs
  pub time : s.time ≡ telling.time rs

-- A record may come next in a log in these files.
pub record IsNext (files : List FileSpec) (rs : List Logged) (r : Logged) : Type 0 where
  pub number : r.lsn ≡ length rs + 1
  pub low : r.lsn < 2 ^ 62
  pub may : MayCome rs r.lsn r.begin r.deed
  pub placed : IsPlaced files (telling.tables rs) r.deed

-- some records may come next, one behind the other
abbrev pub AreNext : List FileSpec → List Logged → List Logged → Type 0
AreNext files rs [] = Unit {0}
AreNext files rs (r ∷ next) = IsNext files rs r × AreNext files (rs ++ r ∷ []) next

-- each row that has a place lies in a cell of its table's group
abbrev pub LieInCells : List FileSpec → List Logged → Type 0
LieInCells files rs = (id : RowId) (at : Place) → place_of rs id ≡ Some at
    → (t : TableSpec) × (find (λ (t : TableSpec). t.number == id.0) (telling.tables rs) ≡ Some t) × IsCellOf files t.group at

-- a row is of a table that was made, with a key of at most 63 bits and a text of at most 112 bytes
pub record IsFit (made : List TableSpec) (row : PlacedRow) : Type 0 where
  pub of_table : list_any (λ (t : TableSpec). t.number == row.table) made ≡ true
  pub low_key : row.key ≤ 9223372036854775807
  pub short : length row.value ≤ 112

-- A log in these files: its tables, its committed rows in their order, bytes of its end that hold what is pending, its recovery model, its last time,
-- its end.
pub record IsOf (files : List FileSpec) (rs : List Logged) (made : List TableSpec) (rows : List PlacedRow) (held : List ℕ) (of_model : RecoveryModel) (of_time «end» : ℕ) : Type 0 where
  pub counts : Counts 1 rs «end»
  pub sound : IsSound rs
  pub placed : ArePlaced files [] rs
  pub tables : telling.tables rs ≡ made
  pub committed : AreRowsOf rs rows
  pub rise : RowsRise rows
  pub first : ℕ
  pub holds : HoldsPending rs first held
  pub model : telling.model rs ≡ of_model
  pub time : telling.time rs ≡ of_time

-- a cell is free for a new row of a table: it is one of the table's group, and no row lies there
pub record IsFreeFor (files : List FileSpec) (rs : List Logged) (table : ℕ) (at : Place) : Type 0 where
  pub spec : TableSpec
  pub there : find (λ (t : TableSpec). t.number == table) (telling.tables rs) ≡ Some spec
  pub cell : IsCellOf files spec.group at
  pub free : IsFreePlace rs at
