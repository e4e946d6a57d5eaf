-- What each kind of record makes of what is kept.
use Rattle.std.specs.Prelude.{◌≡◌, ◌<◌, ◌≤◌, ◌⊎◌, ℕ, ◌==◌, ◌&&◌, not, Bool, true, false, List, [], ◌∷◌, ◌++◌, filter, length, map, Option, Some, None, if◌then◌else◌, option_map}
use Rattle.std.specs.List.{AllByRecursion, find}
use Rattle.bk_groups.specs.Changes.{AddsTable, SetsPlace}
use Rattle.bk_groups.specs.Groups.{Space, IsCell, IsFreeCell, group_of, new_space, place_of as space_place}
use Rattle.bk_ids.specs.declared.record.Body.{Body}
use Rattle.bk_ids.specs.declared.record.Body.TheVariants.{Database, Table, Write, Commit, RollbackEnd, Compensation, Checkpoint, Stamp, Model, Bulk}
use Rattle.bk_ids.specs.declared.record.Place.{Place}
use Rattle.bk_ids.specs.declared.record.RecoveryModel.{RecoveryModel}
use Rattle.bk_ids.specs.declared.record.RecoveryModel.TheVariants.{Full}
use Rattle.bk_world.specs.PlacedRows.{RowsRise, among, row_id}
use Rattle.bk_world.specs.Pending.{Pending}
use Rattle.bk_world.specs.Records.{RowId, id_of, is_row}
use Rattle.bk_world.specs.declared.database.FileSpec.{FileSpec}
use Rattle.bk_world.specs.declared.database.TableSpec.{TableSpec}
use Rattle.bk_world.specs.declared.row.PlacedRow.{PlacedRow}
use Rattle.bk_shown.specs.Rows.{KeepsRows, Reserves, SetsEntry, has_entry, value_among}
use Rattle.bk_shown.specs.Shown.{AreNumbered, group_among, lies_at, pending_of}
use Rattle.bk_shown.specs.Values.{Spells}
use Rattle.bk_shown.specs.Writes.{HaveEntries, LetsGo, has_write, lacks_entry, others_of, own_of, row_of, value_after}
use Rattle.bk_shown.specs.declared.shown.Shown.{Shown}
use Rattle.bk_shown.specs.declared.shown.Written.{Written}

-- tables, model, time and end are as they were
pub record SamePoints (old new : Shown) : Type 0 where
  pub tables : new.tables.items ≡ old.tables.items
  pub model : new.model ≡ old.model
  pub time : new.time ≡ old.time
  pub «end» : new.«end» ≡ old.«end»

-- a transaction's pending writes are committed, one after the other
pub record Commits (begin : ℕ) (old new : Shown) : Type 0 where
  pub same : SamePoints old new
  pub written : new.written.items ≡ others_of begin old.written.items
  pub rows : (id : RowId) → value_among new.rows id ≡ value_after id (own_of begin old.written.items) (value_among old.rows id)
  pub entries : (id : RowId) → has_write (own_of begin old.written.items) id ≡ false → has_entry new.rows id ≡ has_entry old.rows id
  pub groups : LetsGo (λ id. has_write (own_of begin old.written.items) id) new.rows old.groups new.groups

-- the row of the write of this number, where there is one
abbrev pub row_numbered : List Written → ℕ → Option RowId
row_numbered ws number = option_map row_of (find (λ (w : Written). w.lsn == number) ws)

-- this is the row, where there is one
abbrev pub is_it : Option RowId → RowId → Bool
is_it None id = false
is_it (Some row) id = is_row row id

-- a write is taken out, and its row's place ends where it has no other pending write and isn't committed
pub record Undoes (undone : ℕ) (old new : Shown) : Type 0 where
  pub same : SamePoints old new
  pub written : new.written.items ≡ filter (λ (w : Written). not (w.lsn == undone)) old.written.items
  pub rows : KeepsRows (λ id. not (has_write new.written.items id)) old.rows new.rows
  pub groups : LetsGo (λ id. is_it (row_numbered old.written.items undone) id && not (has_write new.written.items id)) new.rows old.groups new.groups

-- a row may lie here: it does, or it has no place and the cell is free
abbrev pub MayLie : Space → RowId → Place → Type 0
MayLie space id at = (space_place space id.0 id.1 ≡ Some at) ⊎ ((space_place space id.0 id.1 ≡ None) × (IsCell space.rooms at × IsFreeCell space at))

-- a row lies here, and nothing else changes
pub record KeepsPlace (id : RowId) (at : Place) (old new : Space) : Type 0 where
  pub rooms : new.rooms ≡ old.rooms
  pub tables : new.tables ≡ old.tables
  pub places : (other : RowId) → space_place new other.0 other.1 ≡ (if is_row id other then Some at else space_place old other.0 other.1)

-- a write is pending, and its row lies in its cell and has an entry
pub record WritesRow (write : Written) (old new : Shown) : Type 0 where
  pub same : SamePoints old new
  pub written : new.written.items ≡ old.written.items ++ write ∷ []
  pub rows : Reserves (row_of write) old.rows new.rows
  pub groups : KeepsPlace (row_of write) write.place old.groups new.groups

-- a table may be made under a number and a name
abbrev pub MayMake : Space → ℕ → List ℕ → Type 0
MayMake space number name = (group_of space number ≡ None) × ((0 < length name) × (length name ≤ 64))

-- there is one more table
pub record MakesTable (made : TableSpec) (old new : Shown) : Type 0 where
  pub tables : new.tables.items ≡ old.tables.items ++ made ∷ []
  pub rows : new.rows ≡ old.rows
  pub written : new.written.items ≡ old.written.items
  pub groups : AddsTable old.groups new.groups made.number made.group
  pub model : new.model ≡ old.model
  pub time : new.time ≡ old.time
  pub «end» : new.«end» ≡ old.«end»

-- what the body of a record makes of tables, rows, pending writes and places
abbrev pub TakesBody : ℕ → ℕ → Body → Shown → Shown → Type 0
TakesBody lsn begin (Table time number name group) old new = MakesTable (record { number = number; name = name; group = group }) old new
TakesBody lsn begin (Write at before after) old new =
    (table key : ℕ) (b v : Option (List ℕ)) → Spells before.bytes after.bytes table key b v
    → WritesRow (record { lsn = lsn; begin = begin; place = at; table = table; key = key; before = b; value = v }) old new
TakesBody lsn begin (Commit time mark) old new = Commits begin old new
TakesBody lsn begin (Compensation at image undone) old new = Undoes undone old new
TakesBody lsn begin (Bulk table first count value extents) old new = ⊥
TakesBody lsn begin _ old new = new ≡ old

-- where a body isn't taken
abbrev pub IsUnfit : ℕ → Body → Shown → Type 0
IsUnfit begin (Table time number name group) old = MayMake old.groups number name → ⊥
IsUnfit begin (Write at before after) old = (table key : ℕ) (b v : Option (List ℕ)) → Spells before.bytes after.bytes table key b v → MayLie old.groups (table, key) at → at.slot < 63 → ⊥
IsUnfit begin (Commit time mark) old = lacks_entry begin old.rows old.written.items ≡ true
IsUnfit begin (Bulk table first count value extents) old = Unit {0}
IsUnfit begin _ old = ⊥

-- a body that isn't taken without memory
abbrev pub Grows : Body → Type 0
Grows (Table time number name group) = Unit {0}
Grows (Write at before after) = Unit {0}
Grows (Bulk table first count value extents) = Unit {0}
Grows _ = ⊥

-- where a body isn't taken without memory
abbrev pub IsUnfitReserved : ℕ → Body → Shown → Type 0
IsUnfitReserved begin body old = Grows body ⊎ IsUnfit begin body old

-- the recovery model behind a record
abbrev pub model_behind : Body → RecoveryModel → RecoveryModel
model_behind (Database time family branch) before = Full
model_behind (Model time model) before = model
model_behind _ before = before

-- the last time behind a record
abbrev pub time_behind : Body → ℕ → ℕ
time_behind (Database time family branch) before = time
time_behind (Table time number name group) before = time
time_behind (Commit time mark) before = time
time_behind (Checkpoint time) before = time
time_behind (Stamp time set) before = time
time_behind (Model time model) before = time
time_behind _ before = before

-- ---- the end of a log

-- what the body of a record makes of the pending writes before it
abbrev pub NotesBody : ℕ → ℕ → Body → List Written → List Written → Type 0
NotesBody lsn begin (Write at before after) old new =
    (table key : ℕ) (b v : Option (List ℕ)) → Spells before.bytes after.bytes table key b v
    → new ≡ old ++ (record { lsn = lsn; begin = begin; place = at; table = table; key = key; before = b; value = v }) ∷ []
NotesBody lsn begin (Commit time mark) old new = new ≡ others_of begin old
NotesBody lsn begin RollbackEnd old new = new ≡ others_of begin old
NotesBody lsn begin (Compensation at image undone) old new = new ≡ filter (λ (w : Written). not (w.begin == begin && w.lsn == undone)) old
NotesBody lsn begin (Bulk table first count value extents) old new = ⊥
NotesBody lsn begin _ old new = new ≡ old

-- where a body isn't noted
abbrev pub IsUnnoted : Body → Type 0
IsUnnoted (Write at before after) = (table key : ℕ) (b v : Option (List ℕ)) → Spells before.bytes after.bytes table key b v → at.slot < 63 → ⊥
IsUnnoted (Bulk table first count value extents) = Unit {0}
IsUnnoted _ = ⊥

-- ---- a log from its tables, its rows and its pending writes

-- tables and committed rows are these, and nothing is pending
pub record HasRows (files : List FileSpec) (made : List TableSpec) (listed : List PlacedRow) (s : Shown) : Type 0 where
  pub tables : s.tables.items ≡ made
  pub rows : (id : RowId) → value_among s.rows id ≡ option_map (λ (row : PlacedRow). row.value) (among listed id)
  pub written : s.written.items ≡ []
  pub places : (id : RowId) → space_place s.groups id.0 id.1 ≡ option_map (λ (row : PlacedRow). row.place) (among listed id)
  pub rooms : s.groups.rooms ≡ (new_space files).rooms
  pub groups : AreNumbered 1 made → (number : ℕ) → group_of s.groups number ≡ group_among made number

-- a row is new, and its cell is free
pub record MayAdd (space : Space) (row : PlacedRow) : Type 0 where
  pub none : space_place space row.table row.key ≡ None
  pub cell : IsCell space.rooms row.place
  pub free : IsFreeCell space row.place

-- there is one committed row more
pub record AddsRow (row : PlacedRow) (old new : Shown) : Type 0 where
  pub none : space_place old.groups row.table row.key ≡ None
  pub tables : new.tables.items ≡ old.tables.items
  pub written : new.written.items ≡ old.written.items
  pub rows : SetsEntry old.rows new.rows (row_id row) (Some (Some row.value))
  pub groups : SetsPlace old.groups new.groups row.table row.key (Some row.place)

-- rows that rise, each in a cell of the files, no two in one
pub record MayHold (files : List FileSpec) (listed : List PlacedRow) : Type 0 where
  pub rise : RowsRise listed
  pub cells : AllByRecursion (λ (row : PlacedRow). IsCell ((new_space files).rooms) row.place) listed
  pub alone : (a b : RowId) (at : Place) → option_map (λ (row : PlacedRow). row.place) (among listed a) ≡ Some at → option_map (λ (row : PlacedRow). row.place) (among listed b) ≡ Some at → a ≡ b

-- where a row of some lies
abbrev pub home_among : List PlacedRow → RowId → Option Place
home_among listed id = option_map (λ (row : PlacedRow). row.place) (among listed id)

-- tables and committed rows are these, and these writes are pending, each row in its place
pub record HasWrites (files : List FileSpec) (made : List TableSpec) (listed : List PlacedRow) (ws : List Written) (s : Shown) : Type 0 where
  pub tables : s.tables.items ≡ made
  pub rows : (id : RowId) → value_among s.rows id ≡ option_map (λ (row : PlacedRow). row.value) (among listed id)
  pub written : s.written.items ≡ ws
  pub places : (id : RowId) → space_place s.groups id.0 id.1 ≡ lies_at (map pending_of ws) (home_among listed) id
  pub rooms : s.groups.rooms ≡ (new_space files).rooms
  pub groups : AreNumbered 1 made → (number : ℕ) → group_of s.groups number ≡ group_among made number
  pub entries : HaveEntries s.rows ws

-- writes that are pending over committed rows: each row has one place, in a cell of the files, no two in one
pub record MayPend (files : List FileSpec) (home : RowId → Option Place) (ws : List Pending) : Type 0 where
  pub placed : AllByRecursion (λ (w : Pending). lies_at ws home (id_of w.change) ≡ Some w.place) ws
  pub homed : (id : RowId) (at : Place) → home id ≡ Some at → lies_at ws home id ≡ Some at
  pub cells : AllByRecursion (λ (w : Pending). IsCell ((new_space files).rooms) w.place) ws
  pub alone : (a b : RowId) (at : Place) → lies_at ws home a ≡ Some at → lies_at ws home b ≡ Some at → a ≡ b
