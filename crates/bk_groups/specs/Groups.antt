-- The filegroups of a database. SQL Server: "Database files and filegroups", "Pages and extents architecture guide".
use Rattle.std.specs.Prelude.{◌≡◌, ◌≢◌, ℕ, ◌+◌, ◌-◌, ◌*◌, ◌^◌, ◌<◌, ◌≤◌, ◌==◌, Bool, true, false, not, List, [], length, map, replicate, slice_index_or, slice_set, sum_by, count_by, Option, Some, if◌then◌else◌}
use Rattle.std.specs.Ordering.{nat_cmp, ordering_then}
use Rattle.std.specs.declared.cmp.Ordering.{Ordering}
use Rattle.std.specs.BTreeMap.{is_at}
use Rattle.std.specs.Map.{lookup}
use Rattle.bk_ids.specs.declared.record.Place.{Place}
use Rattle.bk_world.specs.declared.database.FileSpec.{FileSpec}

-- a data file: its filegroup, and which of its extents were touched
pub record Room : Type 0 where
  pub group : ℕ
  pub touched : List Bool

-- the data files, the filegroup of each table, and the place of each row that has one
pub record Space : Type 0 where
  pub rooms : List Room
  pub tables : List (ℕ × ℕ)
  pub places : List ((ℕ × ℕ) × Place)

-- a file without extents
abbrev pub no_room : Room
no_room = record { group = 0; touched = [] }

-- a file; files count from 1
abbrev pub room_at : List Room → ℕ → Room
room_at rooms file = slice_index_or rooms (file - 1) no_room

-- there is a file of this number
pub record HasFile (rooms : List Room) (file : ℕ) : Type 0 where
  pub first_file : 1 ≤ file
  pub last_file : file ≤ length rooms

-- the files have an extent; extents count from 1
pub record HasExtent (rooms : List Room) (file extent : ℕ) : Type 0 where
  pub has_file : HasFile rooms file
  pub first_extent : 1 ≤ extent
  pub last_extent : extent ≤ length ((room_at rooms file).touched)

-- the files have a cell: pages 0 to 7 of a file are header pages, and a page has 63 cells
pub record IsCell (rooms : List Room) (at : Place) : Type 0 where
  pub has_file : HasFile rooms at.file
  pub first_page : 8 ≤ at.page
  pub last_page : at.page < 8 + 8 * length ((room_at rooms at.file).touched)
  pub low_slot : at.slot < 63

-- the order of rows: by table, then by key
abbrev pub row_cmp : ℕ × ℕ → ℕ × ℕ → Ordering
row_cmp a b = ordering_then (nat_cmp a.0 b.0) (nat_cmp a.1 b.1)

-- the place of a row among some
abbrev pub place_among : List ((ℕ × ℕ) × Place) → ℕ × ℕ → Option Place
place_among places row = lookup (is_at (row_cmp row)) places

-- the place of the row with a key of a table, if it has one
abbrev pub place_of : Space → ℕ → ℕ → Option Place
place_of space table key = place_among space.places (table, key)

-- no row has the cell
abbrev pub IsFreeCell : Space → Place → Type 0
IsFreeCell space at = (table key : ℕ) → place_of space table key ≢ Some at

-- the filegroup of a table, if there is such a table
abbrev pub group_of : Space → ℕ → Option ℕ
group_of space table = lookup (is_at (nat_cmp table)) space.tables

-- the cell lies in a file of the filegroup
abbrev pub LiesIn : List Room → ℕ → Place → Type 0
LiesIn rooms group at = IsCell rooms at × ((room_at rooms at.file).group ≡ group)

-- how many extents of a file of the filegroup were never touched
abbrev pub fresh_in : ℕ → Room → ℕ
fresh_in group room = if room.group == group then count_by (λ touched. not touched) room.touched else 0

-- how many extents of a filegroup were never touched
abbrev pub fresh_extents : List Room → ℕ → ℕ
fresh_extents rooms group = sum_by (fresh_in group) rooms

-- a file of which no extent was touched
abbrev pub untouched_room : FileSpec → Room
untouched_room file = record { group = file.group; touched = replicate file.extents false }

-- no table, no row, no touched extent
abbrev pub new_space : List FileSpec → Space
new_space files = record { rooms = map untouched_room files; tables = []; places = [] }

-- the files with one more touched extent
abbrev pub with_touched : List Room → ℕ → ℕ → List Room
with_touched rooms file extent =
    slice_set rooms (file - 1) (record (room_at rooms file) { touched = slice_set ((room_at rooms file).touched) (extent - 1) true })

-- files are numbered 1, 2, .. in their order, fit a number of 16 bits, and have at most 4,096 extents each
pub record AreFiles (files : List FileSpec) : Type 0 where
  pub few : length files < 2 ^ 16
  pub numbers : (i : ℕ) (d : FileSpec) → i < length files → (slice_index_or files i d).number ≡ i + 1
  pub sizes : (i : ℕ) (d : FileSpec) → i < length files → (slice_index_or files i d).extents ≤ 4096
