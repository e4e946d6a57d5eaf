-- What the groups keep: the bits of the files say which cells no row has.
use Rattle.std.specs.Prelude.{◌≡◌, ◌≢◌, ℕ, ◌-◌, ◌<◌, ◌^◌, List, [], length, map, slice_index_or, Some}
use Rattle.bk_ids.specs.declared.record.Place.{Place}
use Rattle.bk_groups.specs.FileSpace.{FileSpace, free_bit}
use Rattle.bk_world.specs.declared.database.FileSpec.{FileSpec}
use Rattle.bk_groups.specs.Groups.{Room, IsCell, place_among, untouched_room}

-- what is shown of a file
abbrev pub room_of : FileSpace → Room
room_of space = record { group = space.group; touched = space.touched }

abbrev pub rooms_of : List FileSpace → List Room
rooms_of files = map room_of files

abbrev pub no_space : FileSpace
no_space = record { group = 0; touched = []; free = [] }

-- 1 where the bit of a cell says that it is free
abbrev pub bit_at_place : List FileSpace → Place → ℕ
bit_at_place files at = free_bit (slice_index_or files (at.file - 1) no_space) at.page at.slot

-- The bits and the places agree.
pub record Agrees (rooms : List Room) (bit : Place → ℕ) (places : List ((ℕ × ℕ) × Place)) : Type 0 where
  -- the cell of a row is one of the files, and its bit says that it is taken
  pub cell : (row : ℕ × ℕ) (at : Place) → place_among places row ≡ Some at → IsCell rooms at
  pub taken : (row : ℕ × ℕ) (at : Place) → place_among places row ≡ Some at → bit at ≡ 0
  -- the bit of any other cell says that it is free
  pub free : (at : Place) → IsCell rooms at → ((row : ℕ × ℕ) → place_among places row ≢ Some at) → bit at ≡ 1
  -- no two rows have one cell
  pub alone : (row other : ℕ × ℕ) (at : Place) → place_among places row ≡ Some at → place_among places other ≡ Some at → row ≡ other

-- what the fields keep
pub record IsSound (files : List FileSpace) (places : List ((ℕ × ℕ) × Place)) : Type 0 where
  pub few : length files < 2 ^ 16
  pub agrees : Agrees (rooms_of files) (bit_at_place files) places

-- the files are these, no extent was touched, and all cells are free
pub record AreFree (specs : List FileSpec) (files : List FileSpace) : Type 0 where
  pub rooms : rooms_of files ≡ map untouched_room specs
  pub bits : (at : Place) → IsCell (rooms_of files) at → bit_at_place files at ≡ 1

-- The bit of one cell was written, and nothing else changes.
pub record WritesPlace (files new : List FileSpace) (at : Place) (value : ℕ) : Type 0 where
  pub rooms : rooms_of new ≡ rooms_of files
  pub len : length new ≡ length files
  pub bit : bit_at_place new at ≡ value
  pub others : (other : Place) → IsCell (rooms_of files) other → (other ≡ at → ⊥) → bit_at_place new other ≡ bit_at_place files other
