-- The extents and cells of one data file.
use Rattle.std.specs.Prelude.{◌≡◌, ℕ, ◌+◌, ◌-◌, ◌*◌, ◌<◌, ◌≤◌, Bool, true, List, length, slice_set}
use Rattle.bk_groups.specs.Bits.{bit_of}

-- a data file: its filegroup, which of its extents were touched, and its free cells as bits of words
pub record FileSpace : Type 0 where
  pub group : ℕ
  pub touched : List Bool
  pub free : List ℕ

-- the number of a cell in its file: pages from 8 on have 63 cells each
abbrev pub cell_number : ℕ → ℕ → ℕ
cell_number page slot = (page - 8) * 63 + slot

-- 1 where a cell is free, else 0
abbrev pub free_bit : FileSpace → ℕ → ℕ → ℕ
free_bit space page slot = bit_of space.free (cell_number page slot)

-- the file has a cell at this page and slot
pub record HoldsCell (space : FileSpace) (page slot : ℕ) : Type 0 where
  pub first_page : 8 ≤ page
  pub last_page : page < 8 + 8 * length space.touched
  pub low_slot : slot < 63

-- only cells of the file are free, and there is a bit for each cell
pub record IsFileSpace (space : FileSpace) : Type 0 where
  pub small : length space.touched ≤ 4096
  pub room : 504 * length space.touched ≤ 64 * length space.free
  pub within : (cell : ℕ) → bit_of space.free cell ≡ 1 → cell < 504 * length space.touched

-- the bit of one cell is written, and nothing else changes
pub record WritesBit (old new : FileSpace) (page slot value : ℕ) : Type 0 where
  pub same_group : new.group ≡ old.group
  pub same_touched : new.touched ≡ old.touched
  pub bit : free_bit new page slot ≡ value
  pub others : (p s : ℕ) → 8 ≤ p → s < 63 → (p ≡ page → s ≡ slot → ⊥) → free_bit new p s ≡ free_bit old p s

-- the file with one more touched extent; extents count from 1
abbrev pub with_touched : FileSpace → ℕ → FileSpace
with_touched space extent = record space { touched = slice_set space.touched (extent - 1) true }
