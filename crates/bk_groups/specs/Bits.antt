-- Lists of words of 64 bits.
use Rattle.std.specs.Prelude.{◌≡◌, ◌≢◌, ℕ, ◌*◌, ◌/◌, ◌%◌, ◌^◌, ◌<◌, ◌≤◌, List, length, slice_index}
use Rattle.std.specs.Int.{bit_at}

-- a bit, 0 or 1; it is 0 past the last word
abbrev pub bit_of : List ℕ → ℕ → ℕ
bit_of words i = bit_at (slice_index words (i / 64)) (i % 64)

-- a bit is set, and nothing else changes
pub record SetsBit (old new : List ℕ) (i : ℕ) : Type 0 where
  pub len : length new ≡ length old
  pub bit : bit_of new i ≡ 1
  pub others : (other : ℕ) → other ≢ i → bit_of new other ≡ bit_of old other
  pub words : (word : ℕ) → word ≢ i / 64 → slice_index new word ≡ slice_index old word

-- a bit is cleared, and nothing else changes
pub record ClearsBit (old new : List ℕ) (i : ℕ) : Type 0 where
  pub len : length new ≡ length old
  pub bit : bit_of new i ≡ 0
  pub others : (other : ℕ) → other ≢ i → bit_of new other ≡ bit_of old other
  pub words : (word : ℕ) → word ≢ i / 64 → slice_index new word ≡ slice_index old word

-- the bits of marks say which words aren't 0
pub record IsIndex (words marks : List ℕ) : Type 0 where
  pub small : length words < 2 ^ 40
  pub small_index : length marks < 2 ^ 40
  pub room : length words ≤ 64 * length marks
  pub closed : (word : ℕ) → bit_of marks word ≡ 0 → slice_index words word ≡ 0
  pub opened : (word : ℕ) → bit_of marks word ≡ 1 → 0 < slice_index words word
