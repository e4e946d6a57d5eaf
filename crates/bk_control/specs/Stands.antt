-- What stands in a control file, and what a step of a write does to it.
use Rattle.std.specs.Prelude.{◌≡◌, ◌≢◌, ◌≤◌, ◌<◌, ◌⊎◌, ◌+◌, ◌==◌, max, ℕ, Bool, List, length, take, slice_index, Some}
use Rattle.bk_device.specs.Calls.{read_at}
use Rattle.bk_lemmas.specs.Numbers.{number_bytes}
use Rattle.bk_control.specs.declared.side.Side.{Side}
use Rattle.bk_control.specs.Slots.{Slot, slot_at, counting, other, place, magic}

-- This slot of the file counts, and the other's gate byte, where it is there, is 1 or not.
pub record Holds (side : Side) (is_other_open : Bool) (slot : Slot) (file : List ℕ) : Type 0 where
  pub here : slot_at file (place side) ≡ Some slot
  pub counts : counting file ≡ Some slot
  pub gate : place (other side) + 9 ≤ length file → is_other_open ≡ (slice_index file (place (other side) + 8) == 1)

-- the same of a file that has both slots in their whole length
pub record Stands (side : Side) (is_other_open : Bool) (slot : Slot) (file : List ℕ) : Type 0 where
  pub whole : 131200 ≤ length file
  pub here : slot_at file (place side) ≡ Some slot
  pub counts : counting file ≡ Some slot
  pub gate : is_other_open ≡ (slice_index file (place (other side) + 8) == 1)

-- both slots are there in their whole length, and closed
pub record IsBlank (file : List ℕ) : Type 0 where
  pub whole : 131200 ≤ length file
  pub first : slice_index file 8 ≢ 1
  pub second : slice_index file 65608 ≢ 1

-- behind a file came any bytes, up to this length at most
pub record Grows (most : ℕ) (before after : List ℕ) : Type 0 where
  pub front : take (length before) after ≡ before
  pub short : length after ≤ max (length before) most

-- behind a shorter file came zeros, up to this length
pub record Lengthens (len : ℕ) (before after : List ℕ) : Type 0 where
  pub front : take (length before) after ≡ before
  pub size : length after ≡ max (length before) len
  pub zeros : (k : ℕ) → length before ≤ k → slice_index after k ≡ 0

-- in a slot but its gate byte stand the magic, this sequence and these bytes
pub record IsFilled (at : ℕ) (slot : Slot) (file : List ℕ) : Type 0 where
  pub mark : read_at file at 8 ≡ magic
  pub sequence : read_at file (at + 16) 8 ≡ number_bytes slot.sequence
  pub size : read_at file (at + 24) 8 ≡ number_bytes (length slot.bytes)
  pub bytes : read_at file (at + 32) (length slot.bytes) ≡ slot.bytes

-- one slot was changed, but for its gate byte
pub record ChangesSlot (at : ℕ) (before after : List ℕ) : Type 0 where
  pub same_length : length after ≡ length before
  pub outside : (k : ℕ) → k < length before → (k < at) ⊎ (at + 65600 ≤ k) ⊎ (k ≡ at + 8) → slice_index after k ≡ slice_index before k

-- one slot now holds this, and the other what it held
pub record Rewrites (side : Side) (slot : Slot) (before after : List ℕ) : Type 0 where
  pub whole : 131200 ≤ length after
  pub here : slot_at after (place side) ≡ Some slot
  pub there : slot_at after (place (other side)) ≡ slot_at before (place (other side))

-- a slot may be overwritten by one of these without a doubt about which counts
abbrev pub MayFollow : Slot → Slot → Type 0
MayFollow old new = (old.sequence < new.sequence) ⊎ (old.bytes ≡ new.bytes)
