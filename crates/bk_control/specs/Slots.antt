-- The bytes of a control file: two slots, of which one counts.
use Rattle.std.specs.Prelude.{◌+◌, ◌&&◌, ◌==◌, Bool, ℕ, nat_le, nat_lt, if◌then◌else◌, List, [], ◌∷◌, length, take, slice_index, Option, None, Some, option_map}
use Rattle.std.specs.Str.{bytes_eq}
use Rattle.bk_device.specs.Calls.{contents, read_at}
use Rattle.bk_lemmas.specs.Numbers.{number}
use Rattle.bk_control.specs.declared.side.Side.{Side}
use Rattle.bk_control.specs.declared.side.Side.TheVariants.{First, Second}

-- the letters SQLBAKC1
abbrev pub magic : List ℕ
magic = 83 ∷ 81 ∷ 76 ∷ 66 ∷ 65 ∷ 75 ∷ 67 ∷ 49 ∷ []

-- what an open slot holds
pub record Slot : Type 0 where
  pub sequence : ℕ
  pub bytes : List ℕ

-- a content of this length fits a slot, and stands whole in so many bytes of it
abbrev pub fits : ℕ → ℕ → Bool
fits size room = nat_le size 65536 && nat_le (32 + size) room

-- the bytes of a slot, as far as its file has them: the magic, a gate byte, seven bytes, a sequence, a length, and that
-- many bytes
unfoldable pub slot_in : List ℕ → Option Slot
slot_in slot = if bytes_eq (take 8 slot) magic && (slice_index slot 8 == 1) && fits (number (read_at slot 24 8)) (length slot)
    then Some (record { sequence = number (read_at slot 16 8); bytes = read_at slot 32 (number (read_at slot 24 8)) })
    else None

-- the slot of 65,600 bytes at this place of a file
abbrev pub slot_at : List ℕ → ℕ → Option Slot
slot_at file place = slot_in (read_at file place 65600)

-- of two slots the open one; of two open ones the one with the greater sequence
abbrev pub newer : Option Slot → Option Slot → Option Slot
newer None second = second
newer (Some first) None = Some first
newer (Some first) (Some second) = if nat_lt first.sequence second.sequence then Some second else Some first

-- the slot that counts
unfoldable pub counting : List ℕ → Option Slot
counting file = newer (slot_at file 0) (slot_at file 65600)

-- the content of a control file, none where it holds no control
abbrev pub control_of : Option (List ℕ) → Option (List ℕ)
control_of file = option_map (λ (slot : Slot). slot.bytes) (counting (contents file))

abbrev pub other : Side → Side
other First = Second
other Second = First

-- where a slot begins
abbrev pub place : Side → ℕ
place First = 0
place Second = 65600
