-- What the heads of the slots say of a file.
use Rattle.std.specs.Prelude.{◌≡◌, ◌≤◌, ◌+◌, ◌==◌, ℕ, List, length, slice_index, option_map, IfSome}
use Rattle.bk_device.specs.Calls.{read_at}
use Rattle.bk_control.specs.declared.found.Entry.{Entry}
use Rattle.bk_control.specs.declared.found.Head.{Head}
use Rattle.bk_control.specs.declared.found.Found.{Found}
use Rattle.bk_control.specs.Slots.{Slot, slot_at, place}
use Rattle.bk_control.specs.Stands.{Holds}

-- what such an entry makes of a slot's bytes
abbrev pub sized : List ℕ → Entry → Slot
sized slot entry = record { sequence = entry.sequence; bytes = read_at slot 32 entry.len }

-- the head of the slot at this place
pub record IsHead (file : List ℕ) (start : ℕ) (head : Head) : Type 0 where
  pub gate : start + 9 ≤ length file → head.gate_is_open ≡ (slice_index file (start + 8) == 1)
  pub inside : IfSome head.entry (λ e. start + 32 + e.len ≤ length file)
  pub slot : slot_at file start ≡ option_map (sized (read_at file start 65600)) head.entry

-- the slot that counts in the file
pub record IsFound (file : List ℕ) (found : Found) : Type 0 where
  pub holds : Holds found.side found.is_other_open (record { sequence = found.sequence; bytes = read_at file (place found.side + 32) found.len }) file
  pub inside : place found.side + 32 + found.len ≤ length file
