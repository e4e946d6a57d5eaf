-- A control file that is kept on a device.
use Rattle.std.proofs.Common.{◌≡◌, ◌≤◌, ℕ, Bool, true, List, length, Option, Some, ap, sym, subst, refl}
use Rattle.std.specs.Prelude.{option_map}
use Rattle.bk_device.specs.Calls.{contents}
use Rattle.bk_device.specs.Compose.{durable_kept}
use Rattle.bk_device.specs.Disk.{Disk, IsDurable}
use Rattle.bk_device.specs.Effects.{IsName, KeepsFiles}
use Rattle.bk_control.specs.declared.side.Side.{Side}
use Rattle.bk_control.specs.Slots.{Slot, control_of}
use Rattle.bk_control.specs.Stands.{Holds, Stands}

-- what contracts see of a control
pub record Kept : Type 0 where
  pub name : List ℕ
  pub content : List ℕ
  pub failed : Bool
  -- the slot that counts
  pub side : Side
  pub sequence : ℕ
  pub is_other_open : Bool
  -- whether the file is known to have both slots in their whole length
  pub is_whole : Bool

-- what the slot that counts holds
abbrev pub slot_of : Kept → Slot
slot_of control = record { sequence = control.sequence; bytes = control.content }

-- the file under the control's name stands for its content, on the disk
pub record IsControl (disk : Disk) (control : Kept) : Type 0 where
  pub durable : IsDurable disk control.name
  pub holds : Holds control.side control.is_other_open (slot_of control) (contents (disk.files control.name))
  pub whole : control.is_whole ≡ true → 131200 ≤ length (contents (disk.files control.name))

-- and has both slots in their whole length
pub record IsReady (disk : Disk) (control : Kept) : Type 0 where
  pub durable : IsDurable disk control.name
  pub stands : Stands control.side control.is_other_open (slot_of control) (contents (disk.files control.name))

-- the file reads as the content
pub control_value : {disk : Disk} {control : Kept} → IsControl disk control → control_of (disk.files control.name) ≡ Some control.content
control_value is = ap (option_map (λ (slot : Slot). slot.bytes)) is.holds.counts

-- nothing is pending in the file
pub control_durable : {disk : Disk} {control : Kept} → IsControl disk control → IsDurable disk control.name
control_durable is = is.durable

-- what is done under other names leaves it
pub control_kept : {a b : Disk} {control : Kept} → KeepsFiles (IsName control.name) a b → IsControl a control → IsControl b control
control_kept {control = control} keeps is =
    let At : Option (List ℕ) → Type 0 = λ file. Holds control.side control.is_other_open (slot_of control) (contents file) in
    let Of : Option (List ℕ) → Type 0 = λ file. 131200 ≤ length (contents file) in
    record {
      durable = durable_kept control.name refl keeps is.durable;
      holds = subst At (sym (keeps.same control.name refl)) is.holds;
      whole = λ known. subst Of (sym (keeps.same control.name refl)) (is.whole known);
    }
