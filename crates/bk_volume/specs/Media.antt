-- How files are read as media. SQL Server: "Media Sets, Media Families, and Backup Sets"; "RESTORE HEADERONLY".
use Rattle.std.specs.Prelude.{◌≡◌, ◌⊎◌, ◌<◌, ◌-◌, ℕ, zero, suc, List, [], ◌∷◌, ◌++◌, length, map, Option, Some, None, unwrap_or, option_map, slice_get, if◌then◌else◌}
use Rattle.std.specs.Str.{bytes_eq}
use Rattle.bk_world.specs.Medium.{Slot as Shown, Reading, not_media, medium}
use Rattle.bk_device.specs.Calls.{contents}
use Rattle.bk_device.specs.Disk.{Disk}
use Rattle.bk_gate.specs.Blobs.{sealed, spans_of, IsGateFile}
use Rattle.bk_gate.specs.Gate.{Kept, IsGate}
use Rattle.bk_body.specs.Body.{Body}
use Rattle.bk_body.specs.Conditions.{IsBody}
use Rattle.bk_body.specs.Slots.{Slot, slot_of, shown_of}
use Rattle.bk_body.specs.Spelling.{set_bytes}

-- the letters SBMEDIA1
abbrev pub medium_letters : List ℕ
medium_letters = 83 ∷ 66 ∷ 77 ∷ 69 ∷ 68 ∷ 73 ∷ 65 ∷ 49 ∷ []

-- the file is a medium with these sets, each as its bytes
abbrev pub HasSets : List (List ℕ) → Option (List ℕ) → Type 0
HasSets sets file = sealed file ≡ medium_letters ∷ sets

-- the sets among the blobs of a file, where it is a medium
abbrev pub sets_in : List (List ℕ) → Option (List (List ℕ))
sets_in [] = None
sets_in (first ∷ sets) = if bytes_eq first medium_letters then Some sets else None

-- the bytes of a file's sets, none where it is no medium
unfoldable pub sets_of : Option (List ℕ) → List (List ℕ)
sets_of file = unwrap_or (sets_in (sealed file)) []

-- what is shown of the bytes of a set
abbrev pub slot_in : List ℕ → Shown
slot_in blob = shown_of (slot_of blob)

-- a slot for each set, where the file is a medium
abbrev pub reading_of : Option (List (List ℕ)) → Reading
reading_of None = not_media
reading_of (Some sets) = medium (map slot_in sets)

-- what the file at a medium's path is read as: nothing where it is absent
unfoldable pub read_medium : Option (List ℕ) → Option Reading
read_medium None = None
read_medium (Some file) = Some (reading_of (sets_in (sealed (Some file))))

-- what the slot at a position, from 1, is read as
unfoldable pub slot_at : Option (List ℕ) → ℕ → Option Slot
slot_at file zero = None
slot_at file (suc before) = option_map slot_of (slice_get (sets_of file) before)

-- the file under the medium's name is a medium, and each crash leaves its sets
pub record IsMedium (disk : Disk) (kept : Kept) : Type 0 where
  pub gate : IsGate disk kept
  pub sets : HasSets (sets_of (disk.files kept.name)) (disk.files kept.name)

-- a read of the file under the medium's name shows a medium, whose blobs lie in these parts
pub record ShowsMedium (disk : Disk) (kept : Kept) : Type 0 where
  pub gate_file : IsGateFile (contents (disk.files kept.name))
  pub spans : kept.spans ≡ spans_of (contents (disk.files kept.name))
  pub sets : HasSets (sets_of (disk.files kept.name)) (disk.files kept.name)

-- a medium was made, or emptied: a crash leaves what was there before, or a file with no sealed blob, or a medium without sets
abbrev pub LeavesMade : (Option (List ℕ) → Type 0) → Option (List ℕ) → Type 0
LeavesMade before file = before file ⊎ ((sealed file ≡ []) ⊎ HasSets [] file)

-- the file is a medium with these sets, and one with this body behind them
pub record HasAdded (sets : List (List ℕ)) (body : Body) (file : Option (List ℕ)) : Type 0 where
  pub is_body : IsBody body
  pub has : HasSets (sets ++ set_bytes body ∷ []) file

-- a set was added: a crash leaves the sets that there were, or this one too
abbrev pub LeavesAdded : List (List ℕ) → Body → Option (List ℕ) → Type 0
LeavesAdded sets body file = HasSets sets file ⊎ HasAdded sets body file

-- the number of its slots
abbrev pub count_of : Kept → ℕ
count_of kept = length kept.spans - 1

-- a position is 0 or above the count
abbrev pub HasNoSet : Kept → ℕ → Type 0
HasNoSet kept p = (p ≡ 0) ⊎ (count_of kept < p)
