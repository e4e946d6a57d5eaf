-- The data files and the side file of a database, on a device.
use Rattle.std.specs.Prelude.{◌≡◌, ◌*◌, ℕ, Bool, List, [], length}
use Rattle.bk_device.specs.Calls.{contents}
use Rattle.bk_device.specs.Disk.{Files, Disk, IsDurable}
use Rattle.bk_gate.specs.Blobs.{IsGateFile, sealed}
use Rattle.bk_gate.specs.Gate.{IsGate, begun_of, Kept as KeptGate}
use Rattle.bk_side.specs.Names.{IsData, IsOwn, AreApart}
use Rattle.bk_side.specs.Pages.{Entry, entries_of, shown, Shows}

-- what contracts see of a side
pub record Kept : Type 0 where
  pub gate : KeptGate
  -- the names of the data files by number, from 1 on
  pub names : List (List ℕ)
  pub failed : Bool

-- the files of a side
abbrev pub IsOwnOf : Kept → List ℕ → Type 0
IsOwnOf side = IsOwn side.gate.name side.names

-- the pages that files show to a side
abbrev pub pages_of : Kept → Files → ℕ × ℕ → List ℕ
pages_of side files = shown side.gate.name side.names files

abbrev pub ShowsPages : Kept → (ℕ × ℕ → List ℕ) → Files → Type 0
ShowsPages side given = Shows side.gate.name side.names given

-- the entries that were added
abbrev pub added_of : Disk → Kept → List Entry
added_of disk side = entries_of (begun_of disk side.gate)

-- nothing is pending in these files
abbrev pub AreDurable : (List ℕ → Type 0) → Disk → Type 0
AreDurable own disk = (name : List ℕ) → own name → IsDurable disk name

-- the side file is there, and no batch is sealed in it
pub record HasNoBatch (side : List ℕ) (files : Files) : Type 0 where
  pub is_gate : IsGateFile (contents (files side))
  pub none : sealed (files side) ≡ []

-- no batch is sealed, and nothing is pending in the data files
pub record IsSide (disk : Disk) (side : Kept) : Type 0 where
  pub gates : IsGate disk side.gate
  pub none : sealed (disk.files side.gate.name) ≡ []
  pub durable : AreDurable (IsData side.names) disk
  pub apart : AreApart side.gate.name side.names
  -- what was added are whole entries
  pub whole : (n : ℕ) × (length (begun_of disk side.gate) ≡ 8198 * n)
