-- Files of a database that are removed, whatever is there of them.
use Rattle.std.specs.Prelude.{◌≡◌, ◌⊎◌, ◌≤◌, ◌<◌, ◌+◌, ℕ, List, None, Some, slice_get}
use Rattle.bk_device.specs.Disk.{Disk, IsDurable}
use Rattle.bk_segments.specs.declared.head.Head.{Head}
use Rattle.bk_segments.specs.Files.{Holds, IsOwn as IsOfLog, segment_file}
use Rattle.bk_device.specs.Disk.{Files}
use Rattle.bk_side.specs.Names.{side_file, IsOwn as IsOfSide}

-- no file of these names is there, nor does one come back at a crash
abbrev pub AreGone : (List ℕ → Type 0) → Disk → Type 0
AreGone names disk = (name : List ℕ) → names name → (disk.files name ≡ None) × IsDurable disk name

-- the name is one of the first n
abbrev pub IsAmong : List (List ℕ) → ℕ → List ℕ → Type 0
IsAmong names n name = (i : ℕ) × (i < n) × (slice_get names i ≡ Some name)

-- the name is that of the log's control file or a segment, of the side file, or of a data file
abbrev pub IsPart : ℕ → List (List ℕ) → List ℕ → Type 0
IsPart db names name = IsOfLog db name ⊎ IsOfSide (side_file db) names name

-- the name is that of a segment which a control record names, or which was begun behind those
abbrev pub IsRecorded : Files → ℕ → List ℕ → Type 0
IsRecorded image db name = (head : Head) × (n : ℕ) × Holds image db head × (head.gone ≤ n) × (n ≤ head.back + 1) × (name ≡ segment_file db n)
