-- A gate file that is kept on a device.
use Rattle.std.proofs.Common.{◌≡◌, ◌≢◌, ◌⊎◌, ◌≤◌, ◌<◌, ◌+◌, ℕ, Bool, true, false, List, [], ◌∷◌, Option, Some, None, length, map, take}
use Rattle.std.specs.Prelude.{slice_index, unwrap_or}
use Rattle.std.specs.List.{All}
use Rattle.bk_device.specs.Calls.{contents, read_at}
use Rattle.bk_device.specs.Disk.{Disk, IsDurable}
use Rattle.bk_lemmas.specs.Numbers.{number}
use Rattle.bk_gate.specs.Blobs.{blob_at, part_of, IsGateFile}

-- from this gate byte on lie blobs in these parts of the file, and then comes the gate byte at this end
abbrev pub Lies : List ℕ → ℕ → List (ℕ × ℕ) → ℕ → Type 0
Lies file gate [] end = gate ≡ end
Lies file gate (span ∷ spans) end = (span.0 ≡ gate + 9) × (blob_at file gate ≡ Some span.1) × Lies file (gate + 9 + span.1) spans end

-- the sealed blobs of the file lie in these parts
pub record Stands (spans : List (ℕ × ℕ)) (end : ℕ) (file : List ℕ) : Type 0 where
  pub lies : Lies file 16 spans end
  pub ends : blob_at file end ≡ None
  pub is_gate : IsGateFile file
  pub within : end ≤ length file

-- The gate byte at the end is closed, and a crash now leaves all up to it.
pub record Quiet (spans : List (ℕ × ℕ)) (end : ℕ) (name : List ℕ) (disk : Disk) : Type 0 where
  pub stands : Stands spans end (contents (disk.files name))
  pub inside : end < length (contents (disk.files name))
  pub closed : slice_index (contents (disk.files name)) end ≢ 1
  pub left : (content : Option (List ℕ)) → disk.may name content → take (end + 1) (contents content) ≡ take (end + 1) (contents (disk.files name))

-- behind the end stands a whole blob of this length, and then a closed gate byte
pub record IsPrepared (end size : ℕ) (file : List ℕ) : Type 0 where
  pub size_is : number (read_at file (end + 1) 8) ≡ size
  pub inside : end + 9 + size < length file
  pub closed : slice_index file (end + 9 + size) ≢ 1

-- behind the end stands a blob of these bytes, and then a closed gate byte
pub record IsLaid (end : ℕ) (bytes file : List ℕ) : Type 0 where
  pub prepared : IsPrepared end (length bytes) file
  pub blob : read_at file (end + 9) (length bytes) ≡ bytes

-- what stands behind the length is as it was
abbrev pub IfThere : ℕ → List ℕ → List ℕ → Type 0
IfThere end old new = (n : ℕ) → end + 9 + n ≤ length old → read_at new (end + 9) n ≡ read_at old (end + 9) n

-- The gate byte at the end isn't closed yet: it is missing, or 1 with no whole blob behind it. Nothing is pending.
pub record Loose (spans : List (ℕ × ℕ)) (end : ℕ) (name : List ℕ) (disk : Disk) : Type 0 where
  pub stands : Stands spans end (contents (disk.files name))
  pub why : (end ≡ length (contents (disk.files name))) ⊎ (end < length (contents (disk.files name))) × (slice_index (contents (disk.files name)) end ≡ 1)
  pub durable : IsDurable disk name

-- the gate byte at the end is closed, or loose
abbrev pub IsAt : List (ℕ × ℕ) → ℕ → Bool → List ℕ → Disk → Type 0
IsAt spans end true name disk = Quiet spans end name disk
IsAt spans end false name disk = Loose spans end name disk

-- the blobs in these parts end at this place or before it
abbrev pub AreWithin : ℕ → List (ℕ × ℕ) → Type 0
AreWithin end spans = All (λ span. span.0 + span.1 ≤ end) spans

-- what contracts see of a gate
pub record Kept : Type 0 where
  pub name : List ℕ
  -- where the sealed blobs lie, by place and length
  pub spans : List (ℕ × ℕ)
  -- where the next gate byte is, and whether it is closed
  pub end : ℕ
  pub is_closed : Bool
  -- how many bytes of a blob were added, if one is begun
  pub begun : Option ℕ
  -- how many blobs may be sealed without memory
  pub spare : ℕ
  pub failed : Bool

-- the file under the gate's name has its sealed blobs at each crash, and holds what was added to the begun blob
pub record IsGate (disk : Disk) (gate : Kept) : Type 0 where
  pub at : IsAt gate.spans gate.end gate.is_closed gate.name disk
  pub room : (n : ℕ) → gate.begun ≡ Some n → 0 < n → (gate.is_closed ≡ true) × (gate.end + 9 + n ≤ length (contents (disk.files gate.name)))

-- the bytes of the begun blob
abbrev pub begun_of : Disk → Kept → List ℕ
begun_of disk gate = read_at (contents (disk.files gate.name)) (gate.end + 9) (unwrap_or gate.begun 0)

-- the gate byte at this end is there and closed; or it is missing, or 1
abbrev pub IsShut : List ℕ → ℕ → Bool → Type 0
IsShut file end true = (end < length file) × (slice_index file end ≢ 1)
IsShut file end false = (end ≡ length file) ⊎ (end < length file) × (slice_index file end ≡ 1)

-- these are the blobs of the file up to this gate byte
abbrev pub AreUpTo : List ℕ → ℕ → List (List ℕ) → Type 0
AreUpTo file gate blobs = (spans : List (ℕ × ℕ)) × (blobs ≡ map (part_of file) spans) × Lies file 16 spans gate
