-- What is added to a blob that is begun.
use Rattle.std.specs.Prelude.{◌≡◌, ◌⊎◌, ℕ, List, [], ◌∷◌, ◌++◌, Option}
use Rattle.sha2.specs.Sha256.{sha256}
use Rattle.bk_device.specs.Calls.{contents, read_at}
use Rattle.bk_device.specs.Disk.{Files, Disk}
use Rattle.bk_gate.specs.Blobs.{sealed}
use Rattle.bk_gate.specs.Gate.{Kept, IsGate, begun_of}
use Rattle.sha2.specs.declared.Sha256.{Sha256}
use Rattle.sha2.specs.Hashers.{Holds256}

-- these bytes were added to the begun blob, whose digest is being taken
pub record Adds (old new : Kept) (bytes : List ℕ) (hasher : Sha256) (a b : Disk) : Type 0 where
  pub stands : IsGate b new
  pub added : begun_of b new ≡ begun_of a old ++ bytes
  pub same : sealed (b.files old.name) ≡ sealed (a.files old.name)
  pub hashed : Holds256 hasher (begun_of b new)

-- a part of a file was added, and the file reads as before
pub record Copies (file : List ℕ) (at n : ℕ) (old new : Kept) (hasher : Sha256) (a b : Disk) : Type 0 where
  pub adds : Adds old new (read_at (contents (a.files file)) at n) hasher a b
  pub source : b.files file ≡ a.files file

-- a crash leaves the sealed blobs of a file as they were
abbrev pub LeavesSealed : List ℕ → Disk → Files → Type 0
LeavesSealed name disk image = sealed (image name) ≡ sealed (disk.files name)

-- a blob's parts but its digest: a front, then the extents that a file begins with, then a size, and the log behind the extents
abbrev pub parts_of : List ℕ → List ℕ → ℕ → List ℕ → ℕ → List ℕ
parts_of front file extents size log = front ++ (read_at file 0 extents ++ (size ++ read_at file extents log))

-- bytes, and their digest
abbrev pub with_digest : List ℕ → List ℕ
with_digest bytes = bytes ++ sha256 bytes

-- the file has one more sealed blob
abbrev pub HasSealed : List ℕ → List ℕ → Disk → Option (List ℕ) → Type 0
HasSealed name blob disk file = sealed file ≡ sealed (disk.files name) ++ blob ∷ []

-- a crash leaves the sealed blobs of a file as they were, or with this one
abbrev pub LeavesGrown : List ℕ → List ℕ → Disk → Files → Type 0
LeavesGrown name blob disk image = LeavesSealed name disk image ⊎ HasSealed name blob disk (image name)
