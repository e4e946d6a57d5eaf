-- The media of a world as files, whose sets hold data extents and a log.
-- SQL Server: "Media Sets, Media Families, and Backup Sets".
use Rattle.std.specs.Prelude.{◌≡◌, ℕ, Bool, true, false, List, [], ◌∷◌, Option, Some, None, if◌then◌else◌, ◌&&◌}
use Rattle.std.specs.Str.{bytes_eq}
use Rattle.bk_body.specs.Body.{Body}
use Rattle.bk_body.specs.Slots.{holds, ReadsAs}
use Rattle.bk_bytes.specs.Field.{AreBytes}
use Rattle.bk_carried.specs.Carried.{Carries}
use Rattle.bk_device.specs.Disk.{Files, Disk, IsDurable}
use Rattle.bk_gate.specs.Blobs.{sealed}
use Rattle.bk_machine.specs.World.{World}
use Rattle.bk_volume.specs.Media.{read_medium, slot_at}
use Rattle.bk_volume.specs.Names.{medium_file}
use Rattle.bk_volume.specs.Stored.{IsSetAt, IsWhole}
use Rattle.bk_world.specs.Medium.{Reading, medium_at}

-- the medium at this path is the one that is being made
abbrev pub is_making : Option (List ℕ) → List ℕ → Bool
is_making None path = false
is_making (Some making) path = bytes_eq making path

-- no blob of it is sealed yet
abbrev pub is_begun : List (List ℕ) → Bool
is_begun [] = true
is_begun (blob ∷ blobs) = false

-- the reading of a file at a path: none while its medium is only being made
abbrev pub shown_medium : Option (List ℕ) → List ℕ → Option (List ℕ) → Option Reading
shown_medium making path file = if is_making making path && is_begun (sealed file) then None else read_medium file

-- bytes are the spelling of a set
abbrev pub IsSpelled : List ℕ → Type 0
IsSpelled blob = (body : Body) × ReadsAs blob (holds body)

-- The media of the world are those in the files, and their sets hold what their paths show. Bytes on a medium that have their own digest are a set: no one else made them.
pub record KeepsMedia (w : World) (making : Option (List ℕ)) (files : Files) : Type 0 where
  pub read : (path : List ℕ) → AreBytes path → medium_at w.media path ≡ shown_medium making path (files (medium_file path))
  pub carried : (path : List ℕ) (p : ℕ) (body : Body) → AreBytes path → slot_at (files (medium_file path)) p ≡ Some (holds body) → Carries w.history body
  pub whole : (path : List ℕ) (p : ℕ) (blob : List ℕ) → AreBytes path → IsSetAt (files (medium_file path)) p blob → IsWhole blob → IsSpelled blob

-- this is the file of some medium
abbrev pub IsMediumFile : List ℕ → Type 0
IsMediumFile name = (path : List ℕ) × AreBytes path × (name ≡ medium_file path)

-- nothing is pending in any medium
abbrev pub MediaAreDurable : Disk → Type 0
MediaAreDurable disk = (path : List ℕ) → AreBytes path → IsDurable disk (medium_file path)

-- an image is like this where nothing was pending in any medium
abbrev pub IfDurable : Disk → (Files → Type 0) → Files → Type 0
IfDurable disk Is image = MediaAreDurable disk → Is image
