-- How the bytes of a medium are read. SQL Server: RESTORE HEADERONLY; "Media Sets, Media Families, and Backup Sets".
use Rattle.std.specs.Prelude.{ℕ, List, [], ◌∷◌, Option, Some, None, not, if◌then◌else◌, filter}
use Rattle.std.specs.Str.{bytes_eq}
use Rattle.bk_world.specs.declared.header.Header.{Header}

-- one blob behind the first of a medium: a set; one whose digest is another; bytes that are no set
pub data Slot : Type 0 where
  readable : Header → Slot
  -- the digest that is stored, and the one that was found
  damaged : List ℕ → List ℕ → Slot
  no_set : Slot

-- a file at a medium's path: no medium, or its slots
pub data Reading : Type 0 where
  not_media : Reading
  medium : List Slot → Reading

-- the reading of the medium at a path
abbrev pub medium_at : List (List ℕ × Reading) → List ℕ → Option Reading
medium_at [] path = None
medium_at (m ∷ media) path = if bytes_eq m.0 path then Some m.1 else medium_at media path

-- the media without the one at a path
abbrev pub without_medium : List (List ℕ × Reading) → List ℕ → List (List ℕ × Reading)
without_medium media path = filter (λ m. not (bytes_eq m.0 path)) media

-- the media with this one at a path
abbrev pub with_medium : List (List ℕ × Reading) → List ℕ → Reading → List (List ℕ × Reading)
with_medium media path reading = (path, reading) ∷ without_medium media path
