-- What a device holds, and what a crash may leave of it.
use Rattle.std.specs.Prelude.{◌≡◌, ◌≤◌, ℕ, List, [], Option, None, if◌then◌else◌}
use Rattle.std.specs.Str.{bytes_eq}

-- the contents of all files by name, none where a file is absent; a name and a content are bytes
abbrev pub Files : Type 0
Files = List ℕ → Option (List ℕ)

-- the files with this content under one name
abbrev pub replaced : Files → List ℕ → Option (List ℕ) → Files
replaced files name content other = if bytes_eq name other then content else files other

pub record Disk : Type 1 where
  -- what a read gives
  pub files : Files
  -- what a crash now may leave under a name, each name by itself
  pub may : List ℕ → Option (List ℕ) → Type 0
  -- the bytes told so far
  pub told : List ℕ
  -- a number that never falls
  pub moment : ℕ
  -- a crash at some moment from that one on might have left these files, with these bytes told by then
  pub left : ℕ → Files → List ℕ → Type 0

-- a crash now may leave these files
abbrev pub MayLeave : Disk → Files → Type 0
MayLeave disk image = (name : List ℕ) → disk.may name (image name)

-- nothing is pending under this name: a crash now leaves what a read gives
abbrev pub IsDurable : Disk → List ℕ → Type 0
IsDurable disk name = (content : Option (List ℕ)) → disk.may name content → content ≡ disk.files name

-- nothing is pending at all
abbrev pub IsSettled : Disk → Type 0
IsSettled disk = (name : List ℕ) → IsDurable disk name

-- what every device keeps at every moment
pub record IsLawful (disk : Disk) : Type 0 where
  -- what a read gives is among what may be left
  pub reads : (name : List ℕ) → disk.may name (disk.files name)
  -- this moment counts from now on
  pub counts_now : (since : ℕ) (image : Files) → since ≤ disk.moment → MayLeave disk image → disk.left since image disk.told
  -- at this moment nothing else was left
  pub only_now : (image : Files) (heard : List ℕ) → disk.left disk.moment image heard → MayLeave disk image × (heard ≡ disk.told)

-- of a device that tells nothing
abbrev pub unknown_disk : Disk
unknown_disk = record { files = λ _. None; may = λ _ _. Unit {0}; told = []; moment = 0; left = λ _ _ _. Unit {0} }
