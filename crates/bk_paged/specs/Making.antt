-- Databases that are made and removed.
use Rattle.std.specs.Prelude.{◌≡◌, ◌≤◌, ◌<◌, ◌⊎◌, ◌+◌, ℕ, List, None, Some, length, slice_get}
use Rattle.std.specs.List.{AllByRecursion}
use Rattle.bk_device.specs.Disk.{Files, Disk, IsDurable}
use Rattle.bk_facts.specs.declared.facts.DataFile.{DataFile}
use Rattle.bk_facts.specs.Facts.{HasPath, Notes}
use Rattle.bk_redo.specs.declared.place.PageAt.{PageAt}
use Rattle.bk_redo.specs.PageStates.{fresh, page_of}
use Rattle.bk_segments.specs.declared.head.Head.{Head}
use Rattle.bk_segments.specs.Files.{control_file, segment_file, LogIs, Logged}
use Rattle.bk_side.specs.Names.{AreDifferent, side_file, IsOwn as IsOfSide}
use Rattle.bk_side.specs.Pages.{IsSound}
use Rattle.bk_paged.specs.Holds.{Holds, Stood}
use Rattle.bk_paged.specs.Names.{IsPlaced, IsThere, names_of}

-- A database may be made of these data files, with this note of the layer above: there are few of them, no two have one path, each path has 1 to 100 bytes, and the note has room.
pub record MayBeMade (files : List DataFile) (note : List ℕ) : Type 0 where
  pub few : length files ≤ 16
  pub paths : AllByRecursion HasPath files
  pub different : AreDifferent (names_of files)
  pub short : length note ≤ 30720

-- a page of a data file before any record
pub record IsFirstPage (at : PageAt) (page : List ℕ) : Type 0 where
  pub sound : IsSound page
  pub place : IsPlaced at page
  pub is_fresh : page_of page ≡ fresh

-- so are those of the data files up to this number
abbrev pub AreFirst : List DataFile → ℕ → (ℕ × ℕ → List ℕ) → Type 0
AreFirst files last given = (at : PageAt) → at.file ≤ last → IsThere files at → IsFirstPage at (given (at.file, at.page))

-- the files hold no database
abbrev pub HoldsNone : ℕ → Files → Type 0
HoldsNone db image = (stood : Stood) → Holds db stood image → ⊥

-- The log names these data files in its note.
pub record NamesFiles (db : ℕ) (files : List DataFile) (image : Files) : Type 0 where
  pub log : Logged
  pub checkpoint : ℕ
  pub note : List ℕ
  pub log_is : LogIs image db log
  pub noted : Notes log.note (record { checkpoint = checkpoint; files = files }) note

-- the bytes of a note name these data files
abbrev pub AreNoted : List ℕ → List DataFile → Type 0
AreNoted bytes files = (checkpoint : ℕ) × (note : List ℕ) × Notes bytes (record { checkpoint = checkpoint; files = files }) note

-- the name is one of the first n
abbrev pub IsAmong : List (List ℕ) → ℕ → List ℕ → Type 0
IsAmong names n name = (i : ℕ) × (i < n) × (slice_get names i ≡ Some name)

-- no file of these names is there
abbrev pub AreAbsent : (List ℕ → Type 0) → Files → Type 0
AreAbsent names files = (name : List ℕ) → names name → files name ≡ None

-- nor does one come back at a crash
abbrev pub AreGone : (List ℕ → Type 0) → Disk → Type 0
AreGone names disk = (name : List ℕ) → names name → (disk.files name ≡ None) × IsDurable disk name

-- no log is left that this head heads: neither its control file, nor one of its segments, nor one that was begun behind them
pub record IsLogGone (db : ℕ) (head : Head) (files : Files) : Type 0 where
  pub control : files (control_file db) ≡ None
  pub segments : (n : ℕ) → head.gone ≤ n → n ≤ head.back + 1 → files (segment_file db n) ≡ None

-- a crash of what removes a database leaves a log that names the data files, or none of these
abbrev pub Removes : ℕ → List DataFile → Files → Type 0
Removes db files image = NamesFiles db files image ⊎ AreAbsent (IsOfSide (side_file db) (names_of files)) image

-- what the log named it still names
abbrev pub StillNames : ℕ → Files → Files → Type 0
StillNames db before image = (files : List DataFile) → NamesFiles db files before → NamesFiles db files image
