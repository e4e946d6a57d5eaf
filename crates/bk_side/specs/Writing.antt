-- What is done with one entry of a batch.
use Rattle.std.specs.Prelude.{◌≡◌, ◌≢◌, ◌⊎◌, ◌<◌, ◌≤◌, ◌+◌, ◌*◌, ℕ, List, length, Some}
use Rattle.bk_device.specs.Calls.{contents, written, LeavesWrite, CallsOn, ChangesNothing}
use Rattle.bk_device.specs.Disk.{Disk}
use Rattle.bk_side.specs.Names.{name_of}
use Rattle.bk_side.specs.Pages.{Entry, page_of}

-- a page that lies whole in a file is written, or in part
pub record WritesPage (name : List ℕ) (page : ℕ) (old new : Disk) : Type 0 where
  pub inside : 8192 * page + 8192 ≤ length (contents (old.files name))
  pub call : CallsOn name (LeavesWrite (8192 * page) 8192) old new

-- the file ends before the page does, and nothing is done
pub record LeavesPage (name : List ℕ) (page : ℕ) (old new : Disk) : Type 0 where
  pub ends : length (contents (old.files name)) < 8192 * page + 8192
  pub nothing : ChangesNothing old new

-- a page is written where it lies whole in the file
abbrev pub PutsPage : List ℕ → ℕ → List ℕ → Disk → Disk → Type 0
PutsPage name page bytes old new = LeavesPage name page old new
    ⊎ (WritesPage name page old new × (new.files name ≡ Some (written (contents (old.files name)) (8192 * page) bytes)))

-- the page of an entry lies whole in its file and is written, or in part
abbrev pub WritesEntry : List (List ℕ) → Entry → Disk → Disk → Type 0
WritesEntry names e old new = (name : List ℕ) × (name_of names e.0.0 ≡ Some name) × WritesPage name e.0.1 old new

-- the page of an entry is written, where it is whole
abbrev pub PutsEntry : List (List ℕ) → Entry → Disk → Disk → Type 0
PutsEntry names e old new = ((length (page_of names old.files e.0) ≢ 8192) × ChangesNothing old new)
    ⊎ ((name : List ℕ) × (name_of names e.0.0 ≡ Some name) × WritesPage name e.0.1 old new
    × (new.files name ≡ Some (written (contents (old.files name)) (8192 * e.0.1) e.1)))
