-- The files of a database, and the pages in them.
use Rattle.std.specs.Prelude.{◌≡◌, ◌⊎◌, ◌<◌, ℕ, zero, suc, List, map, slice_get}
use Rattle.std.specs.Option.{option_map_or}
use Rattle.bk_device.specs.Disk.{Files, Disk, IsDurable}
use Rattle.bk_segments.specs.Files.{IsOwn as IsOfLog}
use Rattle.bk_page.specs.Page.{file_of, number_of_page}
use Rattle.bk_redo.specs.declared.place.PageAt.{PageAt}
use Rattle.bk_side.specs.Names.{data_file, side_file, IsOwn as IsOfSide}
use Rattle.bk_side.specs.Pages.{shown}
use Rattle.bk_facts.specs.declared.facts.DataFile.{DataFile}

-- the paths of data files, and the device's names of them
abbrev pub paths_of : List DataFile → List (List ℕ)
paths_of files = map (λ f. f.path) files

abbrev pub names_of : List DataFile → List (List ℕ)
names_of files = map data_file (paths_of files)

-- a name is that of the log's control file or a segment, of the side file, or of a data file
abbrev pub IsOwn : ℕ → List DataFile → List ℕ → Type 0
IsOwn db files name = IsOfLog db name ⊎ IsOfSide (side_file db) (names_of files) name

-- nothing is pending in them
abbrev pub AreDurable : ℕ → List DataFile → Disk → Type 0
AreDurable db files disk = (name : List ℕ) → IsOwn db files name → IsDurable disk name

-- how many pages the data file of a number has; they count from 1
abbrev pub pages_in : List DataFile → ℕ → ℕ
pages_in files zero = 0
pages_in files (suc i) = option_map_or (λ f. f.pages) (slice_get files i) 0

-- a page is one of a data file
abbrev pub IsThere : List DataFile → PageAt → Type 0
IsThere files at = at.page < pages_in files at.file

-- the page that files show: that of its data file, under the batch that is sealed in the side file
abbrev pub shown_at : ℕ → List DataFile → Files → PageAt → List ℕ
shown_at db files image at = shown (side_file db) (names_of files) image (at.file, at.page)

-- the bytes are those of this page
pub record IsPlaced (at : PageAt) (page : List ℕ) : Type 0 where
  pub file : file_of page ≡ at.file
  pub number : number_of_page page ≡ at.page
