-- Data files that are filled page by page.
-- SQL Server: "Pages and Extents Architecture Guide".
use Rattle.std.specs.Prelude.{◌≡◌, ◌≤◌, ◌<◌, ◌+◌, ◌*◌, nat_lt, if◌then◌else◌, ℕ, List, map, length, Some, slice_get}
use Rattle.std.specs.List.{AllByRecursion}
use Rattle.std.specs.Option.{option_map_or}
use Rattle.bk_device.specs.Calls.{contents}
use Rattle.bk_device.specs.Disk.{Files, Disk, IsDurable}
use Rattle.bk_facts.specs.declared.facts.DataFile.{DataFile}
use Rattle.bk_facts.specs.Facts.{HasPath}
use Rattle.bk_side.specs.Names.{AreDifferent, data_file}
use Rattle.bk_side.specs.Pages.{page_in}

-- the device's names of data files
abbrev pub names_of : List DataFile → List (List ℕ)
names_of files = map data_file (map (λ f. f.path) files)

-- a data file has a page
abbrev pub HasPages : DataFile → Type 0
HasPages f = 1 ≤ f.pages

-- Such data files may be filled: at most 16, each with a path of 1 to 100 bytes and at least one page, no two with one path.
pub record MayFill (files : List DataFile) : Type 0 where
  pub few : length files ≤ 16
  pub paths : AllByRecursion HasPath files
  pub some : AllByRecursion HasPages files
  pub different : AreDifferent (names_of files)

-- what contracts see of data files that are filled
pub record Kept : Type 0 where
  pub files : List DataFile
  -- how many of them are whole
  pub whole : ℕ
  -- the next page of the one behind those
  pub page : ℕ

-- no page is there yet
abbrev pub begun : List DataFile → Kept
begun files = record { files = files; whole = 0; page = 0 }

-- the file and the number of the next page; files count from 1
abbrev pub place_of : Kept → ℕ × ℕ
place_of f = (f.whole + 1, f.page)

-- the same data files, with one page more
abbrev pub one_more : Kept → Kept
one_more f = if nat_lt (f.page + 1) (option_map_or (λ d. d.pages) (slice_get f.files f.whole) 0) then (record f { page = f.page + 1 }) else (record f { whole = f.whole + 1; page = 0 })

-- The data file behind those that are whole ends where its next page begins, those behind it are empty, and nothing is pending in whole ones.
pub record IsFilling (disk : Disk) (f : Kept) : Type 0 where
  pub durable : (i : ℕ) (d : DataFile) → i < f.whole → slice_get f.files i ≡ Some d → IsDurable disk (data_file d.path)
  pub begun : (d : DataFile) → slice_get f.files f.whole ≡ Some d → length (contents (disk.files (data_file d.path))) ≡ 8192 * f.page
  pub later : (i : ℕ) (d : DataFile) → f.whole < i → slice_get f.files i ≡ Some d → length (contents (disk.files (data_file d.path))) ≡ 0

-- The pages before the next one are these.
pub record Shows (image : Files) (f : Kept) (given : ℕ × ℕ → List ℕ) : Type 0 where
  pub whole : (i : ℕ) (d : DataFile) (number : ℕ) → i < f.whole → slice_get f.files i ≡ Some d → number < d.pages → page_in (contents (image (data_file d.path))) number ≡ given (i + 1, number)
  pub begun : (d : DataFile) (number : ℕ) → slice_get f.files f.whole ≡ Some d → number < f.page → page_in (contents (image (data_file d.path))) number ≡ given (f.whole + 1, number)
