-- Opening a database: its pages in frames, and what brings them to the end.
use Rattle.std.specs.Prelude.{◌≡◌, ◌≢◌, ◌≤◌, ◌<◌, ◌⊎◌, ℕ, List, [], length, Option, None, Some, true, slice_get, slice_index_or}
use Rattle.std.specs.List.{AllPairs}
use Rattle.bk_device.specs.Disk.{Disk}
use Rattle.bk_device.specs.Effects.{Effect}
use Rattle.bk_facts.specs.declared.facts.DataFile.{DataFile}
use Rattle.bk_facts.specs.declared.facts.Facts.{Facts}
use Rattle.bk_ids.specs.declared.record.Rec.{Rec}
use Rattle.bk_page.specs.Page.{lsn_of}
use Rattle.bk_paths.specs.Paths.{IsPath, end_of, kept_from}
use Rattle.bk_pool.specs.Pool.{IsIn, Pool}
use Rattle.bk_record.specs.Log.{IsLog}
use Rattle.bk_redo.specs.declared.place.PageAt.{PageAt}
use Rattle.bk_side.specs.Pages.{IsSound}
use Rattle.bk_paged.specs.Holds.{IsStored, Stood}
use Rattle.bk_paged.specs.Names.{IsOwn, IsThere}
use Rattle.bk_paged.specs.Paged.{Kept}

-- a page lies in a data file below this number, or is one of the first so many pages of that file
abbrev pub IsBefore : ℕ → ℕ → PageAt → Type 0
IsBefore file count at = (at.file < file) ⊎ ((at.file ≡ file) × (at.page < count))

-- These are the places of the pages that lie before such a page, each once.
pub record ArePlaces (files : List DataFile) (file count : ℕ) (places : List PageAt) : Type 0 where
  pub there : (at : PageAt) → IsThere files at → IsBefore file count at → (i : ℕ) × (slice_get places i ≡ Some at)
  pub only : (i : ℕ) (at : PageAt) → slice_get places i ≡ Some at → IsThere files at × IsBefore file count at
  pub different : AllPairs (λ a b. a ≢ b) places

-- the first n of some pages are put in the first n frames, one after the other, and no page lies in another frame
pub record ArePut (places : List PageAt) (n : ℕ) (pages : List (Option (ℕ × ℕ))) : Type 0 where
  pub here : (i : ℕ) (at : PageAt) → i < n → slice_get places i ≡ Some at → IsIn pages i at.file at.page
  pub only : (i file page : ℕ) → IsIn pages i file page → i < n

-- the first n frames hold these pages as files show them
abbrev pub AreRead : (ℕ × ℕ → List ℕ) → List PageAt → ℕ → List (List ℕ) → Type 0
AreRead shown places n frames = (i : ℕ) (at : PageAt) → i < n → slice_get places i ≡ Some at → slice_index_or frames i [] ≡ shown (at.file, at.page)

-- the pages in the first n frames are whole, and each stores its digest
abbrev pub AreSound : ℕ → List (List ℕ) → Type 0
AreSound n frames = (i : ℕ) → i < n → IsSound (slice_index_or frames i [])

-- Of the first n frames those are dirty whose page has this number or a higher one, and each of their pages is whole. All else but marks is as it was.
pub record Marks (from n : ℕ) (old new : Pool) : Type 0 where
  pub pages : new.pages ≡ old.pages
  pub frames : new.frames ≡ old.frames
  pub size : length new.dirty ≡ length old.dirty
  pub whole : (i file page : ℕ) → i < n → IsIn old.pages i file page → length (slice_index_or old.frames i []) ≡ 8192
  pub marked : (i file page : ℕ) → i < n → IsIn old.pages i file page → from ≤ lsn_of (slice_index_or old.frames i []) → slice_get new.dirty i ≡ Some true

-- These bytes are the log of a path from some number on, and with it pages that are as of some number from the latest checkpoint on can be brought to the end.
pub record Brings (facts : Facts) (shown : ℕ × ℕ → List ℕ) (log : List ℕ) (to : ℕ) (records : List Rec) : Type 0 where
  pub path : IsPath records
  pub kept : ℕ
  pub some : 1 ≤ kept
  pub order : kept ≤ facts.checkpoint
  pub ends : to ≡ end_of records
  pub held : IsLog log (kept_from kept records) None
  pub pages : (at : PageAt) → IsThere facts.files at → IsStored records facts.checkpoint at (shown (at.file, at.page))

-- each page of the data files lies in a frame
abbrev pub AreIn : List DataFile → Pool → Type 0
AreIn files pool = (at : PageAt) → IsThere files at → (i : ℕ) × IsIn pool.pages i at.file at.page

-- these bytes are the records that the log of a database holds
abbrev pub AreHeld : Kept → Stood → List ℕ → Type 0
AreHeld p stood bytes = IsLog bytes (kept_from p.log.head.kept stood.records) None

-- a name is one of the files of a database of this number, whichever its data files are
abbrev pub IsOfDatabase : ℕ → List ℕ → Type 0
IsOfDatabase db name = (files : List DataFile) × IsOwn db files name

-- a call touched such files alone, whatever they hold, and told nothing
abbrev pub TouchesDatabase : ℕ → Disk → Disk → Type 0
TouchesDatabase db old new = Effect (IsOfDatabase db) (λ _. Unit {0}) old new
