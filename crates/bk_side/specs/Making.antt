-- Data files that are made.
use Rattle.std.specs.Prelude.{◌≡◌, ◌≢◌, ◌<◌, ◌*◌, ℕ, List, length}
use Rattle.bk_device.specs.Disk.{Files}
use Rattle.bk_page.specs.Page.{fresh_page}
use Rattle.bk_side.specs.Pages.{page_in, shown}

-- the file holds so many pages, each as it is before any log record
pub record IsFreshFile (file pages : ℕ) (content : List ℕ) : Type 0 where
  pub size : length content ≡ 8192 * pages
  pub fresh : (number : ℕ) → number < pages → page_in content number ≡ fresh_page file number

-- all pages but those of one file are as they were
abbrev pub ShowsOthers : List ℕ → List (List ℕ) → ℕ → Files → Files → Type 0
ShowsOthers side names file before image = (at : ℕ × ℕ) → at.0 ≢ file → shown side names image at ≡ shown side names before at
