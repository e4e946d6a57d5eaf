-- What a change of a page leaves as it was.
use Rattle.std.specs.Prelude.{◌≡◌, ◌≢◌, ℕ, ◌<◌, List, length, replicate}
use Rattle.bk_page.specs.Page.{lsn_of, number_of_page, file_of, digest_field, cell_at, page_digest}

-- the page is that of the same number in the same file
pub record SamePlace (old new : List ℕ) : Type 0 where
  pub number : number_of_page new ≡ number_of_page old
  pub file : file_of new ≡ file_of old

-- each cell stays
abbrev pub SameCells : List ℕ → List ℕ → Type 0
SameCells old new = (slot : ℕ) → slot < 63 → cell_at new slot ≡ cell_at old slot

-- one cell is written, and nothing else changes
pub record WritesCell (old new : List ℕ) (slot : ℕ) (image : List ℕ) : Type 0 where
  pub size : length new ≡ 8192
  pub cell : cell_at new slot ≡ image
  pub others : (other : ℕ) → other < 63 → other ≢ slot → cell_at new other ≡ cell_at old other
  pub place : SamePlace old new
  pub lsn : lsn_of new ≡ lsn_of old
  pub digest : digest_field new ≡ digest_field old

-- the LSN is written, and nothing else changes
pub record WritesLsn (old new : List ℕ) (written : ℕ) : Type 0 where
  pub size : length new ≡ 8192
  pub lsn : lsn_of new ≡ written
  pub place : SamePlace old new
  pub cells : SameCells old new
  pub digest : digest_field new ≡ digest_field old

-- the digest is written, and nothing else changes, so that the page stores its own digest
pub record Seals (old new : List ℕ) : Type 0 where
  pub size : length new ≡ 8192
  pub stored : digest_field new ≡ page_digest old
  pub own : digest_field new ≡ page_digest new
  pub place : SamePlace old new
  pub cells : SameCells old new
  pub lsn : lsn_of new ≡ lsn_of old

-- the page of a file and number before any log record: no record changed it, and each cell is free
pub record IsFresh (page : List ℕ) (in_file at : ℕ) : Type 0 where
  pub size : length page ≡ 8192
  pub lsn : lsn_of page ≡ 0
  pub number : number_of_page page ≡ at
  pub file : file_of page ≡ in_file
  pub cells : (slot : ℕ) → slot < 63 → cell_at page slot ≡ replicate 128 0
  pub digest : digest_field page ≡ page_digest page
