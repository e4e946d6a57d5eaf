-- Pages of data files in the frames of a pool.
use Rattle.std.specs.Prelude.{◌≡◌, ◌⊎◌, ◌<◌, ℕ, List, [], length, Some, true, false, slice_get, slice_set, slice_index_or}
use Rattle.bk_page.specs.Page.{sealed, with_cell, with_lsn}
use Rattle.bk_pool.specs.Pool.{IsAbsent, IsIn, Pool}
use Rattle.bk_side.specs.Pages.{Entry, IsSound, batched}

-- there are frames, and of each it is told which page lies there and whether it is dirty
pub record IsPool (pool : Pool) : Type 0 where
  pub some : 0 < length pool.pages
  pub frames : length pool.frames ≡ length pool.pages
  pub marks : length pool.dirty ≡ length pool.pages

-- A page that lay in no frame was read into one that was clean.
pub record ReadsPage (shown : ℕ × ℕ → List ℕ) (old new : Pool) (file page i : ℕ) : Type 0 where
  pub absent : IsAbsent old.pages file page
  pub clean : slice_get old.dirty i ≡ Some false
  pub sound : IsSound (shown (file, page))
  pub pages : new.pages ≡ slice_set old.pages i (Some (file, page))
  pub dirty : new.dirty ≡ old.dirty
  pub frames : new.frames ≡ slice_set old.frames i (shown (file, page))

-- A page lies in a frame: it did before, or it was read.
abbrev pub Fetches : (ℕ × ℕ → List ℕ) → Pool → Pool → ℕ → ℕ → ℕ → Type 0
Fetches shown old new file page i = (IsIn old.pages i file page × (new ≡ old)) ⊎ ReadsPage shown old new file page i

-- no frame is dirty
abbrev pub AreClean : Pool → Type 0
AreClean pool = (i : ℕ) → slice_get pool.dirty i ≡ Some true → ⊥

-- the frames with another cell in a page, under the number of the record that set it; the page's frame is dirty
abbrev pub with_set : Pool → ℕ → ℕ → List ℕ → ℕ → Pool
with_set pool i slot image lsn = record pool {
  frames = slice_set pool.frames i (with_lsn (with_cell (slice_index_or pool.frames i []) slot image) lsn);
  dirty = slice_set pool.dirty i true;
}

-- one of the first n frames is dirty, and a page lies there
abbrev pub IsDirtyBelow : Pool → ℕ → ℕ × ℕ → ℕ → Type 0
IsDirtyBelow pool n at i = (i < n) × (slice_get pool.dirty i ≡ Some true) × IsIn pool.pages i at.0 at.1

-- A batch makes of each page that lies in a dirty frame among the first n what such a frame holds, with its digest, and leaves all other pages.
pub record Batches (pool : Pool) (n : ℕ) (entries : List Entry) : Type 0 where
  pub size : (at : ℕ × ℕ) (page : List ℕ) → length (batched entries at page) ≡ length page
  pub puts : (at : ℕ × ℕ) (i : ℕ) (page : List ℕ) → IsDirtyBelow pool n at i → length page ≡ 8192 → (j : ℕ) × IsDirtyBelow pool n at j × (batched entries at page ≡ sealed (slice_index_or pool.frames j []))
  pub leaves : (at : ℕ × ℕ) (page : List ℕ) → ((i : ℕ) → IsDirtyBelow pool n at i → ⊥) → batched entries at page ≡ page
