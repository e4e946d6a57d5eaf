-- What redo does to frames.
use Rattle.std.specs.Prelude.{◌≡◌, ◌≢◌, ℕ, ◌<◌, ◌≤◌, Bool, false, List, [], ◌++◌, length, Option, Some, None, nat_lt, ◌==◌, if◌then◌else◌, slice_set, slice_index_or}
use Rattle.std.specs.Ordering.{nat_cmp, ordering_then}
use Rattle.std.specs.declared.cmp.Ordering.{Ordering}
use Rattle.std.specs.BTreeMap.{is_at}
use Rattle.std.specs.Map.{lookup}
use Rattle.bk_ids.specs.declared.record.Place.{Place}
use Rattle.bk_ids.specs.declared.record.Rec.{Rec}
use Rattle.bk_page.specs.Page.{part, digest_field}
use Rattle.bk_page.specs.Changes.{SamePlace}
use Rattle.bk_redo.specs.declared.place.PageAt.{PageAt}
use Rattle.bk_redo.specs.PageStates.{PageState, page_of}
use Rattle.bk_redo.specs.Effects.{Effect, sets_cell, effect_of}
use Rattle.bk_redo.specs.Redo.{is_between, redone_by}

-- the bytes of a page that tell nothing
unfoldable pub unused_bytes : List ℕ → List ℕ
unused_bytes page = part page 14 18 ++ part page 64 32 ++ part page 8160 32

-- bytes become those of a page: they hold it, and all else of them stays, the digest too
pub record Becomes (old : List ℕ) (page : PageState) (new : List ℕ) : Type 0 where
  pub held : page_of new ≡ page
  pub place : SamePlace old new
  pub digest : digest_field new ≡ digest_field old
  pub unused : unused_bytes new ≡ unused_bytes old

-- frames are redone by records: the pages of some places, one after the other, and no other page
pub record FramesRedone (places : List PageAt) (records : List Rec) (old new : List (List ℕ)) : Type 0 where
  pub size : length new ≡ length old
  pub pages : (i : ℕ) (nowhere : PageAt) → i < length places
      → (let page = slice_index_or old i [] in Becomes page (redone_by (slice_index_or places i nowhere) records (page_of page)) (slice_index_or new i []))
  pub others : (i : ℕ) → length places ≤ i → slice_index_or new i [] ≡ slice_index_or old i []

-- a page whose cell is set by redo
abbrev pub cell_redone : ℕ → List ℕ → ℕ → PageState → PageState
cell_redone slot image lsn page = if nat_lt page.lsn lsn then record { lsn = lsn; cells = slice_set page.cells slot image } else page

-- the cell that an effect sets
abbrev pub cell_set : Effect → Option (Place × List ℕ)
cell_set (sets_cell place image) = Some (place, image)
cell_set _ = None

-- the cell that a record sets, if its number is in a range
abbrev pub cell_between : ℕ → ℕ → Rec → Option (Place × List ℕ)
cell_between from to r = if is_between from to r then cell_set (effect_of r.body) else None

-- the order of pages: by file, then by number
abbrev pub page_cmp : PageAt → PageAt → Ordering
page_cmp a b = ordering_then (nat_cmp a.file b.file) (nat_cmp a.page b.page)

-- the frame of a page among the first n places, if it is one of them
abbrev pub IsFrameOf : List PageAt → ℕ → PageAt → Option ℕ → Type 0
IsFrameOf places n at None = (k : ℕ) (nowhere : PageAt) → k < n → slice_index_or places k nowhere ≢ at
IsFrameOf places n at (Some i) = (i < n) × ((nowhere : PageAt) → slice_index_or places i nowhere ≡ at)

-- a map has the frames of the first n places
abbrev pub IsIndex : List PageAt → ℕ → List (PageAt × ℕ) → Type 0
IsIndex places n entries = (at : PageAt) → IsFrameOf places n at (lookup (is_at (page_cmp at)) entries)

-- a frame is this one
abbrev pub is_frame : Option ℕ → ℕ → Bool
is_frame None k = false
is_frame (Some i) k = k == i
