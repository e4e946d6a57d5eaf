-- What the cells that are listed for the workers do to pages.
use Rattle.std.specs.Prelude.{◌≡◌, ℕ, ◌+◌, ◌<◌, List, [], fold, length, ◌==◌, if◌then◌else◌, slice_index_or}
use Rattle.std.specs.List.{All}
use Rattle.bk_ids.specs.declared.record.Rec.{Rec}
use Rattle.bk_redo.specs.declared.place.PageAt.{PageAt}
use Rattle.bk_redo.specs.declared.writes.CellWrite.{CellWrite}
use Rattle.bk_redo.specs.PageStates.{PageState, page_of}
use Rattle.bk_redo.specs.Redo.{redone_by}
use Rattle.bk_redo.specs.Frames.{Becomes, cell_redone}

-- the page of a frame after a write
abbrev pub written : ℕ → PageState → CellWrite → PageState
written frame page write = if frame == write.frame then cell_redone write.slot write.image.now write.lsn page else page

abbrev pub written_by : ℕ → List CellWrite → PageState → PageState
written_by frame writes page = fold (written frame) page writes

-- writes make of the pages of these places what records make of them, and their slots are those of cells
pub record IsListOf (places : List PageAt) (records : List Rec) (writes : List CellWrite) : Type 0 where
  pub pages : (i : ℕ) (nowhere : PageAt) (page : PageState) → i < length places → written_by i writes page ≡ redone_by (slice_index_or places i nowhere) records page
  pub slots : All (λ write. write.slot < 63) writes

-- writes are made to a part of the frames, which begins with this one
pub record PartWritten (first : ℕ) (writes : List CellWrite) (old new : List (List ℕ)) : Type 0 where
  pub size : length new ≡ length old
  pub pages : (i : ℕ) → i < length old
      → (let page = slice_index_or old i [] in Becomes page (written_by (first + i) writes (page_of page)) (slice_index_or new i []))
