-- Pages as of the numbers of a path.
-- SQL Server: "Transaction Log Architecture and Management Guide", write-ahead log; "Pages and Extents Architecture Guide".
use Rattle.std.specs.Prelude.{◌≡◌, ◌≤◌, ℕ, false, List}
use Rattle.std.specs.List.{list_any}
use Rattle.bk_ids.specs.declared.record.Rec.{Rec}
use Rattle.bk_redo.specs.declared.place.PageAt.{PageAt}
use Rattle.bk_redo.specs.PageStates.{PageState}
use Rattle.bk_redo.specs.Effects.{fills}
use Rattle.bk_redo.specs.Redo.{as_of, records_between}
use Rattle.bk_paths.specs.Paths.{end_of}

-- A page is as of some number of a path, at or above this one, from which on no load fills its extent.
pub record IsPage (records : List Rec) (since : ℕ) (at : PageAt) (page : PageState) : Type 0 where
  pub number : ℕ
  pub later : since ≤ number
  pub not_past : number ≤ end_of records
  pub unfilled : list_any (fills at) (records_between number (end_of records) records) ≡ false
  pub held : page ≡ as_of at number records

-- the page as of the end of a path
abbrev pub last_page : PageAt → List Rec → PageState
last_page at records = as_of at (end_of records) records
