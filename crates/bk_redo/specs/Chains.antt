-- Chains of backup sets, as far as pages go. SQL Server: "Restore and recovery overview"; "Recovery Paths".
use Rattle.std.specs.Prelude.{◌≡◌, ℕ, Bool, true, List, [], ◌∷◌, fold, Option, unwrap_or, MatchOption}
use Rattle.bk_ids.specs.declared.record.Rec.{Rec}
use Rattle.bk_redo.specs.declared.place.PageAt.{PageAt}
use Rattle.bk_redo.specs.PageStates.{PageState}
use Rattle.bk_redo.specs.Redo.{RiseFrom, Leads, records_between, as_of, redone_by}

-- what a backup set brings: the records of its path, its log, from which number and up to which the log is taken, and its copies of pages
pub record PageSet : Type 0 where
  pub path : List Rec
  pub log : List Rec
  pub from : ℕ
  pub to : ℕ
  pub copied : PageAt → Option PageState

-- Pages that are as of a point on a path follow a set: below the point both paths have the same records, the set's log is its
-- path's, and each page leads to the set's end: its copy from some number on, or the page itself from the point on.
pub record Follows (pages : PageAt → Bool) (path : List Rec) (point : ℕ) (set : PageSet) : Type 0 where
  pub rises : RiseFrom 1 set.path
  pub agrees : records_between 0 point path ≡ records_between 0 point set.path
  pub log_of_path : records_between set.from set.to set.log ≡ records_between set.from set.to set.path
  pub leads : (at : PageAt) → pages at ≡ true
      → MatchOption (set.copied at) (Leads at set.path point set.from set.to) (λ page. (c : ℕ) × (page ≡ as_of at c set.path) × Leads at set.path c set.from set.to)

-- a page after a set: its copy, or else the page as it was, redone by the set's log
abbrev pub after_set : PageAt → PageState → PageSet → PageState
after_set at page set = redone_by at (records_between set.from set.to set.log) (unwrap_or (set.copied at) page)

abbrev pub after_sets : PageAt → List PageSet → PageState → PageState
after_sets at sets page = fold (after_set at) page sets

-- pages that are as of a point on a path follow the first set, and then each set the one before it
abbrev pub IsChain : (PageAt → Bool) → List Rec → ℕ → List PageSet → Type 0
IsChain pages path point [] = Unit {0}
IsChain pages path point (set ∷ sets) = Follows pages path point set × IsChain pages set.path set.to sets

-- the path of the last set, and its end
abbrev pub last_path : List Rec → List PageSet → List Rec
last_path path [] = path
last_path path (set ∷ sets) = last_path set.path sets

abbrev pub last_point : ℕ → List PageSet → ℕ
last_point point [] = point
last_point point (set ∷ sets) = last_point set.to sets
