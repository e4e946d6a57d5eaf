-- What the layers above may take of pages as of numbers and of redo.
use Rattle.std.specs.Prelude.{◌≡◌, ℕ, ◌≤◌, false, List, ◌++◌, None}
use Rattle.std.specs.List.{AllByRecursion, list_any}
use Rattle.bk_ids.specs.declared.record.Rec.{Rec}
use Rattle.bk_record.specs.Log.{IsLog}
use Rattle.bk_redo.specs.declared.place.PageAt.{PageAt}
use Rattle.bk_redo.specs.PageStates.{PageState}
use Rattle.bk_redo.specs.Effects.{touches}
use Rattle.bk_redo.specs.Redo.{RiseFrom, records_between, as_of, redone_by}
use Rattle.bk_redo.specs.Frames.{FramesRedone}

-- a front of a log gives the page as of a number, if what follows lies at or above that number
abbrev pub FrontIsEnough : Type 0
FrontIsEnough = (at : PageAt) (n : ℕ) (front back : List Rec) → AllByRecursion (λ r. n ≤ r.lsn) back → as_of at n (front ++ back) ≡ as_of at n front

-- and so do the records below any number from that one on
abbrev pub BelowIsEnough : Type 0
BelowIsEnough = (at : PageAt) (n m : ℕ) (records : List Rec) → n ≤ m → as_of at n (records_between 0 m records) ≡ as_of at n records

-- a page that no record between two numbers touches is as of both the same
abbrev pub UntouchedStays : Type 0
UntouchedStays = (at : PageAt) (n m : ℕ) (records : List Rec) → n ≤ m → list_any (touches at) (records_between n m records) ≡ false → as_of at m records ≡ as_of at n records

-- records that don't touch a page, behind others, leave it as of each number
abbrev pub MoreLeavesUntouched : Type 0
MoreLeavesUntouched = (at : PageAt) (n : ℕ) (records more : List Rec) → list_any (touches at) more ≡ false → as_of at n (records ++ more) ≡ as_of at n records

-- and redo by them leaves it
abbrev pub RedoLeavesUntouched : Type 0
RedoLeavesUntouched = (at : PageAt) (records : List Rec) (page : PageState) → list_any (touches at) records ≡ false → redone_by at records page ≡ page

-- redo by the records of two ranges, one after the other, is redo by those of both
abbrev pub RangesJoin : Type 0
RangesJoin =
    (at : PageAt) (from mid to : ℕ) (log : List Rec) (page : PageState) → RiseFrom 1 log → from ≤ mid → mid ≤ to
    → redone_by at (records_between mid to log) (redone_by at (records_between from mid log) page) ≡ redone_by at (records_between from to log) page

-- frames that are redone by two slices of a log, one after the other, are redone by both together
abbrev pub SlicesJoin : Type 0
SlicesJoin =
    (places : List PageAt) (from to : ℕ) (first second : List ℕ) (records more : List Rec) (old middle new : List (List ℕ))
    → IsLog first records None → FramesRedone places (records_between from to records) old middle
    → IsLog second more None → FramesRedone places (records_between from to more) middle new
    → IsLog (first ++ second) (records ++ more) None × FramesRedone places (records_between from to (records ++ more)) old new
