-- What the layers above may take of paths, of pages as of their numbers, and of what settles them.
use Rattle.std.specs.Prelude.{◌≡◌, ◌≤◌, ℕ, ◌^◌, false, List, [], ◌++◌, fold, length, map, take}
use Rattle.std.specs.List.{AllByRecursion, list_any}
use Rattle.bk_ids.specs.declared.record.Rec.{Rec}
use Rattle.bk_segments.specs.Records.{Numbered}
use Rattle.bk_redo.specs.RecordSpelling.{IsRecord}
use Rattle.bk_redo.specs.declared.place.PageAt.{PageAt}
use Rattle.bk_redo.specs.PageStates.{PageState}
use Rattle.bk_redo.specs.Effects.{fills, changed}
use Rattle.bk_redo.specs.Redo.{records_between, redone_by}
use Rattle.bk_undo.specs.Losers.{pending, compensation}
use Rattle.bk_undo.specs.Spelled.{spelled}
use Rattle.bk_undo.specs.WorldCut.{end_behind, settled as settled_log}
use Rattle.bk_undo.specs.WorldPending.{pending as open_in}
use Rattle.bk_undo.specs.WorldRecords.{Counts, Deed, Logged, loaded}
use Rattle.bk_paths.specs.Pages.{IsPage, last_page}
use Rattle.bk_paths.specs.Paths.{IsPath, KeepsOpen, end_of, kept_from, settled, undoing}

-- ---- records

-- each front of a path is one
abbrev pub FrontIsPath : Type 0
FrontIsPath = (front back : List Rec) → IsPath (front ++ back) → IsPath front

-- and so are more records behind its end
abbrev pub MoreIsPath : Type 0
MoreIsPath = (front back : List Rec) → IsPath front → Numbered (end_of front) back → AllByRecursion IsRecord back → AllByRecursion (λ r. r.begin ≤ r.lsn) back → IsPath (front ++ back)

-- a log that is kept from a number on has the numbers from there on
abbrev pub KeptAreNumbered : Type 0
KeptAreNumbered = (records : List Rec) (kept : ℕ) → IsPath records → 1 ≤ kept → kept ≤ end_of records → Numbered kept (kept_from kept records)

-- ---- pages

-- what is said behind a path leaves a page as of some number of it, unless it fills the page's extent
abbrev pub MoreKeepsPage : Type 0
MoreKeepsPage = (front back : List Rec) (since : ℕ) (at : PageAt) (page : PageState) → IsPath (front ++ back) → list_any (fills at) back ≡ false → IsPage front since at page → IsPage (front ++ back) since at page

-- a page as of the end is as of some number from any one on
abbrev pub LastIsPage : Type 0
LastIsPage = (records : List Rec) (since : ℕ) (at : PageAt) → since ≤ end_of records → IsPage records since at (last_page at records)

-- the page as of the end behind more records is the one before them, changed by them
abbrev pub MoreChangesLast : Type 0
MoreChangesLast = (front back : List Rec) (at : PageAt) → IsPath (front ++ back) → last_page at (front ++ back) ≡ fold (changed at) (last_page at front) back

-- redo by what a log holds brings a page to the end, where the log is kept from the page's number or below it
abbrev pub RedoBringsToEnd : Type 0
RedoBringsToEnd =
    (records : List Rec) (kept since : ℕ) (at : PageAt) (page : PageState) → IsPath records → 1 ≤ kept → kept ≤ since → IsPage records since at page
    → redone_by at (records_between since (end_of records) (kept_from kept records)) page ≡ last_page at records

-- ---- what settles a path

-- nothing is pending in a settled path
abbrev pub NothingPends : Type 0
NothingPends = (records : List Rec) → IsPath records → pending (settled records) ≡ []

-- a settled path is a path, while there are numbers
abbrev pub SettledIsPath : Type 0
SettledIsPath = (records : List Rec) → IsPath records → end_of (settled records) ≤ 2 ^ 64 → IsPath (settled records)

-- what settles a path fills no extent
abbrev pub UndoingFillsNothing : Type 0
UndoingFillsNothing = (records : List Rec) (at : PageAt) → list_any (fills at) (undoing records) ≡ false

-- recovery of a recovery: a path that is settled in part settles to the same
abbrev pub SettledAgain : Type 0
SettledAgain = (records : List Rec) (k : ℕ) → IsPath records → length records ≤ k → settled (take k (settled records)) ≡ settled records

-- what a log holds is enough to settle the path, where it keeps what is open
abbrev pub KeptIsEnough : Type 0
KeptIsEnough = (records : List Rec) (kept : ℕ) → IsPath records → 1 ≤ kept → KeepsOpen kept records → compensation (end_of records) (kept_from kept records) ≡ compensation (end_of records) records

-- and it keeps what is open in a path that is settled in part
abbrev pub SettlingKeepsOpen : Type 0
SettlingKeepsOpen = (records : List Rec) (kept k : ℕ) → length records ≤ k → KeepsOpen kept records → KeepsOpen kept (take k (settled records))

-- a record that is no minimal load
abbrev pub IsPlain : Logged → Type 0
IsPlain r = is_plain r.deed
  where
    is_plain : Deed → Type 0
    is_plain (loaded load) = ⊥
    is_plain _ = Unit {0}

-- what settles a path is what settles the machine's log whose records it spells, where no minimal load is in it
abbrev pub SettlesAsTheMachine : Type 0
SettlesAsTheMachine = (rs : List Logged) → Counts 1 rs (end_behind rs) → AllByRecursion IsPlain rs → settled (map spelled rs) ≡ map spelled (settled_log rs)

-- a log that keeps what is open of the machine's log keeps what is open of the path whose records it spells
abbrev pub KeepsOpenAsTheMachine : Type 0
KeepsOpenAsTheMachine = (rs : List Logged) (kept : ℕ) → AllByRecursion IsPlain rs → AllByRecursion (λ w. kept ≤ w.begin) (open_in rs) → KeepsOpen kept (map spelled rs)
