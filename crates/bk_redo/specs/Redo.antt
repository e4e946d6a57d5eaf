-- The page as of a number, and redo.
use Rattle.std.specs.Prelude.{◌≡◌, ℕ, ◌+◌, ◌≤◌, Bool, false, List, [], ◌∷◌, fold, nat_lt, nat_le, not, ◌&&◌, if◌then◌else◌}
use Rattle.std.specs.List.{filter, list_any}
use Rattle.bk_ids.specs.declared.record.Rec.{Rec}
use Rattle.bk_redo.specs.declared.place.PageAt.{PageAt}
use Rattle.bk_redo.specs.PageStates.{PageState, fresh}
use Rattle.bk_redo.specs.Effects.{touches, fills, changed}

-- the records lie by rising number, from this one on
abbrev pub RiseFrom : ℕ → List Rec → Type 0
RiseFrom least [] = Unit {0}
RiseFrom least (r ∷ records) = (least ≤ r.lsn) × RiseFrom (r.lsn + 1) records

-- the records from a number on and below another
abbrev pub is_between : ℕ → ℕ → Rec → Bool
is_between from to r = nat_le from r.lsn && nat_lt r.lsn to

abbrev pub records_between : ℕ → ℕ → List Rec → List Rec
records_between from to records = filter (is_between from to) records

-- the page as of n: a fresh page changed by the records below n
abbrev pub as_of : PageAt → ℕ → List Rec → PageState
as_of at n records = fold (changed at) fresh (records_between 0 n records)

-- redo lets a record change a page with a lower number; it fills no extent, since loaded pages are there before their record is
abbrev pub redone : PageAt → PageState → Rec → PageState
redone at page r = if nat_lt page.lsn r.lsn && not (fills at r) then changed at page r else page

abbrev pub redone_by : PageAt → List Rec → PageState → PageState
redone_by at records page = fold (redone at) page records

-- A page as of c is led to b by the records from `from` on: no record before them and from c on touches it, and none from c
-- on and below b fills its extent.
pub record Leads (at : PageAt) (records : List Rec) (c from b : ℕ) : Type 0 where
  pub not_past : c ≤ b
  pub untouched : list_any (touches at) (records_between c from records) ≡ false
  pub unfilled : list_any (fills at) (records_between c b records) ≡ false
