-- Pages that arrive eight at a time.
use Rattle.std.specs.Prelude.{◌≡◌, ◌≤◌, ◌⊎◌, ◌<◌, ◌+◌, ◌-◌, ◌/◌, ◌%◌, nat_lt, if◌then◌else◌, ℕ, zero, suc, List, [], ◌∷◌, ◌++◌, drop, length, Option, Some, None, slice_get}
use Rattle.std.specs.List.{AllByRecursion}
use Rattle.std.specs.Option.{option_map_or}
use Rattle.bk_body.specs.Body.{Extent}
use Rattle.bk_device.specs.Disk.{Files, Disk}
use Rattle.bk_facts.specs.declared.facts.DataFile.{DataFile}
use Rattle.bk_filling.specs.Filling.{Kept as KeptData}
use Rattle.bk_ids.specs.declared.record.Rec.{Rec}
use Rattle.bk_page.specs.Page.{fresh_page}
use Rattle.bk_restoring.specs.Arriving.{IsArriving, IsBegun, Kept}
use Rattle.bk_segments.specs.Files.{AreDurable as LogsAreDurable}
use Rattle.bk_arriving.specs.Extents.{HasExtents, extents_of, extents_on}
use Rattle.bk_arriving.specs.Sets.{places}

-- how many pages the data file of the next page has
abbrev pub pages_here : KeptData → ℕ
pages_here f = option_map_or (λ d. d.pages) (slice_get f.files f.whole) 0

-- the same data files, with so many pages more of that file
abbrev pub ahead : KeptData → ℕ → KeptData
ahead f n = if nat_lt (f.page + n) (pages_here f) then (record f { page = f.page + n }) else (record f { whole = f.whole + 1; page = 0 })

-- Whole extents are there, of data files of such.
pub record IsEven (f : KeptData) : Type 0 where
  pub files : AllByRecursion HasExtents f.files
  pub inside : f.whole < length f.files → f.page < pages_here f
  pub even : f.page % 8 ≡ 0

-- no header page comes next
abbrev pub IsPast : KeptData → Type 0
IsPast f = f.whole < length f.files → 8 ≤ f.page

-- header pages come next
abbrev pub IsDue : KeptData → Type 0
IsDue f = (f.whole < length f.files) × (f.page ≡ 0)

-- so many files are whole, or no header page comes next
abbrev pub HasTurned : ℕ → KeptData → Type 0
HasTurned k f = (k ≤ f.whole) ⊎ IsPast f

-- the data extents that are still to come, of these data files
abbrev pub rest_in : ℕ → ℕ → List DataFile → List (ℕ × ℕ)
rest_in whole page [] = []
rest_in whole zero (d ∷ files) = extents_of (whole + 1) (d ∷ files)
rest_in whole (suc p) (d ∷ files) = extents_on (whole + 1) (suc p / 8) ((d.pages - suc p) / 8) ++ extents_of (whole + 1 + 1) files

abbrev pub rest_of : KeptData → List (ℕ × ℕ)
rest_of f = rest_in f.whole f.page (drop f.whole f.files)

-- these are the extents from an index on
abbrev pub Remain : ℕ → List Extent → KeptData → Type 0
Remain i extents f = places (drop i extents) ≡ rest_of f

-- the extent of this file and number comes next
abbrev pub IsNext : KeptData → Option (ℕ × ℕ) → Type 0
IsNext f None = ⊥
IsNext f (Some place) = (f.whole < length f.files) × (place.0 ≡ f.whole + 1) × (place.1 ≡ f.page / 8)

-- pages were added to a database that arrives, and its log is as it was
pub record Advances (old new : Kept) : Type 0 where
  pub even : IsEven new.filling
  pub files : new.filling.files ≡ old.filling.files
  pub log : new.log ≡ old.log

-- it stands as before, and nothing is pending in its log where nothing was
pub record Stays (old new : Kept) (a b : Disk) : Type 0 where
  pub begun : IsBegun b new
  pub durable : LogsAreDurable old.log.db a → LogsAreDurable old.log.db b

-- so many pages are these, from a place on
abbrev pub AreAt : (ℕ × ℕ → List ℕ) → ℕ × ℕ → ℕ → (ℕ → List ℕ) → Type 0
AreAt given place n page = (j : ℕ) → j < n → given (place.0, place.1 + j) ≡ page j

-- header pages are fresh
abbrev pub HasHeaders : (ℕ × ℕ → List ℕ) → Type 0
HasHeaders given = (file number : ℕ) → number < 8 → given (file, number) ≡ fresh_page file number

-- pages that arrived were these, where so were those before them
abbrev pub Brings : (ℕ × ℕ → List ℕ) → Kept → Kept → Files → Files → Type 0
Brings given old new a b = (records : List Rec) → IsArriving a old given records → IsArriving b new given records
