-- What may happen to a closed world between two runs, and nothing else.
use Rattle.std.specs.Prelude.{◌≡◌, ◌⊎◌, ◌≤◌, ℕ, ◌+◌, ◌*◌, Bool, true, false, List, [], ◌∷◌, ◌++◌, Option, None, Some, filter, map, not, nat_lt, ◌==◌, ◌&&◌, ◌||◌, if◌then◌else◌, length, take, Contains}
use Rattle.std.specs.List.{AllByRecursion, AllZip}
use Rattle.std.specs.Str.{bytes_eq}
use Rattle.bk_ids.specs.declared.guid.Guid.{Guid}
use Rattle.bk_ids.specs.declared.unit.UnitId.{UnitId}
use Rattle.bk_ids.specs.declared.unit.UnitId.TheVariants.{File, Page}
use Rattle.bk_ids.specs.Path.{last_branch}
use Rattle.bk_world.specs.declared.database.FileSpec.{FileSpec}
use Rattle.bk_world.specs.declared.database.State.{State}
use Rattle.bk_world.specs.declared.database.State.TheVariants as state
use Rattle.bk_world.specs.declared.database.Status.TheVariants as status
use Rattle.bk_world.specs.declared.database.Unit.{Unit as RestoreUnit}
use Rattle.bk_world.specs.Lines.{RecordLine, RecordLines, has_record_line, line_on}
use Rattle.bk_world.specs.Medium.{Slot, Reading, readable, damaged, no_set, not_media, medium, medium_at, with_medium, without_medium}
use Rattle.bk_machine.specs.Sound.{IsOnce, IsNotToCome, IsSound}
use Rattle.bk_machine.specs.World.{World, Database, database_named, with_database}

-- Data files.

abbrev pub is_file : ℕ → UnitId → Bool
is_file file (File f) = f == file
is_file file (Page f p) = false

abbrev pub is_page_of : ℕ → UnitId → Bool
is_page_of file (File f) = false
is_page_of file (Page f p) = f == file

abbrev pub is_page : ℕ → ℕ → UnitId → Bool
is_page file page (File f) = false
is_page file page (Page f p) = f == file && p == page

-- the units with a file of this number Bad
abbrev pub file_lost : ℕ → List RestoreUnit → List RestoreUnit
file_lost file units = map (λ (u : RestoreUnit). if is_file file u.id then record u { state = state.Bad } else u) units

-- a page is damaged: a header page, below 8, takes its file along
abbrev pub page_lost : ℕ → ℕ → List RestoreUnit → List RestoreUnit
page_lost file page units = if nat_lt page 8 then file_lost file units else units ++ (record { id = Page file page; state = state.Bad }) ∷ []

-- a file has a page of this number: eight header pages, and eight in each extent
abbrev pub has_page : List FileSpec → ℕ → ℕ → Bool
has_page [] file page = false
has_page (f ∷ files) file page = if f.number == file then nat_lt page (8 * (f.extents + 1)) else has_page files file page

-- a page of a data file that is online, and no unit yet, is damaged
pub record PageDamaged (old new : World) : Type 0 where
  pub name : List ℕ
  pub file : ℕ
  pub page : ℕ
  pub db : Database
  pub there : database_named old.databases name ≡ Some db
  pub online : Contains db.units (record { id = File file; state = state.Online })
  pub has : has_page db.files file page ≡ true
  pub no_unit : filter (λ u. is_page file page u.id) db.units ≡ []
  pub becomes : new ≡ record old { databases = with_database old.databases name (λ d. record d { units = page_lost file page d.units }) }

-- which states of a file it can be lost from
abbrev pub CanBeLost : State → Type 0
CanBeLost state.Online = Unit {0}
CanBeLost (state.Restoring base redo) = Unit {0}
CanBeLost state.Offline = ⊥
CanBeLost state.Bad = ⊥

-- a data file that is online or being restored is removed, and its page units end
pub record FileRemoved (old new : World) : Type 0 where
  pub name : List ℕ
  pub file : ℕ
  pub state : State
  pub db : Database
  pub there : database_named old.databases name ≡ Some db
  pub was : Contains db.units (record { id = File file; state = state })
  pub can_be_lost : CanBeLost state
  pub becomes : new ≡ record old {
    databases = with_database old.databases name
        (λ d. record d { units = file_lost file (filter (λ u. not (is_page_of file u.id)) d.units) });
  }

-- Media and standby files.

pub record MediumRemoved (old new : World) : Type 0 where
  pub path : List ℕ
  pub becomes : new ≡ record old { media = without_medium old.media path }

pub record StandbyRemoved (old new : World) : Type 0 where
  pub path : List ℕ
  pub becomes : new ≡ record old { standbys = filter (λ s. not (bytes_eq s path)) old.standbys }

-- a slot stays as it was, or its digest no longer fits
abbrev pub SlotChanged : Slot → Slot → Type 0
SlotChanged old (readable header) = old ≡ readable header
SlotChanged old no_set = old ≡ no_set
SlotChanged old (damaged stored found) = Unit {0}

-- slots at the end may be gone, or the whole is no medium any more
abbrev pub ReadingChanged : Reading → Reading → Type 0
ReadingChanged old not_media = Unit {0}
ReadingChanged not_media (medium slots) = ⊥
ReadingChanged (medium before) (medium slots) = (n : ℕ) × AllZip SlotChanged (take n before) slots

pub record MediumChanged (old new : World) : Type 0 where
  pub path : List ℕ
  pub before : Reading
  pub after : Reading
  pub there : medium_at old.media path ≡ Some before
  pub changed : ReadingChanged before after
  pub becomes : new ≡ record old { media = with_medium old.media path after }

-- one list is a front of the other, and the longer stays
abbrev pub IsLonger : {A : Type 0} → List A → List A → List A → Type 0
IsLonger {A} here there joined = ((more : List A) × (here ++ more ≡ there) × (joined ≡ there)) ⊎ ((more : List A) × (there ++ more ≡ here) × (joined ≡ here))

-- two histories are joined, branch by branch, each branch once
pub record Joins (here there joined : RecordLines) : Type 0 where
  pub once : IsOnce joined
  pub lines : (branch : Guid) → has_record_line joined branch ≡ (has_record_line here branch || has_record_line there branch)
  pub records : (branch : Guid) → IsLonger (line_on here branch).records (line_on there branch).records (line_on joined branch).records

-- the other history doesn't go beyond this one on the last branch of a database that is online here
abbrev pub IsLatest : RecordLines → RecordLines → Option Guid → Type 0
IsLatest here there None = Unit {0}
IsLatest here there (Some branch) = length (line_on there branch).records ≤ length (line_on here branch).records

-- the GUIDs of a set's header that this instance must not draw again
abbrev pub SlotIsNotToCome : World → Slot → Type 0
SlotIsNotToCome w (readable header) = IsNotToCome w header.set × IsNotToCome w header.family × AllByRecursion (λ b. IsNotToCome w b.guid) header.path
SlotIsNotToCome w no_set = Unit {0}
SlotIsNotToCome w (damaged stored found) = Unit {0}

abbrev pub ReadingIsNotToCome : World → Reading → Type 0
ReadingIsNotToCome w not_media = Unit {0}
ReadingIsNotToCome w (medium slots) = AllByRecursion (SlotIsNotToCome w) slots

-- A medium is added where none is: one that stood in another closed world, which a run came to, of an earlier time or of another instance.
pub record MediumAdded (old new : World) : Type 0 where
  pub path : List ℕ
  pub other : World
  pub reading : Reading
  pub history : RecordLines
  pub none_there : medium_at old.media path ≡ None
  pub stood : (at : List ℕ) × (medium_at other.media at ≡ Some reading)
  pub was_closed : other.closed ≡ true
  pub was_sound : IsSound other
  pub joins : Joins old.history other.history history
  pub latest : AllByRecursion (λ (db : Database). db.status ≡ status.Online → IsLatest old.history other.history (last_branch db.path)) old.databases
  pub not_to_come : ReadingIsNotToCome old reading × AllByRecursion (λ (line : RecordLine). IsNotToCome old line.branch) other.history
  pub becomes : new ≡ record old { media = (path, reading) ∷ old.media; history = history }

-- one event
abbrev pub Happens : World → World → Type 0
Happens old new = PageDamaged old new ⊎ (FileRemoved old new ⊎ (MediumRemoved old new ⊎ (StandbyRemoved old new ⊎ (MediumChanged old new ⊎ MediumAdded old new))))

-- any number of events, which leave a closed world closed
pub data Happen : World → World → Type 0 where
  nothing_more : {w : World} → Happen w w
  one_more : {old mid new : World} → Happens old mid → Happen mid new → Happen old new
