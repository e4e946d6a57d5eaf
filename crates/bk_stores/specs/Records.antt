-- The records that an instance puts while stores are made and removed.
use Rattle.std.specs.Prelude.{◌≡◌, ◌≤◌, ◌+◌, ◌∷◌, ℕ, true, false, List, [], length, remove, set}
use Rattle.std.specs.List.{AllByRecursion}
use Rattle.bk_facts.specs.declared.facts.DataFile.{DataFile}
use Rattle.bk_master.specs.declared.record.Entry.{Entry}
use Rattle.bk_master.specs.declared.record.Own.{Own}
use Rattle.bk_master.specs.declared.record.Record.{Record}
use Rattle.bk_master.specs.declared.record.Unfinished.{Unfinished}
use Rattle.bk_master.specs.Spelling.{IsShortPath}
use Rattle.bk_store.specs.Told.{Told}
use Rattle.bk_stores.specs.Beside.{AreApart, ShareNoFile}
use Rattle.bk_stores.specs.Stores.{IsAt, its_files}

-- a store with data files at these paths
abbrev pub unfinished_at : ℕ → List (List ℕ) → Unfinished
unfinished_at store paths = record { store = store; paths = paths }

-- the record that names the store of the next number as one that is being made, with data files at these paths
abbrev pub begun : Record → List (List ℕ) → Record
begun r paths = record r { next = r.next + 1; unfinished = unfinished_at r.next paths ∷ [] }

-- a record with these entries, under which nothing is being made or removed
abbrev pub rested : Record → List Entry → Record
rested r entries = record r { databases = entries; unfinished = [] }

-- the same record with another own part
abbrev pub owned : Record → Own → Record
owned r own = record r { own = own }

-- the entry of a store of this number, with its pages and its log
abbrev pub stored_entry : ℕ → Entry
stored_entry number = record { store = number; is_stored = true }

-- the entry of a store of this number, of which its note alone tells
abbrev pub parked_entry : ℕ → Entry
parked_entry number = record { store = number; is_stored = false }

-- paths that a record may name: at most 16, each of 1 to 100 bytes
pub record AreSmall (paths : List (List ℕ)) : Type 0 where
  pub few : length paths ≤ 16
  pub short : AllByRecursion IsShortPath paths

-- no data file of the databases is one of these
abbrev pub SharesNone : List Entry → List Told → List DataFile → Type 0
SharesNone entries tolds files = (i : ℕ) (e : Entry) (t : Told) → IsAt entries tolds i e t → ShareNoFile files (its_files e t)

-- a store of this number with these data files shares no name with that of a database
abbrev pub IsApart : List Entry → List Told → ℕ → List DataFile → Type 0
IsApart entries tolds db files = (i : ℕ) (e : Entry) (t : Told) → IsAt entries tolds i e t → AreApart db files e.store (its_files e t)

-- the record without the entry at a place, that names its store as one that is being removed, with data files at these paths
abbrev pub left_out : Record → ℕ → ℕ → List (List ℕ) → Record
left_out r at store paths = record r { databases = remove r.databases at; unfinished = unfinished_at store paths ∷ [] }

-- the record in which another store is that of the database at a place, and the one that was is named as one that is being removed, with data files at these paths
abbrev pub swapped : Record → ℕ → Entry → ℕ → List (List ℕ) → Record
swapped r at x store paths = record r { databases = set r.databases at x; unfinished = unfinished_at store paths ∷ [] }

-- a store of this number with these data files shares no name with that of another database than the one at a place
abbrev pub IsApartBut : List Entry → List Told → ℕ → ℕ → List DataFile → Type 0
IsApartBut entries tolds at db files = (i : ℕ) (e : Entry) (t : Told) → (at ≡ i → ⊥) → IsAt entries tolds i e t → AreApart db files e.store (its_files e t)
