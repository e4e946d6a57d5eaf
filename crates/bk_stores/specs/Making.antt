-- Databases that are made and removed beside others.
use Rattle.std.specs.Prelude.{Bool, ◌≡◌, ◌<◌, ◌∷◌, ◌++◌, ◌⊎◌, ℕ, List, [], length, remove, set, Option, None, Some, slice_get, false}
use Rattle.bk_device.specs.Disk.{Disk}
use Rattle.bk_device.specs.Effects.{Effect}
use Rattle.bk_master.specs.declared.record.Entry.{Entry}
use Rattle.bk_master.specs.Spelling.{KeepsOwn}
use Rattle.bk_paged.specs.Names.{names_of}
use Rattle.bk_store.specs.Store.{Kept as KeptStore}
use Rattle.bk_store.specs.Told.{Told}
use Rattle.bk_stores.specs.Beside.{AreApart}
use Rattle.bk_stores.specs.Records.{IsApart, IsApartBut}
use Rattle.bk_stores.specs.Stores.{Fixed, IsOurs, IsSlot, Kept, LeavesStores, at_paths, fixed_of, its_files, sealed_at, sealed_by, sealed_of}

-- A store that was just opened: calls may be made on it, and each of its records is durable.
pub record IsSealed (s : KeptStore) : Type 0 where
  pub fit : s.paged.failed ≡ false
  pub all : s.paged.log.stored ≡ s.paged.log.«end»

-- one more database, stored or not; without one; another in one's place
abbrev pub more_stored : Fixed → Bool → Fixed
more_stored fixed stored = record fixed { stored = fixed.stored ++ stored ∷ [] }

abbrev pub less_stored : Fixed → ℕ → Fixed
less_stored fixed at = record fixed { stored = remove fixed.stored at }

abbrev pub set_stored : Fixed → ℕ → Bool → Fixed
set_stored fixed at stored = record fixed { stored = set fixed.stored at stored }

-- how many records of the databases are durable, where one more is there with all of its own
abbrev pub sealed_more : Kept → List Told → Told → ℕ → ℕ
sealed_more s tolds new i = sealed_of (slice_get (s.slots ++ None ∷ []) i) (slice_get (tolds ++ new ∷ []) i)

-- a crash leaves the databases that were there, or these and one more, each time with the record's own part and those stored
abbrev pub Creates : Kept → List Told → Bool → Told → Disk → Disk → Type 0
Creates s tolds stored new old after =
    Effect IsOurs (λ image. LeavesStores (fixed_of s.master.record) (sealed_at s tolds) tolds image ⊎ LeavesStores (more_stored (fixed_of s.master.record) stored) (sealed_more s tolds new) (tolds ++ new ∷ []) image) old after

-- A database may be added behind the others: its store, all of whose records are durable, shares no name with theirs.
pub record MayAdd (disk : Disk) (s : Kept) (tolds : List Told) (x : Entry) (slot : Option KeptStore) (new : Told) : Type 0 where
  pub stands : IsSlot disk x slot new
  pub sealed : sealed_by slot new ≡ length new.records
  pub apart : IsApart s.master.record.databases tolds x.store (its_files x new)

-- a store of this number may be added to the entries: it was begun, and there is room
pub record Adds (s : Kept) (number : ℕ) : Type 0 where
  pub below : number < s.master.record.next
  pub few : length s.slots < 16
  pub count : length s.slots ≡ length s.master.record.databases
  pub own : KeepsOwn s.master.record.own

-- a database may be removed whose data files, if it has some, lie at these paths
pub record MayRemove (s : Kept) (tolds : List Told) (at : ℕ) (told : Told) (paths : List (List ℕ)) : Type 0 where
  pub there : slice_get tolds at ≡ Some told
  pub names : (e : Entry) → slice_get s.master.record.databases at ≡ Some e → names_of (at_paths paths) ≡ names_of (its_files e told)

-- how many records of the databases are durable, without the one at a place
abbrev pub sealed_without : Kept → List Told → ℕ → ℕ → ℕ
sealed_without s tolds at i = sealed_of (slice_get (remove s.slots at) i) (slice_get (remove tolds at) i)

-- a crash leaves all databases, or those without one, each time with the record's own part and those stored
abbrev pub Drops : Kept → List Told → ℕ → Disk → Disk → Type 0
Drops s tolds at old after =
    Effect IsOurs (λ image. LeavesStores (fixed_of s.master.record) (sealed_at s tolds) tolds image ⊎ LeavesStores (less_stored (fixed_of s.master.record) at) (sealed_without s tolds at) (remove tolds at) image) old after

-- Another store, which is begun and whole, may be put in the place of a database's: its name is below the next one, and it shares no file with the others, nor with the one that was, whose data files lie at these paths.
pub record MaySwap (disk : Disk) (s : Kept) (tolds : List Told) (at : ℕ) (told : Told) (x : Entry) (slot : Option KeptStore) (new : Told) (paths : List (List ℕ)) : Type 0 where
  pub there : slice_get tolds at ≡ Some told
  pub below : x.store < s.master.record.next
  pub stands : IsSlot disk x slot new
  pub sealed : sealed_by slot new ≡ length new.records
  pub apart : IsApartBut s.master.record.databases tolds at x.store (its_files x new)
  pub aside : (e : Entry) → slice_get s.master.record.databases at ≡ Some e → AreApart e.store (its_files e told) x.store (its_files x new) × (names_of (at_paths paths) ≡ names_of (its_files e told))

-- how many records of the databases are durable, where another store with all of its own is that of the one at a place
abbrev pub sealed_swapped : Kept → List Told → ℕ → Told → ℕ → ℕ
sealed_swapped s tolds at new i = sealed_of (slice_get (set s.slots at None) i) (slice_get (set tolds at new) i)

-- a crash leaves the databases that were there, or these with another in one's place, each time with the record's own part and those stored
abbrev pub Swaps : Kept → List Told → ℕ → Bool → Told → Disk → Disk → Type 0
Swaps s tolds at stored new old after =
    Effect IsOurs (λ image. LeavesStores (fixed_of s.master.record) (sealed_at s tolds) tolds image ⊎ LeavesStores (set_stored (fixed_of s.master.record) at stored) (sealed_swapped s tolds at new) (set tolds at new) image) old after
