-- Stores of which one is lent out, says something, and is given back.
use Rattle.std.proofs.Common.{◌≡◌, ◌<◌, ◌⊎◌, ℕ, false, inl, inr, List, length, Option, Some, None, sym, ap, subst, ◌∙◌, arith}
use Rattle.std.specs.Prelude.{set, slice_get}
use Rattle.std.proofs.lemmas.List.{length-set}
use Rattle.bk_device.specs.Disk.{Disk, Files}
use Rattle.bk_device.specs.Effects.{Effect}
use Rattle.bk_facts.specs.declared.facts.DataFile.{DataFile}
use Rattle.bk_master.specs.declared.record.Entry.{Entry}
use Rattle.bk_paged.specs.Names.{IsOwn}
use Rattle.bk_paged.specs.Paged.{Standing, Touches}
use Rattle.bk_store.specs.Store.{Crashes, IsStore, sealed_in, Kept as KeptStore}
use Rattle.bk_store.specs.Told.{LeavesRecords, Told, data_files}
use Rattle.bk_stores.specs.ChangeLaws.{changed-crash, changed-either, changed-stands}
use Rattle.bk_stores.specs.ListLaws.{got, got-inside, got-set}
use Rattle.bk_stores.specs.SlotLaws.{entry-stored}
use Rattle.bk_stores.specs.Standing.{AreStanding}
use Rattle.bk_stores.specs.StandingLaws.{given, lent-called, taken}
use Rattle.bk_stores.specs.Stores.{AreStores, IsAt, IsOfEntry, IsOpen, IsOurs, Kept, LeavesStores, fixed_of, files_by, sealed_at}
use Rattle.bk_hosting.specs.Hosting.{IsOpenAt}
use Rattle.bk_hosting.specs.Saying.{NotesOn}
use Rattle.bk_hosting.proofs.Lists.{set-set}

-- ---- a store that is open

pub record OpenAt (a : Disk) (s : Kept) (tolds : List Told) (at : ℕ) (told : Told) (store : KeptStore) : Type 0 where
  pub e : Entry
  pub is_at : IsAt s.master.record.databases tolds at e told
  pub opened : IsOpen a e store told

pub open-at : (a : Disk) (s : Kept) (tolds : List Told) (at : ℕ) (told : Told) (store : KeptStore) → AreStores a s tolds → slice_get tolds at ≡ Some told → slice_get s.slots at ≡ Some (Some store) → OpenAt a s tolds at told store
open-at a s tolds at told store is here filled =
    let inside : at < length s.master.record.databases = let lt = got-inside tolds at told here in let same = is.standing.entries.count in omega (arith, lt, same) in
    let entry = got s.master.record.databases at inside in
    record { e = entry.0; is_at = (entry.1, here); opened = is.standing.stand at entry.0 (Some store) told (entry.1, here) filled }

pub its-store : (a : Disk) (s : Kept) (tolds : List Told) (at : ℕ) (told : Told) (store : KeptStore) → AreStores a s tolds → slice_get tolds at ≡ Some told → slice_get s.slots at ≡ Some (Some store) → IsStore a store told
its-store a s tolds at told store is here filled = (open-at a s tolds at told store is here filled).opened.store

-- the names of its files are those of its entry's
as-entry : {P : Files → Type 0} {a b : Disk} (e : Entry) (store : KeptStore) (told : Told) → IsOpen a e store told → Effect (IsOwn store.paged.log.db (data_files told)) P a b → Effect (IsOfEntry e told) P a b
as-entry {P} {a} {b} e store told is effect =
    subst (λ (fs : List DataFile). Effect (IsOwn e.store fs) P a b) (sym (ap (λ (stored : _). files_by stored told) is.stored))
    (subst (λ (n : ℕ). Effect (IsOwn n (data_files told)) P a b) is.number effect)

-- ---- it says something

-- what it was before and is then
pub record Called (P : Files → Type 0) (a b : Disk) (store then : KeptStore) (told new : Told) : Type 0 where
  pub same : data_files new ≡ data_files told
  pub number : then.paged.log.db ≡ store.paged.log.db
  pub fit : then.paged.failed ≡ false
  pub stands : IsStore b then new
  pub crash : Effect (IsOwn store.paged.log.db (data_files told)) P a b

pub store-crash : (a b : Disk) (s : Kept) (tolds : List Told) (at : ℕ) (told new : Told) (store : KeptStore) → AreStores a s tolds → slice_get tolds at ≡ Some told → slice_get s.slots at ≡ Some (Some store) → data_files new ≡ data_files told
    → Crashes store new a b → Effect IsOurs (LeavesStores (fixed_of s.master.record) (sealed_at s tolds) (set tolds at new)) a b
store-crash a b s tolds at told new store is here filled same crash =
    let here' = open-at a s tolds at told store is here filled in
    let effect : Effect (IsOwn store.paged.log.db (data_files told)) (λ image. LeavesRecords store.paged.log.db (sealed_in store) new image) a b =
    subst (λ (fs : List DataFile). Effect (IsOwn store.paged.log.db fs) (λ image. LeavesRecords store.paged.log.db (sealed_in store) new image) a b) same crash in
    changed-crash s tolds at here'.e told new (Some store) is here'.is_at filled same
    (λ image left. entry-stored here'.e store.paged.log.db (sealed_in store) new image here'.opened.number here'.opened.stored left)
    (as-entry here'.e store told here'.opened effect)

pub store-stands : {P : Files → Type 0} (a b : Disk) (s new_stores : Kept) (tolds : List Told) (at : ℕ) (told new : Told) (store then : KeptStore) → AreStores a s tolds → slice_get tolds at ≡ Some told → slice_get s.slots at ≡ Some (Some store)
    → Called P a b store then told new → new_stores ≡ record s { slots = set s.slots at (Some then) } → AreStores b new_stores (set tolds at new)
store-stands a b s new_stores tolds at told new store then is here filled called same =
    let here' = open-at a s tolds at told store is here filled in
    subst (λ (k : Kept). AreStores b k (set tolds at new)) (sym same)
    (changed-stands s tolds at here'.e told new (Some then) is here'.is_at called.same (as-entry here'.e store told here'.opened called.crash)
    (record { number = called.number ∙ here'.opened.number; stored = here'.opened.stored; fit = called.fit; store = called.stands }))

-- a crash meanwhile, where it leaves of the store what it was or what it is then
pub store-either : (a b : Disk) (s : Kept) (tolds : List Told) (at : ℕ) (told new : Told) (store : KeptStore) → AreStores a s tolds → slice_get tolds at ≡ Some told → slice_get s.slots at ≡ Some (Some store) → data_files new ≡ data_files told
    → Effect (IsOwn store.paged.log.db (data_files told)) (λ image. LeavesRecords store.paged.log.db (sealed_in store) told image ⊎ LeavesRecords store.paged.log.db (sealed_in store) new image) a b → NotesOn s tolds at new a b
store-either a b s tolds at told new store is here filled same crash =
    let here' = open-at a s tolds at told store is here filled in
    changed-either s tolds at here'.e told new (Some store) is here'.is_at filled same
    (λ image left. elim left [
      | inl before ↦ inl (entry-stored here'.e store.paged.log.db (sealed_in store) told image here'.opened.number here'.opened.stored before)
      | inr after ↦ inr (entry-stored here'.e store.paged.log.db (sealed_in store) new image here'.opened.number here'.opened.stored after)
    ]) (as-entry here'.e store told here'.opened crash)

-- ---- what stands

pub store-standing : (a b : Disk) (s mid new : Kept) (at : ℕ) (store then : KeptStore) → AreStanding a s → slice_get s.slots at ≡ Some (Some store) → mid.master ≡ s.master → mid.slots ≡ set s.slots at None → new.master ≡ mid.master
    → new.slots ≡ set mid.slots at (Some then) → Touches store.paged a b → Standing b then.paged → then.paged.failed ≡ false → then.paged.log.db ≡ store.paged.log.db → then.paged.facts.files ≡ store.paged.facts.files → AreStanding b new
store-standing a b s mid new at store then is filled master slots master' slots' touches stands fit number files =
    let lent = taken s mid at store is filled master slots in
    let called = lent-called mid at store then lent.0 lent.1 touches stands fit number files in
    given mid new at then called.0 called.1 master' slots'

-- the store that was lent out
pub lent-standing : (a : Disk) (s mid : Kept) (at : ℕ) (store : KeptStore) → AreStanding a s → slice_get s.slots at ≡ Some (Some store) → mid.master ≡ s.master → mid.slots ≡ set s.slots at None → Standing a store.paged
lent-standing a s mid at store is filled master slots = (taken s mid at store is filled master slots).1.stands.2.standing

-- these are the stores with another one in that place
pub given-slots : (s mid new : Kept) (at : ℕ) (then : KeptStore) → mid.master ≡ s.master → mid.slots ≡ set s.slots at None → new.master ≡ mid.master → new.slots ≡ set mid.slots at (Some then) → new ≡ record s { slots = set s.slots at (Some then) }
given-slots s mid new at then master slots master' slots' =
    let m : new.master ≡ s.master = master' ∙ master in
    let sl : new.slots ≡ set s.slots at (Some then) = slots' ∙ ap (λ (xs : List (Option KeptStore)). set xs at (Some then)) slots ∙ set-set s.slots at None (Some then) in
    λ x. record { master = m x; slots = sl x }

-- a place has one store
pub one-store : (slots : List (Option KeptStore)) (at : ℕ) (s t : KeptStore) → slice_get slots at ≡ Some (Some s) → slice_get slots at ≡ Some (Some t) → s ≡ t
one-store slots at s t one two = cc (one, two)

pub fit-there : (slots : List (Option KeptStore)) (at : ℕ) (t : KeptStore) → IsOpenAt slots at → slice_get slots at ≡ Some (Some t) → t.paged.failed ≡ false
fit-there slots at t opened there = subst (λ (s : KeptStore). s.paged.failed ≡ false) (one-store slots at opened.0 t opened.1 there) opened.2

-- the one that was given back
pub given-there : (s mid new : Kept) (at : ℕ) (store then : KeptStore) → slice_get s.slots at ≡ Some (Some store) → mid.slots ≡ set s.slots at None → new.slots ≡ set mid.slots at (Some then) → slice_get new.slots at ≡ Some (Some then)
given-there s mid new at store then there slots slots' =
    ap (λ (sl : List (Option KeptStore)). slice_get sl at) (slots' ∙ ap (λ (xs : List (Option KeptStore)). set xs at (Some then)) slots ∙ set-set s.slots at None (Some then)) ∙ got-set s.slots at (Some then) (got-inside s.slots at (Some store) there)

pub inside-lent : (s mid : Kept) (at : ℕ) (store : KeptStore) → slice_get s.slots at ≡ Some (Some store) → mid.slots ≡ set s.slots at None → at < length mid.slots
inside-lent s mid at store there slots =
    let lt : at < length s.slots = got-inside s.slots at (Some store) there in
    let size : length mid.slots ≡ length s.slots = ap (λ (sl : List (Option KeptStore)). length sl) slots ∙ length-set s.slots at None in
    omega (arith, lt, size)
