-- The files of a store that is named as one that is being made are touched.
use Rattle.std.proofs.Common.{◌≡◌, ◌≤◌, ◌<◌, ◌^◌, ◌⊎◌, ℕ, List, [], ◌∷◌, ◌++◌, length, map, Option, Some, None, Result, Ok, Err, false, refl, sym, ap, subst, ◌∙◌, arith, Bool}
use Rattle.std.proofs.lemmas.List.{length-map}
use Rattle.std.proofs.lemmas.List.Elements.{recursion_from_All}
use Rattle.std.specs.List.{AllByRecursion}
use Rattle.std.specs.Prelude.{slice_get, OnOk}
use Rattle.bk_control.specs.Slots.{control_of, counting, slot_in}
use Rattle.bk_device.specs.Disk.{Disk, Files}
use Rattle.bk_device.specs.Effects.{Effect}
use Rattle.bk_facts.specs.declared.facts.DataFile.{DataFile}
use Rattle.bk_filling.specs.Removing.{IsPart}
use Rattle.bk_ids.specs.declared.guid.Guid.{Guid}
use Rattle.bk_known.specs.declared.known.DatabaseSpec.{DatabaseSpec}
use Rattle.bk_master.specs.declared.record.Entry.{Entry}
use Rattle.bk_master.specs.declared.record.Record.{Record}
use Rattle.bk_master.specs.Spelling.{IsShortPath}
use Rattle.bk_paged.specs.Names.{IsOwn, names_of}
use Rattle.bk_segments.specs.Files.{IsOwn as IsOfLog}
use Rattle.bk_side.specs.Names.{IsData, data_file as data_name, side_file, IsOwn as IsOfSide}
use Rattle.bk_store.specs.Making.{MayDescribe, founded}
use Rattle.bk_store.specs.Store.{IsStore, Kept as KeptStore}
use Rattle.bk_store.specs.Told.{Told, data_file}
use Rattle.bk_storage.specs.Storage.{HasPath}
use Rattle.bk_stores.specs.AddLaws.{fresh-apart, named-at}
use Rattle.bk_stores.specs.Making.{Creates, MayAdd, more_stored}
use Rattle.bk_stores.specs.NumberLaws.{begun-new}
use Rattle.bk_stores.specs.Records.{AreSmall, IsApart, SharesNone, begun, stored_entry}
use Rattle.bk_stores.specs.StandLaws.{own-crash, own-stands}
use Rattle.bk_stores.specs.Standing.{AreNumbered, AreStanding, AreUnused, IsStanding, Joins}
use Rattle.bk_stores.specs.StandingLaws.{aside-standing, unused-named}
use Rattle.bk_stores.specs.Stores.{AreEntries, AreStores, IsOurs, Kept, LeavesStores, at_paths, sealed_at, sealed_of, fixed_of, Fixed}
use Rattle.bk_world.specs.declared.database.FileSpec.{FileSpec}

-- an absent file holds no control
pub no-control : (file : Option (List ℕ)) → file ≡ None → control_of file ≡ None
unfolding counting slot_in
no-control file is = ap control_of is

-- ---- names

named-files : (files : List FileSpec) → names_of (map data_file files) ≡ map data_name (map (λ f. f.path) files)
named-files [] = refl
named-files (f ∷ files) = ap (λ (ns : List (List ℕ)). data_name f.path ∷ ns) (named-files files)

-- the names of a database's files are those of its paths
pub named-same : (files : List FileSpec) (paths : List (List ℕ)) → paths ≡ map (λ f. f.path) files → names_of (at_paths paths) ≡ names_of (map data_file files)
named-same files paths same = named-at paths ∙ ap (map data_name) same ∙ sym (named-files files)

pub shares-at : (entries : List Entry) (tolds : List Told) (files : List FileSpec) (paths : List (List ℕ)) → paths ≡ map (λ f. f.path) files → SharesNone entries tolds (map data_file files) → SharesNone entries tolds (at_paths paths)
shares-at entries tolds files paths same shares = λ i e t at name own. shares i e t at name (subst (λ (ns : List (List ℕ)). IsData ns name) (named-same files paths same) own)

pub parts-named : (db : ℕ) (paths : List (List ℕ)) {P : Files → Type 0} {a b : Disk} → Effect (IsPart db (map data_name paths)) P a b → Effect (IsOwn db (at_paths paths)) P a b
parts-named db paths {P} {a} {b} effect = subst (λ (ns : List (List ℕ)). Effect (λ name. IsOfLog db name ⊎ IsOfSide (side_file db) ns name) P a b) (sym (named-at paths)) effect

-- ---- its files

-- a store that was begun shares no name with those that are there
pub begun-apart : (s then : Kept) (tolds : List Told) (paths : List (List ℕ)) (files : List DataFile) → then.master.record ≡ begun s.master.record paths → s.master.record.next < 2 ^ 32 → AreEntries s.master.record tolds → SharesNone s.master.record.databases tolds files
    → IsApart then.master.record.databases tolds s.master.record.next files
begun-apart s then tolds paths files same small entries shares = subst (λ (r : Record). IsApart r.databases tolds s.master.record.next files) (sym same) (fresh-apart s.master.record tolds files small entries shares)

pub begun-below : (s then : Kept) (paths : List (List ℕ)) → then.master.record ≡ begun s.master.record paths → s.master.record.next < then.master.record.next
begun-below s then paths same = subst (λ (r : Record). s.master.record.next < r.next) (sym same) (omega arith)

-- what is done to them leaves the databases
pub beside-stands : (s then : Kept) (tolds : List Told) (paths : List (List ℕ)) (files : List DataFile) {P : Files → Type 0} {a b : Disk} → then.master.record ≡ begun s.master.record paths → s.master.record.next < 2 ^ 32 → AreEntries s.master.record tolds → SharesNone s.master.record.databases tolds files
    → AreStores a then tolds → Effect (IsOwn s.master.record.next files) P a b → AreStores b then tolds
beside-stands s then tolds paths files same small entries shares is effect = own-stands then tolds s.master.record.next files is (begun-apart s then tolds paths files same small entries shares) (begun-below s then paths same) effect

pub beside-crash : (s then : Kept) (tolds : List Told) (paths : List (List ℕ)) (files : List DataFile) {P : Files → Type 0} {a b : Disk} → then.master.record ≡ begun s.master.record paths → then.slots ≡ s.slots → s.master.record.next < 2 ^ 32 → AreEntries s.master.record tolds
    → SharesNone s.master.record.databases tolds files → AreStores a then tolds → Effect (IsOwn s.master.record.next files) P a b → Effect IsOurs (LeavesStores (fixed_of s.master.record) (sealed_at s tolds) tolds) a b
beside-crash s then tolds paths files {a = a} {b = b} same slots small entries shares is effect =
    subst (λ (sl : List (Option KeptStore)). Effect IsOurs (LeavesStores (fixed_of s.master.record) (λ i. sealed_of (slice_get sl i) (slice_get tolds i)) tolds) a b) slots
    (subst (λ (o : Fixed). Effect IsOurs (LeavesStores o (sealed_at then tolds) tolds) a b) (ap fixed_of same) (own-crash then tolds s.master.record.next files is (begun-apart s then tolds paths files same small entries shares) effect))

-- ---- it is added

-- a store that was just made may be
pub may-add : (s then : Kept) (tolds : List Told) (paths : List (List ℕ)) (spec : DatabaseSpec) (time : ℕ) (branch : Guid) (store : KeptStore) (d : Disk) → then.master.record ≡ begun s.master.record paths → s.master.record.next < 2 ^ 32 → AreEntries s.master.record tolds
    → SharesNone s.master.record.databases tolds (map data_file spec.storage.files) → store.paged.failed ≡ false → (store.paged.log.db ≡ s.master.record.next) × (store.paged.log.stored ≡ store.paged.log.end) → IsStore d store (founded spec time branch)
    → MayAdd d then tolds (stored_entry s.master.record.next) (Some store) (founded spec time branch)
may-add s then tolds paths spec time branch store d same small entries shares fit ends is = record {
  stands = record { number = ends.0; stored = refl; fit = fit; store = is };
  sealed = omega (arith, ends.1, is.paged.ends);
  apart = begun-apart s then tolds paths (map data_file spec.storage.files) same small entries shares;
}

pub creates-as : (s then : Kept) (tolds : List Told) (stored : Bool) (new : Told) (a b : Disk) → fixed_of then.master.record ≡ fixed_of s.master.record → then.slots ≡ s.slots → Creates then tolds stored new a b → Creates s tolds stored new a b
creates-as s then tolds stored new a b own slots effect =
    let As : Fixed → List (Option KeptStore) → Type 0 = λ o sl. Effect IsOurs (λ image.
    LeavesStores o (λ i. sealed_of (slice_get sl i) (slice_get tolds i)) tolds image ⊎ LeavesStores (more_stored o stored) (λ i. sealed_of (slice_get (sl ++ None ∷ []) i) (slice_get (tolds ++ new ∷ []) i)) (tolds ++ new ∷ []) image) a b in
    subst (λ (sl : List (Option KeptStore)). As (fixed_of s.master.record) sl) slots (subst (λ (o : Fixed). As o then.slots) own effect)

-- ---- paths

all-short : (files : List FileSpec) → AllByRecursion HasPath files → AllByRecursion IsShortPath (map (λ f. f.path) files)
all-short [] all = tt
all-short (f ∷ files) all = (all.0, all-short files all.1)

-- the paths of a database that may be made may be named
pub paths-small : (spec : DatabaseSpec) (paths : List (List ℕ)) → MayDescribe spec → paths ≡ map (λ f. f.path) spec.storage.files → AreSmall paths
paths-small spec paths may same =
    let few : length spec.storage.files ≤ 16 = may.storage.files in
    subst AreSmall (sym same) (record {
      few = omega (arith, few, length-map spec.storage.files (λ (f : FileSpec). f.path));
      short = all-short spec.storage.files (recursion_from_All HasPath spec.storage.files may.storage.keeps.paths);
    })

-- ---- what stands meanwhile

-- no open store has the data files that are made
pub unused-files : (slots : List (Option KeptStore)) (files : List FileSpec) → AreUnused slots (at_paths (map (λ f. f.path) files)) → AreUnused slots (map data_file files)
unused-files slots files unused = unused-named slots (at_paths (map (λ f. f.path) files)) (map data_file files) (sym (named-same files (map (λ f. f.path) files) refl)) unused

-- what is done to its files leaves the others standing
pub beside-standing : (s then : Kept) (paths : List (List ℕ)) (files : List DataFile) {P : Files → Type 0} {a b : Disk} → then.master.record ≡ begun s.master.record paths → then.slots ≡ s.slots → AreNumbered s.master.record → AreUnused s.slots files
    → AreStanding a then → Effect (IsOwn s.master.record.next files) P a b → AreStanding b then
beside-standing s then paths files same slots numbers unused is effect =
    let small = numbers.small in
    aside-standing then s.master.record.next files is (omega (arith, small)) (begun-new s.master.record then.master.record paths same numbers) (subst (λ (sl : List (Option KeptStore)). AreUnused sl files) (sym slots) unused) effect

-- a store that was just made may stand beside them
pub may-join : (s then : Kept) (paths : List (List ℕ)) (spec : DatabaseSpec) (time : ℕ) (branch : Guid) (store : KeptStore) (d : Disk) → then.master.record ≡ begun s.master.record paths → then.slots ≡ s.slots → AreNumbered s.master.record → AreUnused s.slots (map data_file spec.storage.files)
    → store.paged.failed ≡ false → store.paged.log.db ≡ s.master.record.next → IsStore d store (founded spec time branch) → Joins d then.master.record.databases then.slots (stored_entry s.master.record.next) (Some store)
may-join s then paths spec time branch store d same slots numbers unused fit number is =
    let x : Entry = stored_entry s.master.record.next in
    let one : (other : KeptStore) → Some store ≡ Some other → store ≡ other = λ other is'. cc in
    let own : AreUnused then.slots store.paged.facts.files =
    subst (λ (sl : List (Option KeptStore)). AreUnused sl store.paged.facts.files) (sym slots) (subst (λ (fs : List DataFile). AreUnused s.slots fs) (sym is.paged.files) unused) in
    record {
      fresh = begun-new s.master.record then.master.record paths same numbers;
      stands = λ other is'. subst (IsStanding d x) (one other is') (record { number = number; fit = fit; standing = is.paged.standing });
      unused = λ other is'. subst (λ (o : KeptStore). AreUnused then.slots o.paged.facts.files) (one other is') own;
    }

-- ---- answers

-- what a call answers leads further
pub on-ok : {A E P Q : Type 0} (result : Result A E) → (P → Q) → OnOk result P → OnOk result Q
on-ok (Ok a) leads ok = leads ok
on-ok (Err e) leads ok = tt
