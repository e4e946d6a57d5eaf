-- A database is made of a set, and put in the place of one of which a note alone told.
use Rattle.std.proofs.Common.{◌≡◌, ◌≤◌, ◌∙◌, ℕ, true, false, List, [], ◌∷◌, length, map, set, Option, None, Some, inl, refl, sym, ap, subst, arith}
use Rattle.std.proofs.lemmas.List.{length-map}
use Rattle.std.specs.List.{AllByRecursion}
use Rattle.std.specs.Prelude.{slice_get}
use Rattle.bk_device.specs.Calls.{contents}
use Rattle.bk_device.specs.Compose.{effect_then, effect_weaken}
use Rattle.bk_device.specs.Disk.{Disk, Files}
use Rattle.bk_device.specs.Effects.{Effect}
use Rattle.bk_facts.specs.declared.facts.DataFile.{DataFile}
use Rattle.bk_facts.specs.Facts.{HasPath}
use Rattle.bk_filling.specs.Filling.{MayFill}
use Rattle.bk_known.specs.declared.known.Known.{Known}
use Rattle.bk_master.specs.declared.record.Entry.{Entry}
use Rattle.bk_master.specs.declared.record.Record.{Record}
use Rattle.bk_master.specs.Spelling.{IsShortPath, KeepsRecord}
use Rattle.bk_paged.specs.Names.{IsOwn, names_of, paths_of}
use Rattle.bk_paged.specs.Paged.{Standing}
use Rattle.bk_recovering.specs.Recovering.{Makes, TouchesWith}
use Rattle.bk_side.specs.Names.{IsData, data_file as data_name}
use Rattle.bk_store.specs.Store.{IsStore, Kept as KeptStore}
use Rattle.bk_store.specs.Told.{Told, data_files}
use Rattle.bk_stores.specs.AddLaws.{apart-swap, begun-keeps, named-at}
use Rattle.bk_stores.specs.Bringing.{IsNamed, MakesNext}
use Rattle.bk_stores.specs.ListLaws.{got-one}
use Rattle.bk_stores.specs.Making.{IsSealed, MaySwap, Swaps}
use Rattle.bk_stores.specs.NumberLaws.{begun-new}
use Rattle.bk_stores.specs.Records.{AreSmall, IsApart, SharesNone, stored_entry}
use Rattle.bk_stores.specs.Standing.{AreNumbered, AreStanding, AreUnused, IsStanding, Joins}
use Rattle.bk_stores.specs.StandingLaws.{both-standing, unused-without}
use Rattle.bk_stores.specs.Stores.{AreEntries, AreStores, IsOurs, Kept, LeavesStores, at_paths, files_by, fixed_of, its_files, sealed_at}
use Rattle.bk_undo.specs.Spelled.{spelled}
use Rattle.bk_recovering.specs.VolumeStored.{Stored}
use Rattle.bk_stores.proofs.Created.{begun-apart, begun-below, beside-crash, beside-stands}
use Rattle.bk_stores.proofs.Parked.{swaps-as}

-- ---- its paths

all-short : (files : List DataFile) → AllByRecursion HasPath files → AllByRecursion IsShortPath (paths_of files)
all-short [] all = tt
all-short (f ∷ files) all = ((all.0.some, all.0.short), all-short files all.1)

fill-small : (files : List DataFile) → MayFill files → AreSmall (paths_of files)
fill-small files may =
    let few : length files ≤ 16 = may.few in
    record { few = omega (arith, few, length-map files (λ (f : DataFile). f.path)); short = all-short files may.paths }

-- those of data files that may be filled may be named
pub paths-small : (files : List DataFile) (paths : List (List ℕ)) → MayFill files → paths ≡ paths_of files → AreSmall paths
paths-small files paths may same = subst AreSmall (sym same) (fill-small files may)

-- no database has a data file at one of them
pub paths-shared : (entries : List Entry) (tolds : List Told) (files : List DataFile) (paths : List (List ℕ)) → paths ≡ paths_of files → SharesNone entries tolds files → SharesNone entries tolds (at_paths paths)
paths-shared entries tolds files paths same shares =
    let named : names_of (at_paths paths) ≡ names_of files = named-at paths ∙ ap (map data_name) same in
    λ i e t at name own. shares i e t at name (subst (λ (ns : List (List ℕ)). IsData ns name) named own)

-- the record that names its store keeps its limits
pub named-keeps : (s then : Kept) (files : List DataFile) → IsNamed s then files → MayFill files → KeepsRecord s.master.record → KeepsRecord then.master.record
named-keeps s then files named may keeps = subst KeepsRecord (sym named.put) (begun-keeps s.master.record (paths_of files) (fill-small files may) keeps)

-- and has as many databases
pub named-count : (s then : Kept) (files : List DataFile) → IsNamed s then files → length s.slots ≡ length s.master.record.databases → length then.slots ≡ length then.master.record.databases
named-count s then files named count = ap length named.slots ∙ count ∙ sym (ap (λ (r : Record). length r.databases) named.put)

-- ---- it is made

-- What is done to the instance's files leaves a medium's: the set goes on making it, under the number that was given.
pub makes-on : (a b : Disk) (s : Kept) (tolds : List Told) (n : ℕ) (name : List ℕ) (stored : Stored) (files : List DataFile) (checkpoint : ℕ) (note : List ℕ) (known : Known) (told : Told) → n ≡ s.master.record.next → (IsOurs name → ⊥)
    → Effect IsOurs (LeavesStores (fixed_of s.master.record) (sealed_at s tolds) tolds) a b → MakesNext a s name stored files checkpoint note known told → Makes (contents (b.files name)) stored files n checkpoint note known told
makes-on a b s tolds n name stored files checkpoint note known told number elsewhere effect makes =
    subst (λ (bs : List ℕ). Makes bs stored files n checkpoint note known told) (sym (ap contents (effect.others name elsewhere)))
    (subst (λ (m : ℕ). Makes (contents (a.files name)) stored files m checkpoint note known told) (sym number) makes)

-- what is done to its files leaves the databases
pub made-stands : {P : Files → Type 0} {b c : Disk} (s then : Kept) (n : ℕ) (files : List DataFile) (tolds : List Told) → IsNamed s then files → n ≡ s.master.record.next → AreEntries s.master.record tolds → SharesNone s.master.record.databases tolds files → AreStores b then tolds → Effect (IsOwn n files) P b c
    → AreStores c then tolds
made-stands {P} {b} {c} s then n files tolds named number entries shares here effect =
    beside-stands s then tolds (paths_of files) files named.put named.small entries shares here (subst (λ (m : ℕ). Effect (IsOwn m files) P b c) number effect)

pub made-crash : {P : Files → Type 0} {a b c : Disk} (s then : Kept) (n : ℕ) (files : List DataFile) (tolds : List Told) → IsNamed s then files → n ≡ s.master.record.next → AreEntries s.master.record tolds → SharesNone s.master.record.databases tolds files → AreStores b then tolds
    → Effect IsOurs (LeavesStores (fixed_of s.master.record) (sealed_at s tolds) tolds) a b → Effect (IsOwn n files) P b c → Effect IsOurs (LeavesStores (fixed_of s.master.record) (sealed_at s tolds) tolds) a c
made-crash {P} {a} {b} {c} s then n files tolds named number entries shares here first effect =
    effect_then first (beside-crash s then tolds (paths_of files) files named.put named.slots named.small entries shares here (subst (λ (m : ℕ). Effect (IsOwn m files) P b c) number effect))

-- and whatever it is, the others standing
pub made-standing : (s then : Kept) (n : ℕ) (files : List DataFile) (store : KeptStore) {a b : Disk} → IsNamed s then files → n ≡ s.master.record.next → AreNumbered s.master.record → AreUnused s.slots files → AreUnused then.slots store.paged.facts.files → AreStanding a then → TouchesWith n files store a b → AreStanding b then
made-standing s then n files store {a} {b} named number numbers unused own is effect =
    let small = numbers.small in
    both-standing then s.master.record.next files store.paged.facts.files is (omega (arith, small)) (begun-new s.master.record then.master.record (paths_of files) named.put numbers)
    (subst (λ (sl : List (Option KeptStore)). AreUnused sl files) (sym named.slots) unused) own (subst (λ (m : ℕ). TouchesWith m files store a b) number effect)

-- ---- it takes the place

-- it may stand beside the open ones
pub brought-joins : (s then : Kept) (n at : ℕ) (files : List DataFile) (store : KeptStore) (d : Disk) → IsNamed s then files → n ≡ s.master.record.next → AreNumbered s.master.record → IsSealed store → store.paged.log.db ≡ s.master.record.next → Standing d store.paged → AreUnused s.slots store.paged.facts.files
    → Joins d then.master.record.databases (set then.slots at None) (stored_entry n) (Some store)
brought-joins s then n at files store d named same numbers sealed number stands unused =
    let x : Entry = stored_entry n in
    let one : (other : KeptStore) → Some store ≡ Some other → store ≡ other = λ other is'. cc in
    let own : AreUnused then.slots store.paged.facts.files = subst (λ (sl : List (Option KeptStore)). AreUnused sl store.paged.facts.files) (sym named.slots) unused in
    record {
      fresh = λ i e there is'. begun-new s.master.record then.master.record (paths_of files) named.put numbers i e there (sym same ∙ is');
      stands = λ other is'. subst (IsStanding d x) (one other is') (record { number = number ∙ sym same; fit = sealed.fit; standing = stands });
      unused = λ other is'. subst (λ (o : KeptStore). AreUnused (set then.slots at None) o.paged.facts.files) (one other is') (unused-without then.slots at store.paged.facts.files own);
    }

-- it may be put in the place of one that isn't stored
pub brought-may-swap : (s then : Kept) (tolds : List Told) (n at : ℕ) (told new : Told) (e : Entry) (files : List DataFile) (store : KeptStore) (d : Disk) → IsNamed s then files → n ≡ s.master.record.next → AreEntries s.master.record tolds → SharesNone s.master.record.databases tolds files → data_files new ≡ files
    → slice_get s.master.record.databases at ≡ Some e → e.is_stored ≡ false → slice_get tolds at ≡ Some told → IsSealed store → store.paged.log.db ≡ s.master.record.next → IsStore d store new → MaySwap d then tolds at told (stored_entry n) (Some store) new []
brought-may-swap s then tolds n at told new e files store d named same entries shares its here parked there sealed number is =
    let next : ℕ = s.master.record.next in
    let apart : IsApart then.master.record.databases tolds next (data_files new) =
    subst (λ (fs : List DataFile). IsApart then.master.record.databases tolds next fs) (sym its) (begun-apart s then tolds (paths_of files) files named.put named.small entries shares) in
    subst (λ (m : ℕ). MaySwap d then tolds at told (stored_entry m) (Some store) new []) (sym same) (record {
      there = there;
      below = begun-below s then (paths_of files) named.put;
      stands = record { number = number; stored = refl; fit = sealed.fit; store = is };
      sealed = let all = sealed.all in let ends = is.paged.ends in let size = length-map new.records spelled in omega (arith, all, ends, size);
      apart = λ i f t differ at'. apart i f t at';
      aside = λ f found.
          let one : e ≡ f = got-one s.master.record.databases at e f here (ap (λ (r : Record). slice_get r.databases at) (sym named.put) ∙ found) in
          let none : its_files f told ≡ [] = ap (λ (b : _). files_by b told) (ap (λ (g : Entry). g.is_stored) (sym one) ∙ parked) in
          (apart-swap next (data_files new) f.store (its_files f told) (apart at f told (found, there)), sym (ap names_of none));
    })

-- ---- a crash

-- before that it leaves the databases as they were
pub before-swap : {a b : Disk} (s : Kept) (tolds : List Told) (at : ℕ) (new : Told) → Effect IsOurs (LeavesStores (fixed_of s.master.record) (sealed_at s tolds) tolds) a b → Swaps s tolds at true new a b
before-swap s tolds at new effect = effect_weaken (λ image here. inl here) effect

pub brought-crash : {a b c : Disk} (s then : Kept) (files : List DataFile) (tolds : List Told) (at : ℕ) (new : Told) → IsNamed s then files → Effect IsOurs (LeavesStores (fixed_of s.master.record) (sealed_at s tolds) tolds) a b → Swaps then tolds at true new b c → Swaps s tolds at true new a c
brought-crash {a} {b} {c} s then files tolds at new named first second = effect_then (before-swap s tolds at new first) (swaps-as s then tolds at true new b c (ap fixed_of named.put) named.slots second)
