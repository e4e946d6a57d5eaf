-- A database of which a note alone tells is made, and read.
use Rattle.std.proofs.Common.{◌≡◌, ◌<◌, ◌^◌, ◌⊎◌, ℕ, Bool, List, [], ◌++◌, length, set, Option, None, Some, refl, inl, inr, sym, ap, subst, ◌∙◌, arith}
use Rattle.std.specs.Prelude.{slice_get}
use Rattle.bk_device.specs.Compose.{durable_kept, effect_widen, keeps_by_effect}
use Rattle.bk_device.specs.Disk.{Disk, Files}
use Rattle.bk_device.specs.Effects.{Effect}
use Rattle.bk_filling.specs.Laws.{apart_paths}
use Rattle.bk_filling.specs.Removing.{AreGone}
use Rattle.bk_known.specs.declared.known.Known.{Known}
use Rattle.bk_known.specs.Known.{known_bytes}
use Rattle.bk_master.specs.declared.record.Entry.{Entry}
use Rattle.bk_master.specs.declared.record.Record.{Record}
use Rattle.bk_master.specs.Spelling.{KeepsOwn, KeepsRecord}
use Rattle.bk_paged.specs.Names.{IsOwn}
use Rattle.bk_segments.specs.Files.{LogIs, Logged, AreDurable as LogsAreDurable, IsOwn as IsOfLog}
use Rattle.bk_side.specs.Names.{side_file, IsOwn as IsOfSide}
use Rattle.bk_store.specs.Store.{Kept as KeptStore}
use Rattle.bk_store.specs.Told.{Told}
use Rattle.bk_stores.specs.AddLaws.{apart-swap, begun-keeps}
use Rattle.bk_stores.specs.Making.{Adds, MayAdd, MayRemove, MaySwap, Swaps, set_stored}
use Rattle.bk_stores.specs.NumberLaws.{begun-new}
use Rattle.bk_stores.specs.Parking.{IsParked}
use Rattle.bk_stores.specs.Records.{AreSmall, SharesNone, begun, parked_entry}
use Rattle.bk_stores.specs.StandLaws.{none-data}
use Rattle.bk_stores.specs.Standing.{AreNumbered, AreUnused, Joins}
use Rattle.bk_stores.specs.Stores.{AreEntries, Fixed, HoldsNote, IsOurs, IsReady, IsShut, Kept, LeavesStores, fixed_of, its_files, sealed_of}
use Rattle.bk_stores.proofs.Created.{begun-apart, begun-below}

-- ---- its files

-- a log without records whose note spells the description and the note holds it
parked-holds : (n : ℕ) (known : Known) (note : List ℕ) (told : Told) (image : Files) (log : Logged) → LogIs image n log → log.note ≡ known_bytes known ++ note → log.records ≡ [] → IsParked known note told → HoldsNote n told image
parked-holds n known note told image log is spells none parked = record {
  known = known;
  noted = parked.noted;
  from = parked.from;
  log = log;
  log_is = is;
  same_note = spells ∙ ap (λ (x : List ℕ). known_bytes known ++ x) (sym parked.same);
  none = none;
}

-- and where nothing is pending under its names it is a store that isn't open
pub parked-shut : (n : ℕ) (known : Known) (note : List ℕ) (told : Told) (log : Logged) {P : Files → Type 0} {b d : Disk} → AreGone (IsOfSide (side_file n) []) b → Effect (IsOfLog n) P b d → LogsAreDurable n d → LogIs d.files n log → log.note ≡ known_bytes known ++ note → log.records ≡ []
    → IsParked known note told → IsShut d (parked_entry n) told
parked-shut n known note told log {b = b} {d = d} gone effect durable is spells none parked = record {
  durable = λ name own. elim own [
    | inl its ↦ durable name its
    | inr side ↦ durable_kept name side (keeps_by_effect (λ other at its. apart_paths n [] other its at) effect) (gone name side).1
  ];
  holds = parked-holds n known note told d.files log is spells none parked;
}

-- what is done to the log is done to the store
pub log-own : {P : Files → Type 0} {a b : Disk} (n : ℕ) → Effect (IsOfLog n) P a b → Effect (IsOwn n []) (λ _. Unit {0}) a b
log-own n effect = effect_widen (λ name its. inl its) (λ image here left. tt) effect

-- ---- beside the others

-- no file is shared with none
pub shares-none : (entries : List Entry) (tolds : List Told) → SharesNone entries tolds []
shares-none entries tolds = λ i e t at name own its. none-data name own

-- no open store has any of none
pub unused-none : (slots : List (Option KeptStore)) → AreUnused slots []
unused-none slots = λ i store there name own its. none-data name own

-- paths of no data files may be named
none-small : AreSmall []
none-small = record { few = omega arith; short = tt }

pub parked-keeps : (r : Record) → KeepsRecord r → KeepsRecord (begun r [])
parked-keeps r keeps = begun-keeps r [] none-small keeps

-- it may be added
pub parked-may-add : (s then : Kept) (tolds : List Told) (told : Told) (d : Disk) → then.master.record ≡ begun s.master.record [] → s.master.record.next < 2 ^ 32 → AreEntries s.master.record tolds → IsShut d (parked_entry s.master.record.next) told → MayAdd d then tolds (parked_entry s.master.record.next) None told
parked-may-add s then tolds told d same small entries is = record {
  stands = is;
  sealed = refl;
  apart = begun-apart s then tolds [] [] same small entries (shares-none s.master.record.databases tolds);
}

-- there is room for it
pub parked-adds : (s then : Kept) → then.master.record ≡ begun s.master.record [] → then.slots ≡ s.slots → length s.slots < 16 → IsReady s → Adds then s.master.record.next
parked-adds s then same slots few ready = record {
  below = begun-below s then [] same;
  few = subst (λ (sl : List (Option KeptStore)). length sl < 16) (sym slots) few;
  count = ap length slots ∙ ready.count ∙ sym (ap (λ (r : Record). length r.databases) same);
  own = subst (λ (r : Record). KeepsOwn r.own) (sym same) ready.keeps.own;
}

-- or put in the place of one
pub parked-may-swap : (s then : Kept) (tolds : List Told) (at : ℕ) (told new : Told) (paths : List (List ℕ)) (d : Disk) → then.master.record ≡ begun s.master.record [] → s.master.record.next < 2 ^ 32 → AreEntries s.master.record tolds → MayRemove s tolds at told paths
    → IsShut d (parked_entry s.master.record.next) new → MaySwap d then tolds at told (parked_entry s.master.record.next) None new paths
parked-may-swap s then tolds at told new paths d same small entries may is =
    let n : ℕ = s.master.record.next in
    let apart = begun-apart s then tolds [] [] same small entries (shares-none s.master.record.databases tolds) in
    record {
      there = may.there;
      below = begun-below s then [] same;
      stands = is;
      sealed = refl;
      apart = λ i e t differ here. apart i e t here;
      aside = λ e here. (apart-swap n [] e.store (its_files e told) (apart at e told (here, may.there)), may.names e (ap (λ (r : Record). slice_get r.databases at) (sym same) ∙ here));
    }

-- it joins the open ones
pub parked-joins : (s then : Kept) (slots : List (Option KeptStore)) (d : Disk) → then.master.record ≡ begun s.master.record [] → AreNumbered s.master.record → Joins d then.master.record.databases slots (parked_entry s.master.record.next) None
parked-joins s then slots d same numbers = record {
  fresh = begun-new s.master.record then.master.record [] same numbers;
  stands = λ store is. absurd (let none : None ≡ Some store = is in cc);
  unused = λ store is. absurd (let none : None ≡ Some store = is in cc);
}

-- what a swap leaves of the same stores
pub swaps-as : (s then : Kept) (tolds : List Told) (at : ℕ) (stored : Bool) (new : Told) (a b : Disk) → fixed_of then.master.record ≡ fixed_of s.master.record → then.slots ≡ s.slots → Swaps then tolds at stored new a b → Swaps s tolds at stored new a b
swaps-as s then tolds at stored new a b own slots effect =
    let As : Fixed → List (Option KeptStore) → Type 0 = λ o sl. Effect IsOurs (λ image.
    LeavesStores o (λ i. sealed_of (slice_get sl i) (slice_get tolds i)) tolds image ⊎ LeavesStores (set_stored o at stored) (λ i. sealed_of (slice_get (set sl at None) i) (slice_get (set tolds at new) i)) (set tolds at new) image) a b in
    subst (λ (sl : List (Option KeptStore)). As (fixed_of s.master.record) sl) slots (subst (λ (o : Fixed). As o then.slots) own effect)
