-- What is there of a store is removed that is named as one that is being made or removed.
use Rattle.std.proofs.Common.{◌≡◌, ◌<◌, ◌^◌, ℕ, List, [], ◌∷◌, length, map, set, Option, Some, None, refl, inr, sym, subst}
use Rattle.std.specs.Prelude.{remove, slice_get}
use Rattle.bk_device.specs.Compose.{effect_then, effect_weaken}
use Rattle.bk_device.specs.Disk.{Disk, Files}
use Rattle.bk_device.specs.Effects.{Effect}
use Rattle.bk_filling.specs.Removing.{IsPart}
use Rattle.bk_master.specs.declared.record.Entry.{Entry}
use Rattle.bk_master.specs.declared.record.Record.{Record}
use Rattle.bk_master.specs.declared.record.Unfinished.{Unfinished}
use Rattle.bk_side.specs.Names.{data_file as data_name}
use Rattle.bk_store.specs.Store.{Kept as KeptStore}
use Rattle.bk_store.specs.Told.{Told}
use Rattle.bk_stores.specs.Making.{Drops, MaySwap, Swaps, less_stored, set_stored}
use Rattle.bk_stores.specs.NumberLaws.{less-new, number-small, swapped-new}
use Rattle.bk_stores.specs.Records.{IsApart, left_out, swapped, unfinished_at}
use Rattle.bk_stores.specs.StandLaws.{own-crash, own-stands}
use Rattle.bk_stores.specs.Standing.{AreNumbered, AreStanding, AreUnused, IsNew}
use Rattle.bk_stores.specs.StandingLaws.{aside-standing, unused-less}
use Rattle.bk_stores.specs.Stores.{AreEntries, AreStores, IsOurs, Kept, LeavesEntry, LeavesStores, at_paths, sealed_at, sealed_of, fixed_of, Fixed}
use Rattle.bk_stores.proofs.Created.{parts-named}
use Rattle.bk_stores.proofs.Swapped.{sealed-set}

-- it shares no name with the databases
aside-apart : (r : Record) (tolds : List Told) (n : ℕ) (paths : List (List ℕ)) → r.unfinished ≡ unfinished_at n paths ∷ [] → AreEntries r tolds → IsApart r.databases tolds n (at_paths paths)
aside-apart r tolds n paths same is = λ i e t at. is.aside i 0 e t (unfinished_at n paths) at (subst (λ (us : List Unfinished). slice_get us 0 ≡ Some (unfinished_at n paths)) (sym same) refl)

pub aside-stands : (s : Kept) (tolds : List Told) (n : ℕ) (paths : List (List ℕ)) {P : Files → Type 0} {a b : Disk} → s.master.record.unfinished ≡ unfinished_at n paths ∷ [] → n < s.master.record.next → AreStores a s tolds → Effect (IsPart n (map data_name paths)) P a b → AreStores b s tolds
aside-stands s tolds n paths same below is effect = own-stands s tolds n (at_paths paths) is (aside-apart s.master.record tolds n paths same is.standing.entries) below (parts-named n paths effect)

pub aside-crash : (s : Kept) (tolds : List Told) (n : ℕ) (paths : List (List ℕ)) {P : Files → Type 0} {a b : Disk} → s.master.record.unfinished ≡ unfinished_at n paths ∷ [] → AreStores a s tolds → Effect (IsPart n (map data_name paths)) P a b → Effect IsOurs (LeavesStores (fixed_of s.master.record) (sealed_at s tolds) tolds) a b
aside-crash s tolds n paths same is effect = own-crash s tolds n (at_paths paths) is (aside-apart s.master.record tolds n paths same is.standing.entries) (parts-named n paths effect)

-- ---- what follows

-- what follows a removal leaves the databases that are left
pub drops-then : (s then : Kept) (tolds : List Told) (at : ℕ) (a b c : Disk) → fixed_of then.master.record ≡ less_stored (fixed_of s.master.record) at → then.slots ≡ remove s.slots at → Drops s tolds at a b
    → Effect IsOurs (LeavesStores (fixed_of then.master.record) (sealed_at then (remove tolds at)) (remove tolds at)) b c → Drops s tolds at a c
drops-then s then tolds at a b c own slots first second =
    let rest : List Told = remove tolds at in
    let same : Effect IsOurs (LeavesStores (less_stored (fixed_of s.master.record) at) (λ i. sealed_of (slice_get (remove s.slots at) i) (slice_get rest i)) rest) b c =
    subst (λ (sl : List (Option KeptStore)). Effect IsOurs (LeavesStores (less_stored (fixed_of s.master.record) at) (λ i. sealed_of (slice_get sl i) (slice_get rest i)) rest) b c) slots
    (subst (λ (o : Fixed). Effect IsOurs (LeavesStores o (sealed_at then rest) rest) b c) own second) in
    effect_then first (effect_weaken (λ image here. inr here) same)

-- what follows a swap leaves the databases with the new one
pub swaps-then : (s then : Kept) (tolds : List Told) (at : ℕ) (told new : Told) (x : Entry) (slot : Option KeptStore) (paths : List (List ℕ)) (a b c : Disk) → fixed_of then.master.record ≡ set_stored (fixed_of s.master.record) at x.is_stored → then.slots ≡ set s.slots at slot → AreStores a s tolds → MaySwap a s tolds at told x slot new paths → Swaps s tolds at x.is_stored new a b
    → Effect IsOurs (LeavesStores (fixed_of then.master.record) (sealed_at then (set tolds at new)) (set tolds at new)) b c → Swaps s tolds at x.is_stored new a c
swaps-then s then tolds at told new x slot paths a b c own slots is may first second =
    let all : List Told = set tolds at new in
    let same : Effect IsOurs (LeavesStores (set_stored (fixed_of s.master.record) at x.is_stored) (λ i. sealed_of (slice_get (set s.slots at slot) i) (slice_get all i)) all) b c =
    subst (λ (sl : List (Option KeptStore)). Effect IsOurs (LeavesStores (set_stored (fixed_of s.master.record) at x.is_stored) (λ i. sealed_of (slice_get sl i) (slice_get all i)) all) b c) slots
    (subst (λ (o : Fixed). Effect IsOurs (LeavesStores o (sealed_at then all) all) b c) own second) in
    effect_then first (effect_weaken (λ image here. inr (record {
      «record» = here.«record»;
      is_record = here.is_record;
      is_fixed = here.is_fixed;
      entries = here.entries;
      each = λ i f u it. subst (λ (n : ℕ). LeavesEntry f n u image) (sealed-set s.slots tolds at slot new i may.sealed) (here.each i f u it);
    })) same)

-- ---- what stands

-- the files of the store of an entry that was left out are removed
pub left-aside : (s then : Kept) (at : ℕ) (e : Entry) (n : ℕ) (paths : List (List ℕ)) {P : Files → Type 0} {a b : Disk} → slice_get s.master.record.databases at ≡ Some e → e.store ≡ n → then.master.record ≡ left_out s.master.record at n paths → then.slots ≡ remove s.slots at → at < length s.slots
    → AreNumbered s.master.record → AreUnused (set s.slots at None) (at_paths paths) → AreStanding a then → Effect (IsPart n (map data_name paths)) P a b → AreStanding b then
left-aside s then at e n paths there number same slots filled numbers unused is effect =
    let r : Record = s.master.record in
    let small = subst (λ (m : ℕ). m < 2 ^ 64) number (number-small r at e numbers there) in
    let new : IsNew then.master.record.databases n = subst (λ (x : Record). IsNew x.databases n) (sym same) (subst (IsNew (remove r.databases at)) number (less-new r.databases at e there numbers.differ)) in
    aside-standing then n (at_paths paths) is small new (subst (λ (sl : List (Option KeptStore)). AreUnused sl (at_paths paths)) (sym slots) (unused-less s.slots at (at_paths paths) filled unused)) (parts-named n paths effect)

-- and those of the store in whose place another was put
pub swapped-aside : (s then : Kept) (at : ℕ) (e x : Entry) (slot : Option KeptStore) (n : ℕ) (paths : List (List ℕ)) {P : Files → Type 0} {a b : Disk} → slice_get s.master.record.databases at ≡ Some e → e.store ≡ n → then.master.record ≡ swapped s.master.record at x n paths → then.slots ≡ set s.slots at slot
    → AreNumbered s.master.record → IsNew s.master.record.databases x.store → AreUnused (set s.slots at slot) (at_paths paths) → AreStanding a then → Effect (IsPart n (map data_name paths)) P a b → AreStanding b then
swapped-aside s then at e x slot n paths there number same slots numbers fresh unused is effect =
    let r : Record = s.master.record in
    let small = subst (λ (m : ℕ). m < 2 ^ 64) number (number-small r at e numbers there) in
    let new : IsNew then.master.record.databases n = subst (λ (y : Record). IsNew y.databases n) (sym same) (subst (IsNew (set r.databases at x)) number (swapped-new r.databases at e x there fresh numbers.differ)) in
    aside-standing then n (at_paths paths) is small new (subst (λ (sl : List (Option KeptStore)). AreUnused sl (at_paths paths)) (sym slots) unused) (parts-named n paths effect)
