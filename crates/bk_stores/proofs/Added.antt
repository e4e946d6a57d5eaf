-- The record with one database more is put.
use Rattle.bk_stores.specs.ListLaws.{mapped-more}
use Rattle.std.proofs.Common.{◌≡◌, ◌<◌, ◌⊎◌, ℕ, zero, suc, List, [], ◌∷◌, ◌++◌, length, Option, None, refl, inl, inr, sym, subst, arith, Bool, ap}
use Rattle.std.proofs.lemmas.List.{length-append}
use Rattle.std.specs.Prelude.{slice_get}
use Rattle.bk_device.specs.Compose.{effect_weaken}
use Rattle.bk_device.specs.Disk.{Disk, Files}
use Rattle.bk_device.specs.Effects.{Effect, MayLeaveOwn}
use Rattle.bk_facts.specs.declared.facts.DataFile.{DataFile}
use Rattle.bk_master.specs.declared.record.Entry.{Entry}
use Rattle.bk_master.specs.declared.record.Record.{Record}
use Rattle.bk_master.specs.Master.{HoldsRecord, IsMaster, IsOwn as IsOfMaster, Kept as KeptMaster}
use Rattle.bk_paged.specs.Names.{IsOwn}
use Rattle.bk_store.specs.Store.{Kept as KeptStore}
use Rattle.bk_store.specs.Told.{Told}
use Rattle.bk_stores.specs.AddLaws.{added-entries, added-slots}
use Rattle.bk_stores.specs.Making.{Adds, Creates, MayAdd, sealed_more, more_stored}
use Rattle.bk_stores.specs.NumberLaws.{added-numbers}
use Rattle.bk_stores.specs.Records.{rested}
use Rattle.bk_stores.specs.StandLaws.{master-keeps, master-wide, slots-left, standing-kept}
use Rattle.bk_stores.specs.Standing.{AreStanding, Joins}
use Rattle.bk_stores.specs.StandingLaws.{more-beside, put-standing}
use Rattle.bk_stores.specs.Stores.{AreStores, IsAt, Kept, LeavesEntry, SlotsStand, StandFor, its_files, sealed_by, sealed_of, fixed_of}

-- all of the new one's records count as durable
sealed-same : (slots : List (Option KeptStore)) (tolds : List Told) (slot : Option KeptStore) (new : Told) (i : ℕ) → length slots ≡ length tolds → sealed_by slot new ≡ length new.records
    → sealed_of (slice_get (slots ++ slot ∷ []) i) (slice_get (tolds ++ new ∷ []) i) ≡ sealed_of (slice_get (slots ++ None ∷ []) i) (slice_get (tolds ++ new ∷ []) i)
sealed-same [] [] slot new zero count sealed = sealed
sealed-same [] [] slot new (suc i) count sealed = refl
sealed-same [] (t ∷ tolds) slot new i count sealed = absurd (omega (arith, count))
sealed-same (s ∷ slots) [] slot new i count sealed = absurd (omega (arith, count))
sealed-same (s ∷ slots) (t ∷ tolds) slot new zero count sealed = refl
sealed-same (s ∷ slots) (t ∷ tolds) slot new (suc i) count sealed = sealed-same slots tolds slot new i (omega (arith, count)) sealed

added-count : {X Y : Type 0} (xs : List X) (ys : List Y) (x : X) (y : Y) → length xs ≡ length ys → length (xs ++ x ∷ []) ≡ length (ys ++ y ∷ [])
added-count xs ys x y same = omega (arith, length-append xs (x ∷ []), length-append ys (y ∷ []), same)

more-left : (a : Disk) (image : Files) (s : Kept) (tolds : List Told) (x : Entry) (slot : Option KeptStore) (new : Told) → AreStores a s tolds → MayAdd a s tolds x slot new → ((db : ℕ) (files : List DataFile) → MayLeaveOwn (IsOwn db files) a image)
    → (i : ℕ) (e : Entry) (t : Told) → IsAt (s.master.record.databases ++ x ∷ []) (tolds ++ new ∷ []) i e t → LeavesEntry e (sealed_more s tolds new i) t image
more-left a image s tolds x slot new is may mine i e t at =
    let entries : List Entry = s.master.record.databases ++ x ∷ [] in
    let slots : List (Option KeptStore) = s.slots ++ slot ∷ [] in
    let all : List Told = tolds ++ new ∷ [] in
    let stand : SlotsStand a entries slots all = added-slots a s.master.record.databases s.slots tolds x slot new is.standing.entries.count is.standing.count is.standing.stand may.stands in
    let left = slots-left a image entries slots all (added-count s.slots tolds slot new is.standing.count) stand i e t at (mine e.store (its_files e t)) in
    subst (λ (n : ℕ). LeavesEntry e n t image) (sealed-same s.slots tolds slot new i is.standing.count may.sealed) left

-- the own part stays, and one more is stored or not
pub more-fixed : (r : Record) (x : Entry) → fixed_of (rested r (r.databases ++ x ∷ [])) ≡ more_stored (fixed_of r) x.is_stored
more-fixed r x = ap (λ (bs : List Bool). record { own = r.own; stored = bs }) (mapped-more (λ (e : Entry). e.is_stored) r.databases x)

pub added-crash : (s : Kept) (tolds : List Told) (x : Entry) (slot : Option KeptStore) (new : Told) (next : Record) {a b : Disk} → Adds s x.store → next ≡ rested s.master.record (s.master.record.databases ++ x ∷ []) → AreStores a s tolds → MayAdd a s tolds x slot new
    → Effect IsOfMaster (λ image. HoldsRecord image s.master.record ⊎ HoldsRecord image next) a b → Creates s tolds x.is_stored new a b
added-crash s tolds x slot new next {a} {b} adds same is may effect =
    let r : Record = s.master.record in
    let later : Record = rested r (r.databases ++ x ∷ []) in
    let few : length r.databases < 16 = let few' = adds.few in let count = adds.count in omega (arith, few', count) in
    effect_weaken (λ image here. elim here.0 [
      | inl old ↦ inl (record { «record» = r; is_record = old; is_fixed = refl; entries = is.standing.entries; each = λ i e t at. slots-left a image r.databases s.slots tolds is.standing.count is.standing.stand i e t at (here.1 e.store (its_files e t)) })
      | inr put ↦ inr (record {
        «record» = later;
        is_record = subst (HoldsRecord image) same put;
        is_fixed = more-fixed r x;
        entries = added-entries r tolds x new adds.below few is.standing.entries may.apart;
        each = more-left a image s tolds x slot new is may here.1;
      })
    ]) (master-wide effect)

pub added-stands : (s : Kept) (tolds : List Told) (x : Entry) (slot : Option KeptStore) (new : Told) (m : KeptMaster) {P : Files → Type 0} {a b : Disk} → Adds s x.store → m.record ≡ rested s.master.record (s.master.record.databases ++ x ∷ []) → AreStores a s tolds → MayAdd a s tolds x slot new
    → IsMaster b m → Effect IsOfMaster P a b → AreStores b (record { master = m; slots = s.slots ++ slot ∷ [] }) (tolds ++ new ∷ [])
added-stands s tolds x slot new m {a = a} {b = b} adds same is may master effect =
    let r : Record = s.master.record in
    let entries : List Entry = r.databases ++ x ∷ [] in
    let later : Record = rested r entries in
    let slots : List (Option KeptStore) = s.slots ++ slot ∷ [] in
    let all : List Told = tolds ++ new ∷ [] in
    let few : length r.databases < 16 = let few' = adds.few in let count = adds.count in omega (arith, few', count) in
    let before : StandFor a later slots all = record {
      entries = added-entries r tolds x new adds.below few is.standing.entries may.apart;
      count = added-count s.slots tolds slot new is.standing.count;
      stand = added-slots a r.databases s.slots tolds x slot new is.standing.entries.count is.standing.count is.standing.stand may.stands;
      free = is.standing.free;
    } in
    record {
      master = master;
      standing = subst (λ (n : Record). StandFor b n slots all) (sym same) (standing-kept later slots all (master-keeps effect) before);
    }

-- what stands once it is put
pub added-put : (s : Kept) (x : Entry) (slot : Option KeptStore) (m : KeptMaster) {P : Files → Type 0} {a b : Disk} → Adds s x.store → m.record ≡ rested s.master.record (s.master.record.databases ++ x ∷ []) → AreStanding a s → Joins a s.master.record.databases s.slots x slot
    → IsMaster b m → Effect IsOfMaster P a b → AreStanding b (record { master = m; slots = s.slots ++ slot ∷ [] })
added-put s x slot m adds same is joins master effect =
    let r : Record = s.master.record in
    put-standing m (rested r (r.databases ++ x ∷ [])) (s.slots ++ slot ∷ []) same master effect (added-numbers r x adds.below joins.fresh is.numbers) (more-beside r.databases s.slots x slot adds.count joins is.stores)
