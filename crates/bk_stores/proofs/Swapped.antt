-- The record in which another store is that of a database is put.
use Rattle.std.proofs.Common.{◌≡◌, ◌<◌, ◌⊎◌, ℕ, zero, suc, List, [], ◌∷◌, length, set, Option, Some, None, refl, inl, inr, sym, subst, ◌∙◌, Bool, ap}
use Rattle.std.proofs.lemmas.List.{length-set}
use Rattle.std.specs.Prelude.{slice_get}
use Rattle.bk_device.specs.Compose.{effect_weaken}
use Rattle.bk_device.specs.Disk.{Disk, Files}
use Rattle.bk_device.specs.Effects.{Effect}
use Rattle.bk_master.specs.declared.record.Entry.{Entry}
use Rattle.bk_master.specs.declared.record.Record.{Record}
use Rattle.bk_master.specs.Master.{HoldsRecord, IsMaster, IsOwn as IsOfMaster, Kept as KeptMaster}
use Rattle.bk_store.specs.Store.{Kept as KeptStore}
use Rattle.bk_store.specs.Told.{Told}
use Rattle.bk_stores.specs.ListLaws.{got-inside, mapped-set}
use Rattle.bk_stores.specs.Making.{MaySwap, Swaps, set_stored}
use Rattle.bk_stores.specs.NumberLaws.{swapped-numbers}
use Rattle.bk_stores.specs.Records.{AreSmall, swapped}
use Rattle.bk_stores.specs.StandLaws.{master-keeps, master-wide, slots-left, standing-kept}
use Rattle.bk_stores.specs.Standing.{AreStanding, Joins}
use Rattle.bk_stores.specs.StandingLaws.{put-standing, swapped-beside}
use Rattle.bk_stores.specs.Stores.{AreStores, Kept, LeavesEntry, StandFor, its_files, sealed_by, sealed_of, fixed_of}
use Rattle.bk_stores.specs.SwapLaws.{swapped-entries, swapped-slots}

-- all of the new one's records count as durable
pub sealed-set : (slots : List (Option KeptStore)) (tolds : List Told) (at : ℕ) (slot : Option KeptStore) (new : Told) (i : ℕ) → sealed_by slot new ≡ length new.records
    → sealed_of (slice_get (set slots at slot) i) (slice_get (set tolds at new) i) ≡ sealed_of (slice_get (set slots at None) i) (slice_get (set tolds at new) i)
sealed-set [] tolds at slot new i sealed = refl
sealed-set (s ∷ slots) [] zero slot new zero sealed = none-told slot
  where
    none-told : (slot : Option KeptStore) → sealed_of (Some slot) None ≡ sealed_of (Some None) None
    none-told slot = refl
sealed-set (s ∷ slots) [] zero slot new (suc i) sealed = refl
sealed-set (s ∷ slots) [] (suc at) slot new zero sealed = refl
sealed-set (s ∷ slots) [] (suc at) slot new (suc i) sealed = sealed-set slots [] at slot new i sealed
sealed-set (s ∷ slots) (t ∷ tolds) zero slot new zero sealed = sealed
sealed-set (s ∷ slots) (t ∷ tolds) zero slot new (suc i) sealed = refl
sealed-set (s ∷ slots) (t ∷ tolds) (suc at) slot new zero sealed = refl
sealed-set (s ∷ slots) (t ∷ tolds) (suc at) slot new (suc i) sealed = sealed-set slots tolds at slot new i sealed

swapped-standing : (a : Disk) (s : Kept) (tolds : List Told) (at : ℕ) (told new : Told) (e x : Entry) (slot : Option KeptStore) (paths : List (List ℕ)) → AreSmall paths → MaySwap a s tolds at told x slot new paths → slice_get s.master.record.databases at ≡ Some e → AreStores a s tolds
    → StandFor a (swapped s.master.record at x e.store paths) (set s.slots at slot) (set tolds at new)
swapped-standing a s tolds at told new e x slot paths small may there is =
    let r : Record = s.master.record in
    let aside = may.aside e there in
    record {
      entries = swapped-entries r tolds at e x told new paths small aside.1 (there, may.there) may.below may.apart aside.0 is.standing.entries;
      count = length-set s.slots at slot ∙ is.standing.count ∙ sym (length-set tolds at new);
      stand = swapped-slots a r.databases s.slots tolds at e x told new slot (there, may.there) is.standing.count is.standing.stand may.stands;
      free = is.standing.free;
    }

-- the own part stays, and the other one is stored or not
pub set-fixed : (r : Record) (at : ℕ) (x : Entry) (store : ℕ) (paths : List (List ℕ)) → fixed_of (swapped r at x store paths) ≡ set_stored (fixed_of r) at x.is_stored
set-fixed r at x store paths = ap (λ (bs : List Bool). record { own = r.own; stored = bs }) (mapped-set (λ (e : Entry). e.is_stored) r.databases at x)

pub swapped-crash : (s : Kept) (tolds : List Told) (at : ℕ) (told new : Told) (e x : Entry) (slot : Option KeptStore) (paths : List (List ℕ)) (next : Record) {a b : Disk} → AreSmall paths → next ≡ swapped s.master.record at x e.store paths → slice_get s.master.record.databases at ≡ Some e
    → AreStores a s tolds → MaySwap a s tolds at told x slot new paths → Effect IsOfMaster (λ image. HoldsRecord image s.master.record ⊎ HoldsRecord image next) a b → Swaps s tolds at x.is_stored new a b
swapped-crash s tolds at told new e x slot paths next {a} {b} small same there is may effect =
    let r : Record = s.master.record in
    let stand = swapped-standing a s tolds at told new e x slot paths small may there is in
    effect_weaken (λ image here. elim here.0 [
      | inl old ↦ inl (record { «record» = r; is_record = old; is_fixed = refl; entries = is.standing.entries; each = λ i f u it. slots-left a image r.databases s.slots tolds is.standing.count is.standing.stand i f u it (here.1 f.store (its_files f u)) })
      | inr put ↦ inr (record {
        «record» = swapped r at x e.store paths;
        is_record = subst (HoldsRecord image) same put;
        is_fixed = set-fixed r at x e.store paths;
        entries = stand.entries;
        each = λ i f u it. subst (λ (n : ℕ). LeavesEntry f n u image) (sealed-set s.slots tolds at slot new i may.sealed)
            (slots-left a image (set r.databases at x) (set s.slots at slot) (set tolds at new) stand.count stand.stand i f u it (here.1 f.store (its_files f u)));
      })
    ]) (master-wide effect)

pub swapped-stands : (s : Kept) (tolds : List Told) (at : ℕ) (told new : Told) (e x : Entry) (slot : Option KeptStore) (paths : List (List ℕ)) (m : KeptMaster) {P : Files → Type 0} {a b : Disk} → AreSmall paths → m.record ≡ swapped s.master.record at x e.store paths
    → slice_get s.master.record.databases at ≡ Some e → AreStores a s tolds → MaySwap a s tolds at told x slot new paths → IsMaster b m → Effect IsOfMaster P a b → AreStores b (record { master = m; slots = set s.slots at slot }) (set tolds at new)
swapped-stands s tolds at told new e x slot paths m {a = a} {b = b} small same there is may master effect =
    let slots : List (Option KeptStore) = set s.slots at slot in
    let all : List Told = set tolds at new in
    record {
      master = master;
      standing = subst (λ (n : Record). StandFor b n slots all) (sym same) (standing-kept (swapped s.master.record at x e.store paths) slots all (master-keeps effect) (swapped-standing a s tolds at told new e x slot paths small may there is));
    }

-- what stands once it is put
pub swapped-put : (s : Kept) (at : ℕ) (e x : Entry) (slot : Option KeptStore) (paths : List (List ℕ)) (m : KeptMaster) {P : Files → Type 0} {a b : Disk} → m.record ≡ swapped s.master.record at x e.store paths → slice_get s.master.record.databases at ≡ Some e → x.store < s.master.record.next → AreStanding a s
    → Joins a s.master.record.databases (set s.slots at None) x slot → IsMaster b m → Effect IsOfMaster P a b → AreStanding b (record { master = m; slots = set s.slots at slot })
swapped-put s at e x slot paths m same there below is joins master effect =
    let r : Record = s.master.record in
    put-standing m (swapped r at x e.store paths) (set s.slots at slot) same master effect (swapped-numbers r at e x paths there below joins.fresh is.numbers)
    (swapped-beside r.databases s.slots at x slot (got-inside r.databases at e there) joins is.stores)
