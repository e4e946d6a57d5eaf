-- The record without one of the databases is put.
use Rattle.std.proofs.Common.{◌≡◌, ◌<◌, ◌⊎◌, ℕ, List, length, Option, Some, inl, inr, sym, subst, arith, Bool, ap, refl}
use Rattle.std.specs.Prelude.{remove, slice_get}
use Rattle.bk_device.specs.Compose.{effect_weaken}
use Rattle.bk_device.specs.Disk.{Disk, Files}
use Rattle.bk_device.specs.Effects.{Effect}
use Rattle.bk_master.specs.declared.record.Entry.{Entry}
use Rattle.bk_master.specs.declared.record.Record.{Record}
use Rattle.bk_master.specs.Master.{HoldsRecord, IsMaster, IsOwn as IsOfMaster, Kept as KeptMaster}
use Rattle.bk_store.specs.Store.{Kept as KeptStore}
use Rattle.bk_store.specs.Told.{Told}
use Rattle.bk_stores.specs.LessLaws.{length-less-same, less-entries, less-slots}
use Rattle.bk_stores.specs.ListLaws.{got-inside, mapped-less}
use Rattle.bk_stores.specs.Making.{Drops, MayRemove, less_stored}
use Rattle.bk_stores.specs.NumberLaws.{left-numbers}
use Rattle.bk_stores.specs.Records.{AreSmall, left_out}
use Rattle.bk_stores.specs.StandLaws.{master-keeps, master-wide, slots-left, standing-kept}
use Rattle.bk_stores.specs.Standing.{AreStanding}
use Rattle.bk_stores.specs.StandingLaws.{less-beside, put-standing}
use Rattle.bk_stores.specs.Stores.{AreStores, Kept, StandFor, its_files, fixed_of}

left-standing : (a : Disk) (s : Kept) (tolds : List Told) (at : ℕ) (told : Told) (e : Entry) (paths : List (List ℕ)) → AreSmall paths → MayRemove s tolds at told paths → slice_get s.master.record.databases at ≡ Some e → AreStores a s tolds
    → StandFor a (left_out s.master.record at e.store paths) (remove s.slots at) (remove tolds at)
left-standing a s tolds at told e paths small may there is =
    let r : Record = s.master.record in
    let inside : at < length r.databases = got-inside r.databases at e there in
    let within : at < length tolds = got-inside tolds at told may.there in
    let filled : at < length s.slots = omega (arith, within, is.standing.count) in
    record {
      entries = less-entries r tolds at e told paths small (may.names e there) (there, may.there) is.standing.entries;
      count = length-less-same s.slots tolds at filled is.standing.count;
      stand = less-slots a r.databases s.slots tolds at inside filled within is.standing.stand;
      free = is.standing.free;
    }

-- the own part stays, and those of the others that are stored
pub less-fixed : (r : Record) (at store : ℕ) (paths : List (List ℕ)) → fixed_of (left_out r at store paths) ≡ less_stored (fixed_of r) at
less-fixed r at store paths = ap (λ (bs : List Bool). record { own = r.own; stored = bs }) (mapped-less (λ (e : Entry). e.is_stored) r.databases at)

pub left-crash : (s : Kept) (tolds : List Told) (at : ℕ) (told : Told) (e : Entry) (paths : List (List ℕ)) (next : Record) {a b : Disk} → AreSmall paths → next ≡ left_out s.master.record at e.store paths → slice_get s.master.record.databases at ≡ Some e → AreStores a s tolds
    → MayRemove s tolds at told paths → Effect IsOfMaster (λ image. HoldsRecord image s.master.record ⊎ HoldsRecord image next) a b → Drops s tolds at a b
left-crash s tolds at told e paths next {a} {b} small same there is may effect =
    let r : Record = s.master.record in
    let stand = left-standing a s tolds at told e paths small may there is in
    effect_weaken (λ image here. elim here.0 [
      | inl old ↦ inl (record { «record» = r; is_record = old; is_fixed = refl; entries = is.standing.entries; each = λ i f u it. slots-left a image r.databases s.slots tolds is.standing.count is.standing.stand i f u it (here.1 f.store (its_files f u)) })
      | inr put ↦ inr (record {
        «record» = left_out r at e.store paths;
        is_record = subst (HoldsRecord image) same put;
        is_fixed = less-fixed r at e.store paths;
        entries = stand.entries;
        each = λ i f u it. slots-left a image (remove r.databases at) (remove s.slots at) (remove tolds at) stand.count stand.stand i f u it (here.1 f.store (its_files f u));
      })
    ]) (master-wide effect)

pub left-stands : (s : Kept) (tolds : List Told) (at : ℕ) (told : Told) (e : Entry) (paths : List (List ℕ)) (m : KeptMaster) {P : Files → Type 0} {a b : Disk} → AreSmall paths → m.record ≡ left_out s.master.record at e.store paths → slice_get s.master.record.databases at ≡ Some e
    → AreStores a s tolds → MayRemove s tolds at told paths → IsMaster b m → Effect IsOfMaster P a b → AreStores b (record { master = m; slots = remove s.slots at }) (remove tolds at)
left-stands s tolds at told e paths m {a = a} {b = b} small same there is may master effect =
    let slots : List (Option KeptStore) = remove s.slots at in
    let rest : List Told = remove tolds at in
    record {
      master = master;
      standing = subst (λ (n : Record). StandFor b n slots rest) (sym same) (standing-kept (left_out s.master.record at e.store paths) slots rest (master-keeps effect) (left-standing a s tolds at told e paths small may there is));
    }

-- what stands once it is put
pub left-put : (s : Kept) (at : ℕ) (e : Entry) (paths : List (List ℕ)) (m : KeptMaster) {P : Files → Type 0} {a b : Disk} → m.record ≡ left_out s.master.record at e.store paths → slice_get s.master.record.databases at ≡ Some e → at < length s.slots → AreStanding a s
    → IsMaster b m → Effect IsOfMaster P a b → AreStanding b (record { master = m; slots = remove s.slots at })
left-put s at e paths m same there filled is master effect =
    let r : Record = s.master.record in
    put-standing m (left_out r at e.store paths) (remove s.slots at) same master effect (left-numbers r at e paths there is.numbers) (less-beside r.databases s.slots at (got-inside r.databases at e there) filled is.stores)
