-- The record with another own part is put.
use Rattle.std.proofs.Common.{◌≡◌, ◌≤◌, ◌⊎◌, List, refl, sym, ap, subst, arith}
use Rattle.bk_device.specs.Disk.{Disk, Files}
use Rattle.bk_device.specs.Effects.{Effect}
use Rattle.bk_master.specs.declared.record.Own.{Own}
use Rattle.bk_master.specs.declared.record.Record.{Record}
use Rattle.bk_master.specs.Master.{HoldsRecord, IsMaster, IsOwn as IsOfMaster, Kept as KeptMaster}
use Rattle.bk_master.specs.Spelling.{KeepsOwn, KeepsRecord}
use Rattle.bk_store.specs.Told.{Told}
use Rattle.bk_stores.specs.Records.{owned}
use Rattle.bk_stores.specs.StandLaws.{put-either, put-stands}
use Rattle.bk_stores.specs.Standing.{AreNumbered, AreStanding}
use Rattle.bk_stores.specs.StandingLaws.{put-standing}
use Rattle.bk_stores.specs.Stores.{AreEntries, AreStores, IsOurs, Kept, LeavesStores, sealed_at, fixed_of}

pub owned-keeps : (r : Record) (own : Own) → KeepsOwn own → KeepsRecord r → KeepsRecord (owned r own)
owned-keeps r own keeps is = record { own = keeps; few = is.few; one = is.one; small = is.small }

owned-entries : (r : Record) (own : Own) (tolds : List Told) → KeepsOwn own → AreEntries r tolds → AreEntries (owned r own) tolds
owned-entries r own tolds keeps is = record {
  keeps = owned-keeps r own keeps is.keeps;
  count = is.count;
  below = is.below;
  under = is.under;
  apart = is.apart;
  aside = is.aside;
}

pub owned-crash : (s : Kept) (own : Own) (tolds : List Told) (next : Record) {a b : Disk} → KeepsOwn own → next ≡ owned s.master.record own → AreStores a s tolds → Effect IsOfMaster (λ image. HoldsRecord image s.master.record ⊎ HoldsRecord image next) a b
    → Effect IsOurs (λ image. LeavesStores (fixed_of s.master.record) (sealed_at s tolds) tolds image ⊎ LeavesStores (record (fixed_of s.master.record) { own = own }) (sealed_at s tolds) tolds image) a b
owned-crash s own tolds next {a} {b} keeps same is effect =
    let r : Record = s.master.record in
    put-either s tolds (owned r own) is refl (owned-entries r own tolds keeps is.standing.entries) (subst (λ (n : Record). Effect IsOfMaster (λ image. HoldsRecord image r ⊎ HoldsRecord image n) a b) same effect)

pub owned-stands : (s : Kept) (own : Own) (tolds : List Told) (m : KeptMaster) {P : Files → Type 0} {a b : Disk} → KeepsOwn own → m.record ≡ owned s.master.record own → AreStores a s tolds → IsMaster b m → Effect IsOfMaster P a b → AreStores b (record s { master = m }) tolds
owned-stands s own tolds m keeps same is master effect =
    let r : Record = s.master.record in
    put-stands s tolds m is master effect (ap (λ (n : Record). n.databases) same) (subst (λ (n : Record). r.next ≤ n.next) (sym same) (omega arith)) (subst (λ (n : Record). AreEntries n tolds) (sym same) (owned-entries r own tolds keeps is.standing.entries))

-- what stands once it is put
pub owned-put : (s : Kept) (own : Own) (m : KeptMaster) {P : Files → Type 0} {a b : Disk} → m.record ≡ owned s.master.record own → AreStanding a s → IsMaster b m → Effect IsOfMaster P a b → AreStanding b (record s { master = m })
owned-put s own m same is master effect =
    let r : Record = s.master.record in
    let numbers : AreNumbered (owned r own) = record { small = is.numbers.small; below = is.numbers.below; under = is.numbers.under; differ = is.numbers.differ } in
    put-standing m (owned r own) s.slots same master effect numbers is.stores
