-- The record under which nothing is being made or removed is put.
use Rattle.std.proofs.Common.{◌≡◌, ◌≤◌, ◌⊎◌, List, refl, sym, ap, subst, arith}
use Rattle.bk_device.specs.Disk.{Disk, Files}
use Rattle.bk_device.specs.Effects.{Effect}
use Rattle.bk_master.specs.declared.record.Record.{Record}
use Rattle.bk_master.specs.Master.{HoldsRecord, IsMaster, IsOwn as IsOfMaster, Kept as KeptMaster}
use Rattle.bk_store.specs.Told.{Told}
use Rattle.bk_stores.specs.NumberLaws.{rested-numbers}
use Rattle.bk_stores.specs.Records.{rested}
use Rattle.bk_stores.specs.StandLaws.{entries-rest, put-crash, put-stands}
use Rattle.bk_stores.specs.Standing.{AreStanding}
use Rattle.bk_stores.specs.StandingLaws.{put-standing}
use Rattle.bk_stores.specs.Stores.{AreEntries, AreStores, IsOurs, Kept, LeavesStores, sealed_at, fixed_of}

rested-entries : (r : Record) (tolds : List Told) → AreEntries r tolds → AreEntries (rested r r.databases) tolds
rested-entries r tolds is = entries-rest r (rested r r.databases) tolds (record { own = is.keeps.own; few = is.keeps.few; one = omega arith; small = tt }) refl (omega arith) refl is

pub rested-crash : (s : Kept) (tolds : List Told) (next : Record) {a b : Disk} → next ≡ rested s.master.record s.master.record.databases → AreStores a s tolds → Effect IsOfMaster (λ image. HoldsRecord image s.master.record ⊎ HoldsRecord image next) a b
    → Effect IsOurs (LeavesStores (fixed_of s.master.record) (sealed_at s tolds) tolds) a b
rested-crash s tolds next {a} {b} same is effect =
    let r : Record = s.master.record in
    put-crash s tolds (rested r r.databases) is refl refl (rested-entries r tolds is.standing.entries) (subst (λ (n : Record). Effect IsOfMaster (λ image. HoldsRecord image r ⊎ HoldsRecord image n) a b) same effect)

pub rested-stands : (s : Kept) (tolds : List Told) (m : KeptMaster) {P : Files → Type 0} {a b : Disk} → m.record ≡ rested s.master.record s.master.record.databases → AreStores a s tolds → IsMaster b m → Effect IsOfMaster P a b → AreStores b (record s { master = m }) tolds
rested-stands s tolds m same is master effect =
    let r : Record = s.master.record in
    put-stands s tolds m is master effect (ap (λ (n : Record). n.databases) same) (subst (λ (n : Record). r.next ≤ n.next) (sym same) (omega arith)) (subst (λ (n : Record). AreEntries n tolds) (sym same) (rested-entries r tolds is.standing.entries))

-- what stands once it is put
pub rested-put : (s : Kept) (m : KeptMaster) {P : Files → Type 0} {a b : Disk} → m.record ≡ rested s.master.record s.master.record.databases → AreStanding a s → IsMaster b m → Effect IsOfMaster P a b → AreStanding b (record s { master = m })
rested-put s m same is master effect =
    let r : Record = s.master.record in
    put-standing m (rested r r.databases) s.slots same master effect (rested-numbers r is.numbers) is.stores
