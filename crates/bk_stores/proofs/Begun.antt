-- The record that names a store as one that is being made is put.
use Rattle.std.proofs.Common.{◌≡◌, ◌≤◌, ◌<◌, ◌^◌, ◌⊎◌, ℕ, List, [], inl, refl, sym, ap, subst, arith}
use Rattle.bk_device.specs.Compose.{durable_kept}
use Rattle.bk_device.specs.Disk.{Disk, Files}
use Rattle.bk_device.specs.Effects.{Effect}
use Rattle.bk_master.specs.declared.record.Record.{Record}
use Rattle.bk_master.specs.Master.{HoldsRecord, IsMaster, IsOwn as IsOfMaster, Kept as KeptMaster}
use Rattle.bk_segments.specs.Files.{AreDurable as LogsAreDurable}
use Rattle.bk_store.specs.Told.{Told}
use Rattle.bk_stores.specs.AddLaws.{begun-entries}
use Rattle.bk_stores.specs.NumberLaws.{begun-numbers}
use Rattle.bk_stores.specs.Records.{AreSmall, SharesNone, begun}
use Rattle.bk_stores.specs.StandLaws.{master-keeps, put-crash, put-stands}
use Rattle.bk_stores.specs.Standing.{AreStanding}
use Rattle.bk_stores.specs.StandingLaws.{put-standing}
use Rattle.bk_stores.specs.Stores.{AreEntries, AreStores, IsOurs, Kept, LeavesStores, at_paths, sealed_at, fixed_of}

pub begun-crash : (s : Kept) (tolds : List Told) (paths : List (List ℕ)) (next : Record) {a b : Disk} → s.master.record.next < 2 ^ 32 → AreSmall paths → next ≡ begun s.master.record paths → AreStores a s tolds → SharesNone s.master.record.databases tolds (at_paths paths)
    → Effect IsOfMaster (λ image. HoldsRecord image s.master.record ⊎ HoldsRecord image next) a b → Effect IsOurs (LeavesStores (fixed_of s.master.record) (sealed_at s tolds) tolds) a b
begun-crash s tolds paths next {a} {b} small short same is shares effect =
    let r : Record = s.master.record in
    put-crash s tolds (begun r paths) is refl refl (begun-entries r tolds paths small short is.standing.entries shares) (subst (λ (n : Record). Effect IsOfMaster (λ image. HoldsRecord image r ⊎ HoldsRecord image n) a b) same effect)

pub begun-stands : (s : Kept) (tolds : List Told) (paths : List (List ℕ)) (m : KeptMaster) {P : Files → Type 0} {a b : Disk} → s.master.record.next < 2 ^ 32 → AreSmall paths → m.record ≡ begun s.master.record paths → AreStores a s tolds
    → SharesNone s.master.record.databases tolds (at_paths paths) → IsMaster b m → Effect IsOfMaster P a b → AreStores b (record s { master = m }) tolds
begun-stands s tolds paths m small short same is shares master effect =
    let r : Record = s.master.record in
    put-stands s tolds m is master effect (ap (λ (n : Record). n.databases) same) (subst (λ (n : Record). r.next ≤ n.next) (sym same) (omega arith))
    (subst (λ (n : Record). AreEntries n tolds) (sym same) (begun-entries r tolds paths small short is.standing.entries shares))

-- nothing is pending in the log that the store is to have
pub begun-free : (s : Kept) (tolds : List Told) {P : Files → Type 0} {a b : Disk} → s.master.record.next < 2 ^ 32 → AreStores a s tolds → Effect IsOfMaster P a b → LogsAreDurable s.master.record.next b
begun-free s tolds small is effect name own =
    let next : ℕ = s.master.record.next in
    durable_kept name (inl own) (master-keeps effect next []) (is.standing.free next (omega arith) small name own)

-- what stands once it is put
pub begun-put : (s : Kept) (paths : List (List ℕ)) (m : KeptMaster) {P : Files → Type 0} {a b : Disk} → m.record ≡ begun s.master.record paths → m.record.next < 2 ^ 32 → AreStanding a s → IsMaster b m → Effect IsOfMaster P a b → AreStanding b (record s { master = m })
begun-put s paths m same small is master effect =
    let r : Record = s.master.record in
    put-standing m (begun r paths) s.slots same master effect (begun-numbers r paths (subst (λ (n : Record). n.next < 2 ^ 32) same small) is.numbers) is.stores
