-- Hosted databases of which one is given other points in its note.
use Rattle.std.proofs.Common.{◌≡◌, ◌≤◌, ◌⊎◌, ℕ, false, cond, List, drop, Some, refl, inl, inr, sym, ap, subst, ◌∙◌, arith}
use Rattle.std.specs.Prelude.{set, slice_get}
use Rattle.std.specs.List.{AllByRecursion, AllZip}
use Rattle.bk_device.specs.Compose.{effect_weaken}
use Rattle.bk_device.specs.Disk.{Disk}
use Rattle.bk_device.specs.Effects.{Effect}
use Rattle.bk_hosted.specs.Fronts.{Waits}
use Rattle.bk_hosted.specs.Hosted.{Hosted, folded, has_checkpoint, is_up}
use Rattle.bk_hosted.specs.PointLaws.{has-below}
use Rattle.bk_machine.specs.statements.Restore.{is_online}
use Rattle.bk_points.specs.declared.points.Points.{Points}
use Rattle.bk_points.specs.Points.{IsPoints}
use Rattle.bk_store.specs.FrontLaws.{shown-log}
use Rattle.bk_store.specs.Store.{IsStore, sealed_in, Kept as KeptStore}
use Rattle.bk_store.specs.Told.{Told, files_of}
use Rattle.bk_stores.specs.ListLaws.{got-inside, got-one, got-other, got-set, same-place}
use Rattle.bk_stores.specs.Stores.{AreStores, IsOurs, fixed_of, sealed_at, Kept as KeptStores}
use Rattle.bk_world.specs.Cut.{end_behind}
use Rattle.bk_world.specs.Records.{Counts, Logged}
use Rattle.bk_hosting.specs.declared.hosting.State.{State}
use Rattle.bk_hosting.specs.Hosting.{HasRecord, IsHosting, IsOpenAt, Kept, LeavesEither, Tells, WaitsBehind, own_of, state_of}
use Rattle.bk_hosting.specs.Saying.{NotesPoints, pointing}
use Rattle.bk_hosting.proofs.Fronts.{MayLose, leaves-hosted}
use Rattle.bk_hosting.proofs.Lists.{all-at, all-set, got-mapped, map-same, map-set, zip-set}
use Rattle.bk_hosting.proofs.SaidHosted.{Slot, may-lose, slot-of}
use Rattle.bk_hosting.proofs.StoreSaid.{its-store}

-- the database with these points
abbrev pub pointed : Points → Hosted → Hosted
pointed points h = record h { points = points }

-- ---- points

-- the records of a hosted database count from 1
pub hosted-counts : (a : Disk) (x : Kept) (hosted : List Hosted) (at : ℕ) (h : Hosted) → IsHosting a x hosted → slice_get hosted at ≡ Some h → IsOpenAt x.stores.slots at → Counts 1 h.records (end_behind h.records)
hosted-counts a x hosted at h is here opened =
    let slot : Slot a x hosted at h is.tolds = slot-of a x hosted at h is here opened in
    let store : IsStore a slot.store slot.told = its-store a x.stores is.tolds at slot.told slot.store is.stores slot.there slot.filled in
    subst (λ (rs : List Logged). Counts 1 rs (end_behind rs)) slot.tell.records (shown-log (files_of slot.told) slot.told.records slot.store.shown store.shows).counts

-- points without a next checkpoint are taken in
pub folded-still : (points : Points) (rs : List Logged) → Counts 1 rs (end_behind rs) → points.next_checkpoint ≡ 0 → points.next_kept ≡ 0 → folded points rs ≡ points
folded-still points rs counts next kept =
    let none : has_checkpoint points.next_checkpoint rs ≡ false = ap (λ n. has_checkpoint n rs) next ∙ has-below 0 1 (end_behind rs) rs counts (omega arith) in
    ap (λ t. record points { next_checkpoint = 0; next_kept = 0; kept = cond t points.next_kept points.kept; checkpoint = cond t points.next_checkpoint points.checkpoint }) none
    ∙ ap (λ n. record points { next_checkpoint = n; next_kept = 0 }) (sym next) ∙ ap (λ n. record points { next_kept = n }) (sym kept)

-- what is kept of a hosted database beside its store
pub state-there : (a : Disk) (x : Kept) (hosted : List Hosted) (at : ℕ) (h : Hosted) → IsHosting a x hosted → slice_get hosted at ≡ Some h → slice_get x.states at ≡ Some (state_of h)
state-there a x hosted at h is here = ap (λ (xs : List State). slice_get xs at) is.states ∙ got-mapped state_of hosted at h here

-- ---- what stands

-- what was done to the stores
pub record NotedOn (a b : Disk) (old new : KeptStores) (at : ℕ) (points : Points) : Type 0 where
  pub then : KeptStore
  pub slots : new ≡ record old { slots = set old.slots at (Some then) }
  pub spelled : IsPoints points
  pub seals : (s : KeptStore) → slice_get old.slots at ≡ Some (Some s) → sealed_in then ≡ sealed_in s
  pub stands : (tolds : List Told) (told : Told) → AreStores a old tolds → slice_get tolds at ≡ Some told → AreStores b new (set tolds at (pointing told points))

pub noted-hosting : (a b : Disk) (x new : Kept) (hosted : List Hosted) (at : ℕ) (h : Hosted) (points : Points) → IsHosting a x hosted → slice_get hosted at ≡ Some h → IsOpenAt x.stores.slots at → points.status ≡ h.points.status
    → NotedOn a b x.stores new.stores at points → new.states ≡ set x.states at (state_of (pointed points h)) → IsHosting b new (set hosted at (pointed points h))
noted-hosting a b x new hosted at h points is here opened status done states =
    let slot : Slot a x hosted at h is.tolds = slot-of a x hosted at h is here opened in
    let same : is_up (pointed points h) ≡ is_up h = ap is_online status in
    let waits : WaitsBehind (Some done.then) (pointed points h) =
    let both = subst (λ (n : ℕ). (1 ≤ n) × AllByRecursion (Waits h.transactions) (drop n h.records)) (sym (done.seals slot.store slot.filled)) (slot.first, slot.waits) in (same ∙ slot.up, both.0, both.1) in
    record {
      tolds = set is.tolds at (pointing slot.told points);
      stores = done.stands is.tolds slot.told is.stores slot.there;
      stored = ap (λ (k : KeptStores). (fixed_of k.master.record).stored) done.slots ∙ is.stored ∙ sym (map-same is_up hosted at h (pointed points h) here same);
      tells = zip-set Tells is.tolds hosted at (pointing slot.told points) (pointed points h) (record { spec = slot.tell.spec; note = inl (refl, done.spelled); records = slot.tell.records }) is.tells;
      states = states ∙ ap (λ (xs : List State). set xs at (state_of (pointed points h))) is.states ∙ sym (map-set state_of hosted at (pointed points h));
      waits = subst (λ (k : KeptStores). AllZip WaitsBehind k.slots (set hosted at (pointed points h))) (sym done.slots) (zip-set WaitsBehind x.stores.slots hosted at (Some done.then) (pointed points h) waits is.waits);
      some = all-set HasRecord hosted at (pointed points h) (all-at HasRecord hosted at h here is.some) is.some;
    }

-- ---- crashes

pub noted-crash : (a b : Disk) (x : Kept) (hosted : List Hosted) (at : ℕ) (h : Hosted) (points : Points) → IsHosting a x hosted → slice_get hosted at ≡ Some h → IsOpenAt x.stores.slots at → points.status ≡ h.points.status
    → ((tolds : List Told) (told : Told) → AreStores a x.stores tolds → slice_get tolds at ≡ Some told → NotesPoints x.stores tolds at told points a b) → Effect IsOurs (LeavesEither (own_of x) hosted (set hosted at (pointed points h))) a b
noted-crash a b x hosted at h points is here opened status crash =
    effect_weaken (λ image left. elim left [
      | inl before ↦ inl (leaves-hosted (fixed_of x.stores.master.record) (sealed_at x.stores is.tolds) is.tolds hosted image before is.stored is.tells (may-lose a x hosted is))
      | inr after ↦ inr (leaves-hosted (fixed_of x.stores.master.record) (sealed_at x.stores is.tolds) (set is.tolds at (pointing slot.told points)) (set hosted at (pointed points h)) image after.1
          (is.stored ∙ sym (map-same is_up hosted at h (pointed points h) here (ap is_online status)))
          (zip-set Tells is.tolds hosted at (pointing slot.told points) (pointed points h) (record { spec = slot.tell.spec; note = inl (refl, after.0); records = slot.tell.records }) is.tells) may)
    ]) (crash is.tolds slot.told is.stores slot.there)
  where
    slot : Slot a x hosted at h is.tolds
    slot = slot-of a x hosted at h is here opened

    may : (i : ℕ) (y : Hosted) → slice_get (set hosted at (pointed points h)) i ≡ Some y → MayLose (sealed_at x.stores is.tolds i) y
    may i y there = by (same-place at i)
      where
        by : (at ≡ i) ⊎ (at ≡ i → ⊥) → MayLose (sealed_at x.stores is.tolds i) y
        by (inl same) =
            let one : pointed points h ≡ y = got-one (set hosted at (pointed points h)) at (pointed points h) y (got-set hosted at (pointed points h) (got-inside hosted at h here)) (ap (λ (k : ℕ). slice_get (set hosted at (pointed points h)) k) same ∙ there) in
            let old : MayLose (sealed_at x.stores is.tolds at) h = may-lose a x hosted is at h here in
            subst (MayLose (sealed_at x.stores is.tolds i)) one (subst (λ (k : ℕ). MayLose (sealed_at x.stores is.tolds k) (pointed points h)) same (record { first = old.first; some = old.some; waits = old.waits }))
        by (inr differ) = may-lose a x hosted is i y (sym (got-other hosted at i (pointed points h) differ) ∙ there)
