-- A hosted database of which a checkpoint is made.
use Rattle.std.proofs.Common.{◌≡◌, ◌≤◌, ℕ, zero, suc, true, false, cond, List, length, Option, Some, refl, inl, inr, sym, ap, subst, ◌∙◌, arith}
use Rattle.std.specs.Prelude.{◌==◌, ◌&&◌, ◌||◌, set, slice_get}
use Rattle.std.specs.List.{AllByRecursion, AllZip}
use Rattle.std.proofs.lemmas.Bool.Decides.{nat_tests}
use Rattle.std.proofs.lemmas.List.{length-append, length-map}
use Rattle.bk_device.specs.Compose.{effect_then, effect_weaken}
use Rattle.bk_device.specs.Disk.{Disk, Files}
use Rattle.bk_device.specs.Effects.{Effect}
use Rattle.bk_hosted.specs.Fronts.{Waits}
use Rattle.bk_hosted.specs.Hosted.{Hosted, awaiting, folded, has_checkpoint, is_up, kept_of, checkpoint_of, saying}
use Rattle.bk_hosted.specs.PointLaws.{has-above, has-joined}
use Rattle.bk_master.specs.declared.record.Own.{Own}
use Rattle.bk_points.specs.declared.points.Points.{Points}
use Rattle.bk_store.specs.LiftLaws.{sealed-few}
use Rattle.bk_store.specs.Store.{IsStore, at_end, sealed_in, Kept as KeptStore}
use Rattle.bk_store.specs.Told.{Told, said}
use Rattle.bk_stores.specs.ListLaws.{got-inside, got-set}
use Rattle.bk_stores.specs.StandLaws.{rest-crash}
use Rattle.bk_stores.specs.Stores.{AreStores, IsOurs, LeavesStores, fixed_of, sealed_at, sealed_of, Kept as KeptStores}
use Rattle.bk_undo.specs.Spelled.{spelled}
use Rattle.bk_world.specs.Cut.{end_behind}
use Rattle.bk_world.specs.Records.{Counts, Logged, checkpointed, more, numbered}
use Rattle.bk_world.specs.Says.{alone}
use Rattle.bk_hosting.specs.declared.hosting.State.{State}
use Rattle.bk_hosting.specs.Checkpointing.{LeavesChecked, checked, marked, to_check}
use Rattle.bk_hosting.specs.Hosting.{HasRecord, IsHosting, IsOpenAt, Kept, LeavesEither, LeavesHosted, LeavesSaid, Tells, WaitsBehind, own_of, state_of}
use Rattle.bk_hosting.specs.Saying.{telling}
use Rattle.bk_hosting.proofs.Fronts.{leaves-hosted}
use Rattle.bk_hosting.proofs.Lists.{all-set, map-same, map-set, set-set, zip-set}
use Rattle.bk_hosting.proofs.SaidHosted.{Placed, Slot, all-sealed, drop-past, may-lose, placed-of, slot-of, state-up}
use Rattle.bk_hosting.proofs.SaidLeft.{said-left}
use Rattle.bk_hosting.proofs.StoreSaid.{its-store}

-- ---- a store

-- its end is the one behind the records
pub store-end : (s : KeptStore) (told : Told) (a : Disk) → IsStore a s told → s.paged.log.end ≡ end_behind told.records
store-end s told a is = let ends = is.paged.ends in let size = length-map told.records spelled in omega (arith, ends, size)

pub marked-is : (s : KeptStore) (told : Told) (time : ℕ) (a : Disk) → IsStore a s told → said told (at_end s 0 (checkpointed time)) ≡ marked told time
marked-is s told time a is = ap (λ (n : ℕ). said told (record { lsn = n; begin = 0; deed = checkpointed time })) (store-end s told a is)

-- ---- points

-- the checkpoint is in the log behind it
pub has-last : (rs : List Logged) (time : ℕ) → Counts 1 rs (end_behind rs) → has_checkpoint (end_behind rs) (more rs (end_behind rs) (alone (checkpointed time))) ≡ true
has-last rs time counts =
    let e : ℕ = end_behind rs in
    let new : List Logged = numbered e (alone (checkpointed time)) in
    let none : has_checkpoint e rs ≡ false = has-above e 1 e rs counts (omega arith) in
    let own : (e == e) ≡ true = grind (arith, nat_tests) in
    let last : has_checkpoint e new ≡ true = ap (λ t. (t && true) || false) own in
    has-joined e rs new ∙ ap (λ t. t || has_checkpoint e new) none ∙ last

-- points with a checkpoint that isn't in the log yet are those without
pub await-folded : (points : Points) (rs : List Logged) (kept : ℕ) → Counts 1 rs (end_behind rs) → folded (awaiting points rs kept) rs ≡ folded points rs
await-folded points rs kept counts =
    let none : has_checkpoint (end_behind rs) rs ≡ false = has-above (end_behind rs) 1 (end_behind rs) rs counts (omega arith) in
    ap (λ t. record points { next_checkpoint = 0; next_kept = 0; kept = cond t kept (kept_of points rs); checkpoint = cond t (end_behind rs) (checkpoint_of points rs) }) none

-- and with its record they have it
pub marked-folded : (points : Points) (rs : List Logged) (kept time : ℕ) → Counts 1 rs (end_behind rs)
    → folded (awaiting points rs kept) (more rs (end_behind rs) (alone (checkpointed time))) ≡ record points { next_checkpoint = 0; next_kept = 0; kept = kept; checkpoint = end_behind rs }
marked-folded points rs kept time counts =
    ap (λ t. record points { next_checkpoint = 0; next_kept = 0; kept = cond t kept (kept_of points rs); checkpoint = cond t (end_behind rs) (checkpoint_of points rs) }) (has-last rs time counts)

-- the end of the store of a hosted database is the one behind its records
pub end-there : (a : Disk) (x : Kept) (hosted : List Hosted) (at : ℕ) (h : Hosted) (s : KeptStore) → IsHosting a x hosted → slice_get hosted at ≡ Some h → slice_get x.stores.slots at ≡ Some (Some s) → s.paged.log.end ≡ end_behind h.records
end-there a x hosted at h s is here filled =
    let slot : Placed x at h is.tolds = placed-of a x hosted at h is here in
    store-end s slot.told a (its-store a x.stores is.tolds at slot.told s is.stores slot.there filled) ∙ ap end_behind slot.tell.records

-- points that await a checkpoint there
pub awaited-is : (h : Hosted) (st : State) (end kept : ℕ) (new : Points) → is_up h ≡ true → new ≡ record st.points { next_checkpoint = end; next_kept = kept } → st ≡ state_of h → end ≡ end_behind h.records → new ≡ awaiting h.points h.records kept
awaited-is h st end kept new up is state same =
    is ∙ ap (λ (s : State). record s.points { next_checkpoint = end; next_kept = kept }) (state ∙ state-up h up) ∙ ap (λ (n : ℕ). record (folded h.points h.records) { next_checkpoint = n; next_kept = kept }) same

-- and once they have taken it in
pub taken-in : (h : Hosted) (time kept : ℕ) (old new : Points) → Counts 1 h.records (end_behind h.records) → new ≡ record old { next_checkpoint = 0; next_kept = 0; kept = old.next_kept; checkpoint = old.next_checkpoint } → old ≡ awaiting h.points h.records kept
    → new ≡ folded (awaiting h.points h.records kept) (more h.records (end_behind h.records) (alone (checkpointed time)))
taken-in h time kept old new counts is awaited =
    is ∙ ap (λ (p : Points). record p { next_checkpoint = 0; next_kept = 0; kept = p.next_kept; checkpoint = p.next_checkpoint }) awaited ∙ sym (marked-folded h.points h.records kept time counts)

-- ---- what stands

-- what was done to the stores
pub record MarkedOn (a b : Disk) (old new : KeptStores) (at time : ℕ) : Type 0 where
  pub then : KeptStore
  pub slots : new ≡ record old { slots = set old.slots at (Some then) }
  pub sealed : then.paged.log.stored ≡ then.paged.log.«end»
  pub stands : (tolds : List Told) (told : Told) → AreStores a old tolds → slice_get tolds at ≡ Some told → AreStores b new (set tolds at (marked told time))

-- the one with the checkpoint's record behind the others
abbrev pub behind : Hosted → ℕ → Hosted
behind h time = saying (alone (checkpointed time)) h.transactions h

marked-tells : (told : Told) (h : Hosted) (time : ℕ) → Tells told h → Tells (marked told time) (behind h time)
marked-tells told h time tell = record { spec = tell.spec; note = tell.note; records = ap (λ (rs : List Logged). more rs (end_behind rs) (alone (checkpointed time))) tell.records }

pub marked-hosting : (a b : Disk) (x new : Kept) (hosted : List Hosted) (at : ℕ) (h : Hosted) (time : ℕ) → IsHosting a x hosted → slice_get hosted at ≡ Some h → IsOpenAt x.stores.slots at → MarkedOn a b x.stores new.stores at time
    → new.states ≡ set x.states at (state_of (behind h time)) → IsHosting b new (set hosted at (behind h time))
marked-hosting a b x new hosted at h time is here opened done states =
    let slot : Slot a x hosted at h is.tolds = slot-of a x hosted at h is here opened in
    let told : Told = marked slot.told time in
    let tell : Tells told (behind h time) = marked-tells slot.told h time slot.tell in
    let after : AreStores b new.stores (set is.tolds at told) = done.stands is.tolds slot.told is.stores slot.there in
    let put : slice_get new.stores.slots at ≡ Some (Some done.then) =
    ap (λ (k : KeptStores). slice_get k.slots at) done.slots ∙ got-set x.stores.slots at (Some done.then) (got-inside x.stores.slots at (Some slot.store) slot.filled) in
    let told-put : slice_get (set is.tolds at told) at ≡ Some told = got-set is.tolds at told (got-inside is.tolds at slot.told slot.there) in
    let store : IsStore b done.then told = its-store b new.stores (set is.tolds at told) at told done.then after told-put put in
    let all : sealed_in done.then ≡ length told.records = all-sealed done.then told b store done.sealed in
    let grown : HasRecord (behind h time) = let size = length-append h.records (numbered (end_behind h.records) (alone (checkpointed time))) in omega (arith, size) in
    let same : length told.records ≡ length (behind h time).records = ap (λ (rs : List Logged). length rs) tell.records in
    let waits : WaitsBehind (Some done.then) (behind h time) = (
      slot.up,
      omega (arith, all, same, grown),
      subst (AllByRecursion (Waits h.transactions)) (sym (drop-past (sealed_in done.then) (behind h time).records (omega (arith, all, same)))) tt,
    ) in
    record {
      tolds = set is.tolds at told;
      stores = after;
      stored = ap (λ (k : KeptStores). (fixed_of k.master.record).stored) done.slots ∙ is.stored ∙ sym (map-same is_up hosted at h (behind h time) here refl);
      tells = zip-set Tells is.tolds hosted at told (behind h time) tell is.tells;
      states = states ∙ ap (λ (xs : List State). set xs at (state_of (behind h time))) is.states ∙ sym (map-set state_of hosted at (behind h time));
      waits = subst (λ (k : KeptStores). AllZip WaitsBehind k.slots (set hosted at (behind h time))) (sym done.slots) (zip-set WaitsBehind x.stores.slots hosted at (Some done.then) (behind h time) waits is.waits);
      some = all-set HasRecord hosted at (behind h time) grown is.some;
    }

-- ---- crashes

-- nothing is done
pub rest-hosted : (a : Disk) (x : Kept) (hosted : List Hosted) → IsHosting a x hosted → Effect IsOurs (LeavesHosted (own_of x) hosted) a a
rest-hosted a x hosted is = effect_weaken (λ image left. leaves-hosted (fixed_of x.stores.master.record) (sealed_at x.stores is.tolds) is.tolds hosted image left is.stored is.tells (may-lose a x hosted is)) (rest-crash a x.stores is.tolds is.stores)

pub marked-crash : (a b : Disk) (x : Kept) (hosted : List Hosted) (at : ℕ) (h : Hosted) (time : ℕ) → IsHosting a x hosted → slice_get hosted at ≡ Some h → IsOpenAt x.stores.slots at
    → ((tolds : List Told) (told : Told) → AreStores a x.stores tolds → slice_get tolds at ≡ Some told → Effect IsOurs (LeavesStores (fixed_of x.stores.master.record) (sealed_at x.stores tolds) (set tolds at (marked told time))) a b)
    → Effect IsOurs (LeavesEither (own_of x) hosted (set hosted at (behind h time))) a b
marked-crash a b x hosted at h time is here opened crash =
    let slot : Slot a x hosted at h is.tolds = slot-of a x hosted at h is here opened in
    let few : sealed_at x.stores is.tolds at ≤ length slot.told.records =
    let least : sealed_at x.stores is.tolds at ≡ sealed_in slot.store = ap (λ (o : Option (Option KeptStore)). sealed_of o (slice_get is.tolds at)) slot.filled ∙ ap (λ (o : Option Told). sealed_of (Some (Some slot.store)) o) slot.there in
    let low = sealed-few slot.store slot.told a (its-store a x.stores is.tolds at slot.told slot.store is.stores slot.there slot.filled) in
    omega (arith, least, low) in
    let same : marked slot.told time ≡ telling slot.told (numbered (end_behind h.records) (alone (checkpointed time))) = ap (λ (rs : List Logged). telling slot.told (numbered (end_behind rs) (alone (checkpointed time)))) slot.tell.records in
    effect_weaken (λ image left. either image (said-left (fixed_of x.stores.master.record) (sealed_at x.stores is.tolds) is.tolds hosted at slot.told h (alone (checkpointed time)) h.transactions image slot.there here is.stored is.tells (may-lose a x hosted is) slot.tell few
    (subst (λ (t : Told). LeavesStores (fixed_of x.stores.master.record) (sealed_at x.stores is.tolds) (set is.tolds at t) image) same left)))
    (crash is.tolds slot.told is.stores slot.there)
  where
    either : (image : Files) → LeavesSaid (own_of x) hosted at h (alone (checkpointed time)) h.transactions image → LeavesEither (own_of x) hosted (set hosted at (behind h time)) image
    either image (inl none) = inl none
    either image (inr (zero, less, some)) = inr some
    either image (inr (suc m, less, some)) = absurd (omega (arith, less))

-- what is said of a value holds of its view
pub as-viewed : {a b : Disk} (P : Own → Files → Type 0) (x k : Kept) → x ≡ k → Effect IsOurs (P (own_of x)) a b → Effect IsOurs (P (own_of k)) a b
as-viewed {a} {b} P x k same effect = subst (λ (o : Kept). Effect IsOurs (P (own_of o)) a b) same effect

-- the same own part
pub either-as : {a b : Disk} {one other : Own} (hosted others : List Hosted) → one ≡ other → Effect IsOurs (LeavesEither one hosted others) a b → Effect IsOurs (LeavesEither other hosted others) a b
either-as {a} {b} {one} {other} hosted others same effect = subst (λ (own : Own). Effect IsOurs (LeavesEither own hosted others) a b) same effect

-- it is noted
pub checked-noted : (a b : Disk) (own : Own) (hosted : List Hosted) (at : ℕ) (h : Hosted) (time kept : ℕ) → Effect IsOurs (LeavesEither own hosted (set hosted at (to_check h kept))) a b → Effect IsOurs (LeavesChecked own hosted at h time kept) a b
checked-noted a b own hosted at h time kept effect =
    effect_weaken (λ image left. elim left [
      | inl before ↦ inl before
      | inr noted ↦ inr (inl noted)
    ]) effect

-- it is noted, and then made
pub checked-crash : (a b c : Disk) (own : Own) (hosted : List Hosted) (at : ℕ) (h : Hosted) (time kept : ℕ) → Effect IsOurs (LeavesEither own hosted (set hosted at (to_check h kept))) a b
    → Effect IsOurs (LeavesEither own (set hosted at (to_check h kept)) (set (set hosted at (to_check h kept)) at (checked h time kept))) b c → Effect IsOurs (LeavesChecked own hosted at h time kept) a c
checked-crash a b c own hosted at h time kept first second =
    effect_then (checked-noted a b own hosted at h time kept first)
    (effect_weaken (λ image left. elim left [
      | inl noted ↦ inr (inl noted)
      | inr made ↦ inr (inr (subst (λ (hs : List Hosted). LeavesHosted own hs image) (set-set hosted at (to_check h kept) (checked h time kept)) made))
    ]) second)
