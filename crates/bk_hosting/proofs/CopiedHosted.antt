-- Hosted databases of which one is copied into a set.
use Rattle.std.proofs.Common.{◌≡◌, ◌≤◌, ℕ, List, length, Option, Some, inl, sym, ap, subst, ◌∙◌, arith}
use Rattle.std.specs.Prelude.{set, slice_get}
use Rattle.std.specs.List.{AllZip}
use Rattle.std.proofs.lemmas.List.{length-set}
use Rattle.bk_device.specs.Compose.{effect_weaken, effect_widen}
use Rattle.bk_device.specs.Disk.{Disk}
use Rattle.bk_hosted.specs.Fronts.{Waits}
use Rattle.bk_hosted.specs.Hosted.{Hosted}
use Rattle.bk_store.specs.LiftLaws.{sealed-few}
use Rattle.bk_store.specs.Store.{IsStore, sealed_in, Kept as KeptStore}
use Rattle.bk_stores.specs.ListLaws.{got-inside, got-one, got-set, set-same}
use Rattle.bk_stores.specs.Stores.{AreStores, IsReady as AreReady, fixed_of, sealed_at, Kept as KeptStores}
use Rattle.bk_volume.specs.Staging.{Staging}
use Rattle.bk_hosting.specs.declared.hosting.State.{State}
use Rattle.bk_hosting.specs.Copying.{AreAsBefore, CopyLeaves, CopyLeavesStores}
use Rattle.bk_hosting.specs.Hosting.{AreFit, IsFitSlot, IsHosting, IsReady, IsSealedAt, Kept, WaitsBehind, own_of}
use Rattle.bk_hosting.proofs.Checked.{rest-hosted, store-end}
use Rattle.bk_hosting.proofs.CopiedStores.{told-there}
use Rattle.bk_hosting.proofs.Fronts.{all-later, leaves-hosted}
use Rattle.bk_hosting.proofs.Lists.{all-set, zip-set}
use Rattle.bk_hosting.proofs.MadeHosted.{host-of}
use Rattle.bk_hosting.proofs.SaidHosted.{Placed, may-lose, placed-of}
use Rattle.bk_hosting.proofs.StoreSaid.{its-store, one-store}

-- calls may be made on them
pub copied-ready : (x new : Kept) (at : ℕ) → IsReady x → AreReady new.stores → AreAsBefore x.stores at new.stores → new.states ≡ x.states → IsReady new
copied-ready x new at ready stores done states =
    let slots : new.stores.slots ≡ set x.stores.slots at (Some done.then) = ap (λ (k : KeptStores). k.slots) done.slots in
    record {
      stores = stores;
      fit = subst AreFit (sym slots) (all-set IsFitSlot x.stores.slots at (Some done.then) done.same.fit ready.fit);
      count = ap (λ (xs : List State). length xs) states ∙ ready.count ∙ sym (ap (λ (xs : List (Option KeptStore)). length xs) slots ∙ length-set x.stores.slots at (Some done.then));
    }

-- the store that was copied
pub copied-there : (old new : KeptStores) (at : ℕ) (done : AreAsBefore old at new) → slice_get new.slots at ≡ Some (Some done.then)
copied-there old new at done = ap (λ (k : KeptStores). slice_get k.slots at) done.slots ∙ got-set old.slots at (Some done.then) (got-inside old.slots at (Some done.store) done.there)

-- what waits of its database
waits-on : (s then : KeptStore) (h : Hosted) → s.paged.log.stored ≤ then.paged.log.stored → WaitsBehind (Some s) h → WaitsBehind (Some then) h
waits-on s then h later waits = (
  waits.0,
  let first = waits.1 in omega (arith, first, later),
  all-later (Waits h.transactions) h.records (sealed_in s) (sealed_in then) (omega (arith, later)) waits.2,
)

-- They are the databases that they were.
pub copied-hosting : (a b : Disk) (x new : Kept) (hosted : List Hosted) (at : ℕ) (is : IsHosting a x hosted) (done : AreAsBefore x.stores at new.stores) → new.states ≡ x.states → done.store.paged.log.stored ≤ done.then.paged.log.stored → AreStores b new.stores is.tolds → IsHosting b new hosted
copied-hosting a b x new hosted at is done states later after =
    let told = told-there a x.stores is.tolds at done.store is.stores done.there in
    let host = host-of a x hosted is at told.0 told.1 in
    let h : Hosted = host.0 in
    let placed : Placed x at h is.tolds = placed-of a x hosted at h is host.1 in
    let before : WaitsBehind (Some done.store) h = subst (λ (slot : Option KeptStore). WaitsBehind slot h) (got-one x.stores.slots at placed.slot (Some done.store) placed.in_place done.there) placed.waits in
    let waits : AllZip WaitsBehind (set x.stores.slots at (Some done.then)) (set hosted at h) = zip-set WaitsBehind x.stores.slots hosted at (Some done.then) h (waits-on done.store done.then h later before) is.waits in
    record {
      tolds = is.tolds;
      stores = after;
      stored = ap (λ (k : KeptStores). (fixed_of k.master.record).stored) done.slots ∙ is.stored;
      tells = is.tells;
      states = states ∙ is.states;
      waits = subst (λ (k : KeptStores). AllZip WaitsBehind k.slots hosted) (sym done.slots) (subst (AllZip WaitsBehind (set x.stores.slots at (Some done.then))) (set-same hosted at h host.1) waits);
      some = is.some;
    }

-- on another device, where the stores stand for the same
pub still-hosting : (a b : Disk) (x : Kept) (hosted : List Hosted) (is : IsHosting a x hosted) → AreStores b x.stores is.tolds → IsHosting b x hosted
still-hosting a b x hosted is after = record { tolds = is.tolds; stores = after; stored = is.stored; tells = is.tells; states = is.states; waits = is.waits; some = is.some }

-- where all was durable it still is
pub copied-sealed : (a b : Disk) (x new : Kept) (hosted : List Hosted) (at : ℕ) (is : IsHosting a x hosted) (done : AreAsBefore x.stores at new.stores) → done.store.paged.log.stored ≤ done.then.paged.log.stored → AreStores b new.stores is.tolds → IsSealedAt x.stores.slots at
    → IsSealedAt new.stores.slots at
copied-sealed a b x new hosted at is done later after sealed =
    let there : slice_get new.stores.slots at ≡ Some (Some done.then) = copied-there x.stores new.stores at done in
    let told = told-there b new.stores is.tolds at done.then after there in
    let store : IsStore b done.then told.0 = its-store b new.stores is.tolds at told.0 done.then after told.1 there in
    let all : done.store.paged.log.stored ≡ done.store.paged.log.end =
    subst (λ (s : KeptStore). s.paged.log.stored ≡ s.paged.log.end) (one-store x.stores.slots at sealed.0 done.store sealed.1 done.there) sealed.2.all in
    let few = sealed-few done.then told.0 b store in
    let ends = store-end done.then told.0 b store in
    let same : done.then.paged.log.end ≡ done.store.paged.log.end = done.same.ends in
    (done.then, there, record { fit = done.same.fit; all = omega (arith, all, few, ends, same, later) })

-- ---- crashes

pub leaves-copied : (a b : Disk) (x : Kept) (hosted : List Hosted) (into : Staging) (is : IsHosting a x hosted) → CopyLeavesStores x.stores is.tolds into a b → CopyLeaves (own_of x) hosted into a b
leaves-copied a b x hosted into is effect =
    effect_weaken (λ image left. leaves-hosted (fixed_of x.stores.master.record) (sealed_at x.stores is.tolds) is.tolds hosted image left is.stored is.tells (may-lose a x hosted is)) effect

-- nothing is done
pub rest-copied : (a : Disk) (x : Kept) (hosted : List Hosted) (into : Staging) → IsHosting a x hosted → CopyLeaves (own_of x) hosted into a a
rest-copied a x hosted into is = effect_widen (λ name ours. inl ours) (λ image here left. here) (rest-hosted a x hosted is)

-- what is left of a value is left of its view
pub copied-viewed : {a b : Disk} (x k : Kept) (hosted : List Hosted) (into : Staging) → x ≡ k → CopyLeaves (own_of x) hosted into a b → CopyLeaves (own_of k) hosted into a b
copied-viewed {a} {b} x k hosted into same effect = subst (λ (o : Kept). CopyLeaves (own_of o) hosted into a b) same effect
