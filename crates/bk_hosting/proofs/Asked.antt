-- What is asked of hosted databases, and what the instance keeps of itself.
use Rattle.std.proofs.Common.{◌≡◌, ◌<◌, ◌⊎◌, ℕ, Bool, true, false, cond, ltb, List, [], ◌∷◌, length, Option, Some, None, refl, inl, inr, sym, ap, subst, ◌∙◌, arith}
use Rattle.std.specs.Prelude.{slice_get}
use Rattle.std.specs.List.{AllZip, position, position_or_len}
use Rattle.std.proofs.lemmas.Bool.{le-ltb, lt-ltb}
use Rattle.std.proofs.lemmas.List.Sums.{position_or_len_is}
use Rattle.std.proofs.lemmas.Option.{get_or_from_slice_get}
use Rattle.bk_device.specs.Compose.{effect_weaken}
use Rattle.bk_device.specs.Disk.{Disk}
use Rattle.bk_device.specs.Effects.{Effect}
use Rattle.bk_hosted.specs.Hosted.{Hosted}
use Rattle.bk_master.specs.declared.record.Own.{Own}
use Rattle.bk_master.specs.declared.record.Record.{Record}
use Rattle.bk_store.specs.Store.{Kept as KeptStore}
use Rattle.bk_stores.specs.ListLaws.{got, got-inside}
use Rattle.bk_stores.specs.Records.{owned}
use Rattle.bk_stores.specs.Stores.{AreStores, IsOurs, IsReady as AreReady, LeavesStores, fixed_of, sealed_at}
use Rattle.bk_hosting.specs.declared.hosting.State.{State}
use Rattle.bk_hosting.specs.Hosting.{AreFit, IsHosting, IsReady, Kept, LeavesHosted, WaitsBehind, own_of}
use Rattle.bk_hosting.proofs.Fronts.{leaves-hosted}
use Rattle.bk_hosting.proofs.SaidHosted.{may-lose}

-- ---- places

-- the first one that passes is found
pub found-at : (p : Hosted → Bool) (hosted : List Hosted) (i : ℕ) (h : Hosted) → slice_get hosted i ≡ Some h → p h ≡ true → ((k : ℕ) (y : Hosted) → k < i → slice_get hosted k ≡ Some y → p y ≡ false) → position p hosted ≡ Some i
found-at p hosted i h there passes before =
    let inside : i < length hosted = got-inside hosted i h there in
    let place : position_or_len p hosted ≡ i =
    position_or_len_is p hosted i h (omega (arith, inside))
    (λ k low. let one = got hosted k (omega (arith, low, inside)) in ap p (get_or_from_slice_get hosted k one.0 h one.1) ∙ before k one.0 low one.1)
    (λ low. ap p (get_or_from_slice_get hosted i h h there) ∙ passes) in
    ap (λ (n : ℕ). cond (ltb n (length hosted)) (Some n) None) place ∙ ap (λ (t : Bool). cond t (Some i) None) (lt-ltb i (length hosted) inside)

-- where none passes, none is
pub found-none : (p : Hosted → Bool) (hosted : List Hosted) → ((k : ℕ) (y : Hosted) → slice_get hosted k ≡ Some y → p y ≡ false) → position p hosted ≡ None
found-none p [] none = refl
found-none p (h ∷ hs) none =
    let hosted : List Hosted = h ∷ hs in
    let place : position_or_len p hosted ≡ length hosted =
    position_or_len_is p hosted (length hosted) h (omega arith)
    (λ k low. let one = got hosted k low in ap p (get_or_from_slice_get hosted k one.0 h one.1) ∙ none k one.0 one.1)
    (λ low. absurd (omega (arith, low))) in
    ap (λ (n : ℕ). cond (ltb n (length hosted)) (Some n) None) place ∙ ap (λ (t : Bool). cond t (Some (length hosted)) None) (le-ltb (length hosted) (length hosted) (omega arith))

-- ---- the own part

pub owned-ready : (x new : Kept) → IsReady x → AreReady new.stores → new.stores.slots ≡ x.stores.slots → new.states ≡ x.states → IsReady new
owned-ready x new ready stores slots states = record {
  stores = stores;
  fit = subst AreFit (sym slots) ready.fit;
  count = ap (λ (xs : List State). length xs) states ∙ ready.count ∙ ap (λ (xs : List (Option KeptStore)). length xs) (sym slots);
}

pub owned-hosting : (a b : Disk) (x new : Kept) (own : Own) (hosted : List Hosted) (is : IsHosting a x hosted) → new.stores.master.record ≡ owned x.stores.master.record own → new.stores.slots ≡ x.stores.slots → new.states ≡ x.states → AreStores b new.stores is.tolds → IsHosting b new hosted
owned-hosting a b x new own hosted is put slots states after = record {
  tolds = is.tolds;
  stores = after;
  stored = ap (λ (r : Record). (fixed_of r).stored) put ∙ is.stored;
  tells = is.tells;
  states = states ∙ is.states;
  waits = subst (λ (sl : List (Option KeptStore)). AllZip WaitsBehind sl hosted) (sym slots) is.waits;
  some = is.some;
}

pub owned-left : (a b : Disk) (x : Kept) (own : Own) (hosted : List Hosted) (is : IsHosting a x hosted)
    → Effect IsOurs (λ image. LeavesStores (fixed_of x.stores.master.record) (sealed_at x.stores is.tolds) is.tolds image ⊎ LeavesStores (record (fixed_of x.stores.master.record) { own = own }) (sealed_at x.stores is.tolds) is.tolds image) a b
    → Effect IsOurs (λ image. LeavesHosted (own_of x) hosted image ⊎ LeavesHosted own hosted image) a b
owned-left a b x own hosted is effect =
    effect_weaken (λ image left. elim left [
      | inl before ↦ inl (leaves-hosted (fixed_of x.stores.master.record) (sealed_at x.stores is.tolds) is.tolds hosted image before is.stored is.tells (may-lose a x hosted is))
      | inr after ↦ inr (leaves-hosted (record (fixed_of x.stores.master.record) { own = own }) (sealed_at x.stores is.tolds) is.tolds hosted image after is.stored is.tells (may-lose a x hosted is))
    ]) effect
