-- Hosted databases of which one is dropped.
use Rattle.std.proofs.Common.{◌≡◌, ◌<◌, ℕ, zero, suc, Bool, false, List, [], ◌∷◌, ◌++◌, map, length, Option, Some, None, refl, inl, inr, sym, ap, subst, ◌∙◌, arith}
use Rattle.std.specs.Prelude.{remove, set, slice_get}
use Rattle.std.specs.List.{AllZip}
use Rattle.bk_device.specs.Compose.{effect_weaken}
use Rattle.bk_device.specs.Disk.{Disk}
use Rattle.bk_device.specs.Effects.{Effect}
use Rattle.bk_facts.specs.declared.facts.DataFile.{DataFile}
use Rattle.bk_hosted.specs.Hosted.{Hosted, is_up}
use Rattle.bk_master.specs.declared.record.Entry.{Entry}
use Rattle.bk_paged.specs.Names.{names_of}
use Rattle.bk_store.specs.Store.{Kept as KeptStore}
use Rattle.bk_side.specs.Names.{IsData, name_of}
use Rattle.bk_store.specs.Told.{Told}
use Rattle.bk_stores.specs.LessLaws.{got-place, length-less-same, place}
use Rattle.bk_stores.specs.ListLaws.{got-one, got-other, got-set, got-inside, same-place}
use Rattle.bk_stores.specs.Making.{Drops, MayRemove, less_stored, sealed_without}
use Rattle.bk_stores.specs.Standing.{AreStanding, AreUnused}
use Rattle.bk_stores.specs.StandingLaws.{unused-named}
use Rattle.bk_stores.specs.Stores.{AreStores, Fixed, IsOurs, IsReady as AreReady, at_paths, files_by, fixed_of, its_files, sealed_at, sealed_of, Kept as KeptStores}
use Rattle.bk_hosting.specs.declared.hosting.State.{State}
use Rattle.bk_hosting.specs.Hosting.{AreFit, AreOf, HasRecord, IsFitSlot, IsHosting, IsReady, Kept, LeavesEither, Tells, WaitsBehind, own_of, state_of}
use Rattle.bk_hosting.specs.Making.{ArePathsAt, ArePathsOf, kept_files}
use Rattle.bk_hosting.proofs.Fronts.{MayLose, leaves-hosted, zip-length}
use Rattle.bk_hosting.proofs.Lists.{all-less, map-less, zip-less}
use Rattle.bk_hosting.proofs.MadeHosted.{entry-files}
use Rattle.bk_hosting.proofs.SaidHosted.{Placed, may-lose, placed-of}
use Rattle.bk_hosting.proofs.StoreSaid.{OpenAt, open-at}

-- ---- paths

-- no file is at no path
none-named : (name : List ℕ) → IsData [] name → ⊥
none-named name (file, is) = absurd (none-at file is)
  where
    none-at : (n : ℕ) → name_of [] n ≡ Some name → ⊥
    none-at zero one = absurd (cc (one))
    none-at (suc n) one = absurd (cc (one))

named-files : (files : List DataFile) → names_of (at_paths (map (λ f. f.path) files)) ≡ names_of files
named-files [] = refl
named-files (f ∷ files) = ap (λ (ns : List (List ℕ)). names_of (f ∷ []) ++ ns) (named-files files)

-- the names of data files are those at their paths
pub paths-named : (files : List DataFile) (paths : List (List ℕ)) → paths ≡ map (λ f. f.path) files → names_of (at_paths paths) ≡ names_of files
paths-named files paths same = ap (λ (ps : List (List ℕ)). names_of (at_paths ps)) same ∙ named-files files

-- no other open store has the data files of one
pub others-unused : (a : Disk) (s : KeptStores) (at : ℕ) (paths : List (List ℕ)) → AreStanding a s → ArePathsAt s.slots at paths → AreUnused (set s.slots at None) (at_paths paths)
others-unused a s at paths is (None, there, none) = subst (λ (ps : List (List ℕ)). AreUnused (set s.slots at None) (at_paths ps)) (sym none) (λ i store filled name one two. none-named name one)
others-unused a s at paths is (Some store, filled, same) = unused-named (set s.slots at None) store.paged.facts.files (at_paths paths) (paths-named store.paged.facts.files paths same) beside
  where
    beside : AreUnused (set s.slots at None) store.paged.facts.files
    beside i other there =
        elim (same-place at i) [
          | inl one ↦ absurd (cc (got-set s.slots at None (got-inside s.slots at (Some store) filled), ap (λ (n : ℕ). slice_get (set s.slots at None) n) one, there))
          | inr differ ↦ is.stores.beside at i store other differ filled (sym (got-other s.slots at i None differ) ∙ there)
        ]

-- paths that were read of stores are those of the same stores
pub paths-there : (k : Kept) (stores : KeptStores) (at : ℕ) (paths : List (List ℕ)) → stores ≡ k.stores → ArePathsAt k.stores.slots at paths → ArePathsAt stores.slots at paths
paths-there k stores at paths same its = subst (λ (ks : KeptStores). ArePathsAt ks.slots at paths) (sym same) its

-- they are those of its database
pub may-remove : (a : Disk) (x : Kept) (hosted : List Hosted) (at : ℕ) (h : Hosted) (paths : List (List ℕ)) (is : IsHosting a x hosted) → slice_get hosted at ≡ Some h → ArePathsAt x.stores.slots at paths
    → (told : Told) × (slice_get is.tolds at ≡ Some told) × Tells told h × MayRemove x.stores is.tolds at told paths
may-remove a x hosted at h paths is here (slot, filled, are) =
    let placed : Placed x at h is.tolds = placed-of a x hosted at h is here in
    (placed.told, placed.there, placed.tell, record { there = placed.there; names = λ e is_at. by slot filled are placed e is_at })
  where
    by : (slot : Option KeptStore) → slice_get x.stores.slots at ≡ Some slot → ArePathsOf slot paths → (placed : Placed x at h is.tolds) → (e : Entry) → slice_get x.stores.master.record.databases at ≡ Some e
        → names_of (at_paths paths) ≡ names_of (its_files e placed.told)
    by (Some store) filled same placed e is_at =
        let there : OpenAt a x.stores is.tolds at placed.told store = open-at a x.stores is.tolds at placed.told store is.stores placed.there filled in
        let entry : there.e ≡ e = got-one x.stores.master.record.databases at there.e e there.is_at.0 is_at in
        paths-named store.paged.facts.files paths same ∙ ap names_of (there.opened.store.paged.files ∙ sym (ap (λ (f : Entry). its_files f placed.told) (sym entry) ∙ ap (λ (b : _). files_by b placed.told) there.opened.stored))
    by None shut none placed e is_at =
        let down : is_up h ≡ false = (subst (λ (o : Option KeptStore). WaitsBehind o h) (got-one x.stores.slots at placed.slot None placed.in_place shut) placed.waits).0 in
        ap (λ (ps : List (List ℕ)). names_of (at_paths ps)) none ∙ ap names_of (sym (entry-files a x hosted is at e placed.told h is_at placed.there here ∙ ap (λ (b : Bool). kept_files b h) down))

-- ---- what stands

-- the flags of the others
stored-less : (fixed : Fixed) (hosted : List Hosted) (at : ℕ) → AreOf fixed hosted → AreOf (less_stored fixed at) (remove hosted at)
stored-less fixed hosted at stored =
    ap (λ (bs : List Bool). remove bs at) stored ∙ sym (map-less is_up hosted at)

-- the others are ready
pub dropped-ready : (x new : Kept) (at : ℕ) → IsReady x → at < length x.states → AreReady new.stores → new.stores.slots ≡ remove x.stores.slots at → new.states ≡ remove x.states at → IsReady new
dropped-ready x new at ready inside stores slots states = record {
  stores = stores;
  fit = subst AreFit (sym slots) (all-less IsFitSlot x.stores.slots at ready.fit);
  count = ap (λ (xs : List State). length xs) states ∙ length-less-same x.states x.stores.slots at inside ready.count ∙ sym (ap (λ (sl : List (Option KeptStore)). length sl) slots);
}

pub dropped-hosting : (a b : Disk) (x new : Kept) (hosted : List Hosted) (at : ℕ) (is : IsHosting a x hosted) → new.stores.slots ≡ remove x.stores.slots at → fixed_of new.stores.master.record ≡ less_stored (fixed_of x.stores.master.record) at → AreStores b new.stores (remove is.tolds at) → new.states ≡ remove x.states at
    → IsHosting b new (remove hosted at)
dropped-hosting a b x new hosted at is slots same_but after states = record {
  tolds = remove is.tolds at;
  stores = after;
  stored = ap (λ (f : Fixed). f.stored) same_but ∙ stored-less (fixed_of x.stores.master.record) hosted at is.stored;
  tells = zip-less Tells is.tolds hosted at is.tells;
  states = states ∙ ap (λ (xs : List State). remove xs at) is.states ∙ sym (map-less state_of hosted at);
  waits = subst (λ (sl : List (Option KeptStore)). AllZip WaitsBehind sl (remove hosted at)) (sym slots) (zip-less WaitsBehind x.stores.slots hosted at is.waits);
  some = all-less HasRecord hosted at is.some;
}

-- ---- crashes

pub dropped-crash : (a b : Disk) (x : Kept) (hosted : List Hosted) (at : ℕ) (is : IsHosting a x hosted) → at < length hosted → Drops x.stores is.tolds at a b → Effect IsOurs (LeavesEither (own_of x) hosted (remove hosted at)) a b
dropped-crash a b x hosted at is inside effect =
    effect_weaken (λ image left. elim left [
      | inl before ↦ inl (leaves-hosted (fixed_of x.stores.master.record) (sealed_at x.stores is.tolds) is.tolds hosted image before is.stored is.tells (may-lose a x hosted is))
      | inr after ↦ inr (leaves-hosted (less_stored (fixed_of x.stores.master.record) at) (sealed_without x.stores is.tolds at) (remove is.tolds at) (remove hosted at) image after
          (stored-less (fixed_of x.stores.master.record) hosted at is.stored) (zip-less Tells is.tolds hosted at is.tells) may)
    ]) effect
  where
    same : length is.tolds ≡ length hosted
    same = zip-length Tells is.tolds hosted is.tells

    may : (i : ℕ) (y : Hosted) → slice_get (remove hosted at) i ≡ Some y → MayLose (sealed_without x.stores is.tolds at i) y
    may i y there =
        let old : slice_get hosted (place at i) ≡ Some y = sym (got-place hosted at i inside) ∙ there in
        let one : sealed_without x.stores is.tolds at i ≡ sealed_at x.stores is.tolds (place at i) =
        ap (λ (o : Option (Option KeptStore)). sealed_of o (slice_get (remove is.tolds at) i)) (got-place x.stores.slots at i (let count = is.stores.standing.count in omega (arith, inside, same, count)))
        ∙ ap (λ (o : Option Told). sealed_of (slice_get x.stores.slots (place at i)) o) (got-place is.tolds at i (omega (arith, inside, same))) in
        subst (λ (n : ℕ). MayLose n y) (sym one) (may-lose a x hosted is (place at i) y old)
