-- Something is done to the store of one database.
use Rattle.std.proofs.Common.{◌≡◌, ◌<◌, ◌⊎◌, ℕ, List, length, set, Option, Some, refl, inl, inr, sym, ap, subst, ◌∙◌, arith}
use Rattle.std.proofs.lemmas.List.{length-set}
use Rattle.std.specs.Prelude.{slice_get}
use Rattle.bk_device.specs.Compose.{effect_weaken}
use Rattle.bk_device.specs.Disk.{Disk, Files}
use Rattle.bk_device.specs.Effects.{Effect}
use Rattle.bk_master.specs.declared.record.Entry.{Entry}
use Rattle.bk_master.specs.Laws.{master_left}
use Rattle.bk_store.specs.Store.{Kept as KeptStore}
use Rattle.bk_store.specs.Told.{Told, data_files}
use Rattle.bk_stores.specs.ListLaws.{got-inside, got-one, got-other, got-set, same-place, set-same}
use Rattle.bk_stores.specs.NameLaws.{own-apart}
use Rattle.bk_stores.specs.SlotLaws.{slot-kept}
use Rattle.bk_stores.specs.StandLaws.{entries-set, master-apart, own-keeps-free, own-keeps-master, own-wide, slots-left}
use Rattle.bk_stores.specs.Stores.{AreStores, IsAt, IsOfEntry, IsOurs, IsSlot, its_files, Kept, LeavesEntry, LeavesStores, SlotsStand, sealed_at, sealed_by, sealed_of, fixed_of}
use Rattle.bk_device.specs.Compose.{keeps_by_effect}

-- an entry of the databases of which one has changed is the one that has, or another
at-set : (entries : List Entry) (tolds : List Told) (at : ℕ) (e : Entry) (t new : Told) → IsAt entries tolds at e t → (i : ℕ) (f : Entry) (u : Told) → IsAt entries (set tolds at new) i f u
    → ((at ≡ i) × (e ≡ f) × (new ≡ u)) ⊎ ((at ≡ i → ⊥) × IsAt entries tolds i f u)
at-set entries tolds at e t new here i f u is = elim (same-place at i) [
  | inl same ↦
      let put : slice_get (set tolds at new) at ≡ Some new = got-set tolds at new (got-inside tolds at t here.1) in
      inl (
        same,
        got-one entries at e f here.0 (ap (λ (n : ℕ). slice_get entries n) same ∙ is.0),
        got-one (set tolds at new) at new u put (ap (λ (n : ℕ). slice_get (set tolds at new) n) same ∙ is.1),
      )
  | inr differ ↦ inr (differ, (is.0, sym (got-other tolds at i new differ) ∙ is.1))
]

changed-slots : {P : Files → Type 0} {a b : Disk} (s : Kept) (tolds : List Told) (at : ℕ) (e : Entry) (t new : Told) (slot : Option KeptStore) → AreStores a s tolds → IsAt s.master.record.databases tolds at e t → Effect (IsOfEntry e t) P a b → IsSlot b e slot new
    → SlotsStand b s.master.record.databases (set s.slots at slot) (set tolds at new)
changed-slots {b = b} s tolds at e t new slot is here effect its = λ i f p u there given. elim (at-set s.master.record.databases tolds at e t new here i f u there) [
  | inl one ↦
      let inside : at < length s.slots = let less = got-inside tolds at t here.1 in omega (arith, less, is.standing.count) in
      let is_slot : slot ≡ p = got-one (set s.slots at slot) at slot p (got-set s.slots at slot inside) (ap (λ (n : ℕ). slice_get (set s.slots at slot) n) one.0 ∙ given) in
      subst (λ (v : Told). IsSlot b f p v) one.2 (subst (λ (q : Option KeptStore). IsSlot b f q new) is_slot (subst (λ (g : Entry). IsSlot b g slot new) one.1 its))
  | inr other ↦
      let old = is.standing.stand i f p u other.1 (sym (got-other s.slots at i slot other.0) ∙ given) in
      slot-kept f p u (keeps_by_effect (λ name its own. own-apart e.store (its_files e t) f.store (its_files f u) (is.standing.entries.apart at i e f t u other.0 here other.1) name own its) effect) old
]

-- behind it the stores stand for the databases of which this one has changed
pub changed-stands : {P : Files → Type 0} {a b : Disk} (s : Kept) (tolds : List Told) (at : ℕ) (e : Entry) (t new : Told) (slot : Option KeptStore) → AreStores a s tolds → IsAt s.master.record.databases tolds at e t → data_files new ≡ data_files t
    → Effect (IsOfEntry e t) P a b → IsSlot b e slot new → AreStores b (record s { slots = set s.slots at slot }) (set tolds at new)
changed-stands s tolds at e t new slot is here same effect its = record {
  master = own-keeps-master e.store (its_files e t) effect is.master;
  standing = record {
    entries = entries-set s.master.record tolds at e t new here same is.standing.entries;
    count = length-set s.slots at slot ∙ is.standing.count ∙ sym (length-set tolds at new);
    stand = changed-slots s tolds at e t new slot is here effect its;
    free = own-keeps-free s.master.record.next e.store (its_files e t) (is.standing.entries.below at e here.0) effect is.standing.free;
  };
}

-- where others are left as they may be, and of it a front of what it has become, files hold fronts of all
pub changed-left : {a : Disk} (s : Kept) (tolds : List Told) (at : ℕ) (e : Entry) (t new : Told) (slot : Option KeptStore) (image : Files) → AreStores a s tolds → IsAt s.master.record.databases tolds at e t → slice_get s.slots at ≡ Some slot → data_files new ≡ data_files t
    → LeavesEntry e (sealed_by slot t) new image → ((name : List ℕ) → (IsOfEntry e t name → ⊥) → IsOurs name → a.may name (image name)) → LeavesStores (fixed_of s.master.record) (sealed_at s tolds) (set tolds at new) image
changed-left {a = a} s tolds at e t new slot image is here filled same leaves left =
    let sealed_here : sealed_at s tolds at ≡ sealed_by slot t = ap (λ (o : Option (Option KeptStore)). sealed_of o (slice_get tolds at)) filled ∙ ap (λ (o : Option Told). sealed_of (Some slot) o) here.1 in
    record {
      «record» = s.master.record;
      is_record = master_left image is.master (λ name master. left name (λ own. master-apart e.store (its_files e t) name master own) (inl master));
      is_fixed = refl;
      entries = entries-set s.master.record tolds at e t new here same is.standing.entries;
      each = λ i f u there. elim (at-set s.master.record.databases tolds at e t new here i f u there) [
        | inl one ↦
            let front : LeavesEntry e (sealed_at s tolds at) new image = subst (λ (n : ℕ). LeavesEntry e n new image) (sym sealed_here) leaves in
            subst (λ (n : ℕ). LeavesEntry f (sealed_at s tolds n) u image) one.0 (subst (λ (v : Told). LeavesEntry f (sealed_at s tolds at) v image) one.2 (subst (λ (g : Entry). LeavesEntry g (sealed_at s tolds at) new image) one.1 front))
        | inr other ↦ slots-left a image s.master.record.databases s.slots tolds is.standing.count is.standing.stand i f u other.1
            (λ name its. left name (λ own. own-apart e.store (its_files e t) f.store (its_files f u) (is.standing.entries.apart at i e f t u other.0 here other.1) name own its) (inr (f.store, its_files f u, its)))
      ];
    }

-- a crash meanwhile leaves the others, and of it a front of what it has become
pub changed-crash : {P : Files → Type 0} {a b : Disk} (s : Kept) (tolds : List Told) (at : ℕ) (e : Entry) (t new : Told) (slot : Option KeptStore) → AreStores a s tolds → IsAt s.master.record.databases tolds at e t → slice_get s.slots at ≡ Some slot → data_files new ≡ data_files t
    → ((image : Files) → P image → LeavesEntry e (sealed_by slot t) new image) → Effect (IsOfEntry e t) P a b → Effect IsOurs (LeavesStores (fixed_of s.master.record) (sealed_at s tolds) (set tolds at new)) a b
changed-crash s tolds at e t new slot is here filled same leads effect =
    effect_weaken (λ image left. changed-left s tolds at e t new slot image is here filled same (leads image left.0) left.1) (own-wide e.store (its_files e t) effect)

-- where a crash leaves of it a front of what it was, or of what it has become, it leaves the databases as before, or with this one changed
pub changed-either : {P : Files → Type 0} {a b : Disk} (s : Kept) (tolds : List Told) (at : ℕ) (e : Entry) (t new : Told) (slot : Option KeptStore) → AreStores a s tolds → IsAt s.master.record.databases tolds at e t → slice_get s.slots at ≡ Some slot → data_files new ≡ data_files t
    → ((image : Files) → P image → LeavesEntry e (sealed_by slot t) t image ⊎ LeavesEntry e (sealed_by slot t) new image) → Effect (IsOfEntry e t) P a b
    → Effect IsOurs (λ image. LeavesStores (fixed_of s.master.record) (sealed_at s tolds) tolds image ⊎ LeavesStores (fixed_of s.master.record) (sealed_at s tolds) (set tolds at new) image) a b
changed-either s tolds at e t new slot is here filled same leads effect =
    effect_weaken (λ image left. elim (leads image left.0) [
      | inl before ↦ inl (subst (λ (ts : List Told). LeavesStores (fixed_of s.master.record) (sealed_at s tolds) ts image) (set-same tolds at t here.1) (changed-left s tolds at e t t slot image is here filled refl before left.1))
      | inr after ↦ inr (changed-left s tolds at e t new slot image is here filled same after left.1)
    ]) (own-wide e.store (its_files e t) effect)
