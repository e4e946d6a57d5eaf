-- Hosted databases that are opened, one behind the other.
use Rattle.std.proofs.Common.{◌≡◌, ◌≤◌, ◌<◌, ◌⊎◌, ℕ, zero, suc, ◌+◌, Bool, true, false, List, [], ◌∷◌, ◌++◌, map, take, length, Option, Some, None, refl, inl, inr, sym, ap, subst, ◌∙◌, arith}
use Rattle.std.specs.Prelude.{set, slice_get}
use Rattle.std.specs.List.{AllByRecursion, AllZip}
use Rattle.std.proofs.lemmas.Bool.{cases_lt}
use Rattle.std.proofs.lemmas.List.{length-append, length-set, take_all}
use Rattle.std.proofs.Math.Seq.{take-length}
use Rattle.bk_device.specs.Calls.{ChangesNothing}
use Rattle.bk_device.specs.Compose.{effect_weaken, keeps_by_nothing}
use Rattle.bk_device.specs.Disk.{Disk, Files}
use Rattle.bk_device.specs.Effects.{Effect}
use Rattle.bk_hosted.specs.Fronts.{settled_by, settling}
use Rattle.bk_hosted.specs.Hosted.{Hosted, is_up}
use Rattle.bk_master.specs.declared.record.Entry.{Entry}
use Rattle.bk_master.specs.Laws.{master_kept}
use Rattle.bk_paged.specs.Paged.{Standing}
use Rattle.bk_paged.specs.StandLaws.{standing-kept as paged-kept}
use Rattle.bk_stores.specs.Reopening.{settled as settled_told}
use Rattle.bk_store.specs.Store.{Kept as KeptStore}
use Rattle.bk_store.specs.Told.{Told, front_of}
use Rattle.bk_stores.specs.ListLaws.{got, got-inside, got-one, got-other, got-set, same-place}
use Rattle.bk_stores.specs.Making.{IsSealed}
use Rattle.bk_stores.specs.Standing.{AreStanding}
use Rattle.bk_stores.specs.StandLaws.{rest-crash, standing-kept}
use Rattle.bk_stores.specs.Stores.{AreStores, Fixed, HoldsEntry, IsAt, IsOurs, IsReady as AreReady, LeavesEntry, LeavesStores, fixed_of, sealed_at, sealed_by, sealed_of, Kept as KeptStores}
use Rattle.bk_world.specs.Cut.{settled}
use Rattle.bk_world.specs.Records.{Logged}
use Rattle.bk_hosting.specs.declared.hosting.State.{State}
use Rattle.bk_hosting.specs.Hosting.{AreFit, AreOf, HasRecord, IsFitSlot, IsNoteOf, IsSealedAt, Kept, Tells, own_of, state_of}
use Rattle.bk_hosting.specs.Loading.{IsOpenedFor, IsOpening, IsPartly, IsUndoing, LeavesUndoing, opened}
use Rattle.bk_hosting.proofs.Fronts.{Collected, Leaves, collect, fronts-entries, some-taken, zip-got, zip-length}
use Rattle.bk_hosting.proofs.Lists.{all-at, all-set, zip-set}
use Rattle.bk_hosting.proofs.MadeHosted.{entry-stored}
use Rattle.bk_hosting.proofs.SaidHosted.{all-sealed}
use Rattle.bk_hosting.proofs.StoreSaid.{its-store}

-- ---- nothing changes

pub stores-still : {a b : Disk} (s : KeptStores) (tolds : List Told) → ChangesNothing a b → AreStores a s tolds → AreStores b s tolds
stores-still s tolds nothing is = record { master = master_kept (keeps_by_nothing nothing) is.master; standing = standing-kept s.master.record s.slots tolds (λ db files. keeps_by_nothing nothing) is.standing }

pub standing-still : {a b : Disk} (s : KeptStores) → ChangesNothing a b → AreStanding a s → AreStanding b s
standing-still s nothing is = record {
  master = master_kept (keeps_by_nothing nothing) is.master;
  numbers = is.numbers;
  stores = record {
    each = λ i store there. let one = is.stores.each i store there in (one.0, one.1, record { number = one.2.number; fit = one.2.fit; standing = paged-kept store.paged one.2.standing nothing });
    beside = is.stores.beside;
  };
}

-- ---- databases of which some are settled

pub opened-length : (k : ℕ) (hosted : List Hosted) → length (opened k hosted) ≡ length hosted
opened-length zero hosted = refl
opened-length (suc k) [] = refl
opened-length (suc k) (h ∷ hosted) = ap suc (opened-length k hosted)

-- below the place each is settled, and from there on none is
opened-below : (k i : ℕ) (hosted : List Hosted) (h : Hosted) → i < k → slice_get hosted i ≡ Some h → slice_get (opened k hosted) i ≡ Some (settling h)
opened-below zero i hosted h low there = absurd (omega (arith, low))
opened-below (suc k) i [] h low there = absurd (cc there)
opened-below (suc k) zero (g ∷ hosted) h low there = ap (λ (x : Hosted). Some (settling x)) (let same : g ≡ h = cc (there) in same)
opened-below (suc k) (suc i) (g ∷ hosted) h low there = opened-below k i hosted h (omega (arith, low)) there

opened-above : (k i : ℕ) (hosted : List Hosted) → k ≤ i → slice_get (opened k hosted) i ≡ slice_get hosted i
opened-above zero i hosted low = refl
opened-above (suc k) i [] low = refl
opened-above (suc k) zero (g ∷ hosted) low = absurd (omega (arith, low))
opened-above (suc k) (suc i) (g ∷ hosted) low = opened-above k i hosted (omega (arith, low))

-- one more is settled
opened-next : (k : ℕ) (hosted : List Hosted) (h : Hosted) → slice_get hosted k ≡ Some h → opened (suc k) hosted ≡ set (opened k hosted) k (settling h)
opened-next zero [] h there = absurd (cc there)
opened-next zero (g ∷ hosted) h there = ap (λ (x : Hosted). settling x ∷ hosted) (let same : g ≡ h = cc (there) in same)
opened-next (suc k) [] h there = absurd (cc there)
opened-next (suc k) (g ∷ hosted) h there = ap (λ (xs : List Hosted). settling g ∷ xs) (opened-next k hosted h there)

states-next : (k : ℕ) (hosted : List Hosted) (h : Hosted) → slice_get hosted k ≡ Some h → map state_of (map settling (take (suc k) hosted)) ≡ map state_of (map settling (take k hosted)) ++ state_of (settling h) ∷ []
states-next zero [] h there = absurd (cc there)
states-next zero (g ∷ hosted) h there = ap (λ (x : Hosted). state_of (settling x) ∷ []) (let same : g ≡ h = cc (there) in same)
states-next (suc k) [] h there = absurd (cc there)
states-next (suc k) (g ∷ hosted) h there = ap (λ (xs : List State). state_of (settling g) ∷ xs) (states-next k hosted h there)

-- a settled log has the records that it had
front-kept : (rs : List Logged) → take (length rs) (settled rs) ≡ rs
unfolding settled
front-kept rs = joined rs _
  where
    joined : (xs ys : List Logged) → take (length xs) (xs ++ ys) ≡ xs
    joined [] ys = refl
    joined (x ∷ xs) ys = ap (λ (zs : List Logged). x ∷ zs) (joined xs ys)

front-settled : (up : Bool) (rs : List Logged) → take (length rs) (settled_by up rs) ≡ rs
front-settled true rs = front-kept rs
front-settled false rs = take-length rs

no-shorter : (rs : List Logged) → length rs ≤ length (settled rs)
unfolding settled
no-shorter rs = joined rs _
  where
    joined : (xs ys : List Logged) → length xs ≤ length (xs ++ ys)
    joined xs ys = let size = length-append xs ys in omega (arith, size)

pub settled-longer : (up : Bool) (rs : List Logged) → length rs ≤ length (settled_by up rs)
settled-longer true rs = no-shorter rs
settled-longer false rs = omega arith

-- a store that was opened tells its database settled
pub settled-tells : (t : Told) (h : Hosted) → is_up h ≡ true → Tells t h → Tells (settled_told t) (settling h)
settled-tells t h up tell = record { spec = tell.spec; note = tell.note; records = ap settled tell.records ∙ sym (ap (λ b. settled_by b h.records) up) }

-- what tells of one that is being restored tells of it settled
pub parked-tells : (t : Told) (h : Hosted) → is_up h ≡ false → Tells t h → Tells t (settling h)
parked-tells t h down tell = record { spec = tell.spec; note = tell.note; records = tell.records ∙ sym (ap (λ b. settled_by b h.records) down) }

-- ---- what is left

-- of a database at least so many records are left, which are its own, or with some that undo
pub record Undone (least : ℕ) (t : Told) (h : Hosted) : Type 0 where
  pub spec : t.spec ≡ h.spec
  pub note : IsNoteOf t.note h.spec.storage.files h.points
  pub records : (t.records ≡ settled_by (is_up h) h.records) ⊎ (t.records ≡ h.records)
  pub enough : length h.records ≤ least

record IsGood (h : Hosted) (k : ℕ) (f : Hosted) : Type 0 where
  undoes : IsUndoing h f
  some : HasRecord f

-- fronts can be used where their databases can
ups-undone : (hs fs : List Hosted) → AllZip IsUndoing hs fs → map is_up hs ≡ map is_up fs
ups-undone [] [] zip = refl
ups-undone [] (f ∷ fs) zip = absurd zip
ups-undone (h ∷ hs) [] zip = absurd zip
ups-undone (h ∷ hs) (f ∷ fs) zip = ap (λ up. up ∷ map is_up hs) (sym (ap is_up zip.0.same)) ∙ ap (λ (ups : List Bool). is_up f ∷ ups) (ups-undone hs fs zip.1)

module _ (number : ℕ) (fixed : Fixed) (least : ℕ → ℕ) (tolds : List Told) (hosted : List Hosted) (image : Files) (left : LeavesStores fixed least tolds image) (stored : AreOf fixed hosted)
    (same : length tolds ≡ length hosted) (undone : (i : ℕ) (t : Told) (h : Hosted) → slice_get tolds i ≡ Some t → slice_get hosted i ≡ Some h → Undone (least i) t h) (some : AllByRecursion HasRecord hosted) where
  abbrev entries : List Entry
  entries = left.«record».databases

  abbrev settled_log : Hosted → List Logged
  settled_log h = settled_by (is_up h) h.records

  one-left : (i : ℕ) (e : Entry) (t : Told) (h : Hosted) → IsAt entries tolds i e t → slice_get hosted i ≡ Some h → Leaves IsGood image e t h
  one-left i e t h at there =
      let its : LeavesEntry e (least i) t image = left.each i e t at in
      let one : Undone (least i) t h = undone i t h at.1 there in
      by its.0 (let enough = one.enough in let le = its.1 in omega (arith, enough, le)) its.2 one one.records
    where
      full : 1 ≤ length h.records
      full = all-at HasRecord hosted i h there some

      longer : length h.records ≤ length (settled_log h)
      longer = settled-longer (is_up h) h.records

      by : (k : ℕ) → length h.records ≤ k → HoldsEntry e (front_of k t) image → Undone (least i) t h → (t.records ≡ settled_log h) ⊎ (t.records ≡ h.records) → Leaves IsGood image e t h
      by k enough holds one (inl undoing) = record {
        k = k;
        front = record h { records = take k (settled_log h); transactions = [] };
        good = record { undoes = record { k = k; enough = enough; same = refl }; some = some-taken (settled_log h) k (omega (arith, full, enough)) (omega (arith, full, longer)) };
        tells = record { spec = one.spec; note = one.note; records = ap (λ (rs : List Logged). take k rs) undoing };
        holds = holds;
      }
      by k enough holds one (inr whole) = record {
        k = k;
        front = record h { records = take (length h.records) (settled_log h); transactions = [] };
        good = record { undoes = record { k = length h.records; enough = omega arith; same = refl }; some = some-taken (settled_log h) (length h.records) full (omega (arith, full, longer)) };
        tells = record {
          spec = one.spec;
          note = one.note;
          records = ap (λ (rs : List Logged). take k rs) whole ∙ take_all k h.records enough ∙ sym (front-settled (is_up h) h.records);
        };
        holds = holds;
      }

  good-each : (hs fs : List Hosted) → AllZip (λ (h f : Hosted). (k : ℕ) × IsGood h k f) hs fs → AllZip IsUndoing hs fs × AllByRecursion HasRecord fs
  good-each [] [] zip = (tt, tt)
  good-each [] (f ∷ fs) zip = absurd zip
  good-each (h ∷ hs) [] zip = absurd zip
  good-each (h ∷ hs) (f ∷ fs) zip = let rest = good-each hs fs zip.1 in ((zip.0.1.undoes, rest.0), (zip.0.1.some, rest.1))

  pub undoing-left : LeavesUndoing number fixed.own hosted image
  undoing-left =
      let all : Collected IsGood image entries tolds hosted = collect IsGood image entries tolds hosted left.entries.count same one-left in
      let good = good-each hosted all.fronts all.good in (
        all.fronts,
        good.0,
        inr (record {
          «record» = left.«record»;
          is_own = ap (λ (f : Fixed). f.own) left.is_fixed;
          tolds = all.news;
          holds = record { is_record = left.is_record; entries = fronts-entries left.«record» tolds all.news all.count all.same left.entries; each = all.each };
          stored = ap (λ (f : Fixed). f.stored) left.is_fixed ∙ stored ∙ ups-undone hosted all.fronts good.0;
          tells = all.tells;
          some = good.1;
        }),
      )

-- ---- a store that is read

pub read-standing : (a : Disk) (s : KeptStores) (at : ℕ) (store : KeptStore) → AreStanding a s → slice_get s.slots at ≡ Some (Some store) → Standing a store.paged
read-standing a s at store is there = (is.stores.each at store there).2.standing

-- ---- the next one

-- what it is in the stores
pub record NextAt (x : Kept) (tolds : List Told) (hosted : List Hosted) (k : ℕ) : Type 0 where
  pub told : Told
  pub there : slice_get tolds k ≡ Some told
  pub h : Hosted
  pub here : slice_get hosted k ≡ Some h
  pub tell : Tells told h
  pub shut : slice_get x.stores.slots k ≡ Some None
  pub up : (e : Entry) → slice_get x.stores.master.record.databases k ≡ Some e → e.is_stored ≡ is_up h

-- its store, once it is open
pub sealed-there : (x : KeptStores) (new : KeptStores) (at : ℕ) → at < length x.slots → (s : KeptStore) × (new ≡ record x { slots = set x.slots at (Some s) }) × IsSealed s → IsSealedAt new.slots at
sealed-there x new at inside opens = (opens.0, ap (λ (k : KeptStores). slice_get k.slots at) opens.1 ∙ got-set x.slots at (Some opens.0) inside, opens.2)

module _ (a : Disk) (x : Kept) (hosted : List Hosted) (is : IsOpening a x hosted) (partly : IsPartly x) where
  abbrev k : ℕ
  k = length x.states

  same : length is.tolds ≡ length hosted
  same = zip-length Tells is.tolds (opened k hosted) is.tells ∙ opened-length k hosted

  pub next-at : k < length x.stores.slots → NextAt x is.tolds hosted k
  next-at more =
      let count = is.stores.standing.count in
      let told = got is.tolds k (omega (arith, more, count)) in
      let host = got hosted k (let size = same in omega (arith, more, count, size)) in
      record {
        told = told.0;
        there = told.1;
        h = host.0;
        here = host.1;
        tell = zip-got Tells is.tolds (opened k hosted) is.tells k told.0 host.0 told.1 (opened-above k k hosted (omega arith) ∙ host.1);
        shut = partly.shut k (omega arith) more;
        up = λ e at. entry-stored x.stores.master.record hosted is.stored k e host.0 at host.1;
      }

  sealed-as : (i : ℕ) (slot : Option KeptStore) (t : Told) → slice_get x.stores.slots i ≡ Some slot → slice_get is.tolds i ≡ Some t → sealed_at x.stores is.tolds i ≡ sealed_by slot t
  sealed-as i slot t filled there = ap (λ (o : Option (Option KeptStore)). sealed_of o (slice_get is.tolds i)) filled ∙ ap (λ (o : Option Told). sealed_of (Some slot) o) there

  -- all records of one that was read are durable
  all-durable : (i : ℕ) (slot : Option KeptStore) (t : Told) (g : Hosted) → slice_get x.stores.slots i ≡ Some slot → slice_get is.tolds i ≡ Some t → IsOpenedFor slot g → sealed_by slot t ≡ length t.records
  all-durable i None t g filled there opens = refl
  all-durable i (Some s) t g filled there opens = all-sealed s t a (its-store a x.stores is.tolds i t s is.stores there filled) opens.1.all

  -- before it is opened
  pub undone-of : (i : ℕ) (t : Told) (g : Hosted) → slice_get is.tolds i ≡ Some t → slice_get hosted i ≡ Some g → Undone (sealed_at x.stores is.tolds i) t g
  undone-of i t g there here = by (cases_lt i k)
    where
      inside : i < length x.stores.slots
      inside = let lt = got-inside is.tolds i t there in let count = is.stores.standing.count in omega (arith, lt, count)

      by : (i < k) ⊎ (k ≤ i) → Undone (sealed_at x.stores is.tolds i) t g
      by (inl low) =
          let tell : Tells t (settling g) = zip-got Tells is.tolds (opened k hosted) is.tells i t (settling g) there (opened-below k i hosted g low here) in
          let slot = got x.stores.slots i inside in
          let all : sealed_by slot.0 t ≡ length t.records = all-durable i slot.0 t g slot.1 there (is.opens i slot.0 g low slot.1 here) in
          let size : length t.records ≡ length (settled_by (is_up g) g.records) = ap (λ (rs : List Logged). length rs) tell.records in
          let longer = settled-longer (is_up g) g.records in
          let least = sealed-as i slot.0 t slot.1 there in
          record { spec = tell.spec; note = tell.note; records = inl tell.records; enough = omega (arith, least, all, size, longer) }
      by (inr above) =
          let tell : Tells t g = zip-got Tells is.tolds (opened k hosted) is.tells i t g there (opened-above k i hosted above ∙ here) in
          let least = sealed-as i None t (partly.shut i above inside) there in
          let size : length t.records ≡ length g.records = ap (λ (rs : List Logged). length rs) tell.records in
          record { spec = tell.spec; note = tell.note; records = inr tell.records; enough = omega (arith, least, size) }

  pub rest-undoing : (number : ℕ) → Effect IsOurs (LeavesUndoing number (own_of x) hosted) a a
  rest-undoing number =
      effect_weaken (λ image left. undoing-left number (fixed_of x.stores.master.record) (sealed_at x.stores is.tolds) is.tolds hosted image left is.stored same undone-of is.some) (rest-crash a x.stores is.tolds is.stores)

  -- while it is
  pub next-undoing : {b : Disk} (number : ℕ) (next : NextAt x is.tolds hosted k) → is_up next.h ≡ true
      → Effect IsOurs (LeavesStores (fixed_of x.stores.master.record) (sealed_at x.stores is.tolds) (set is.tolds k (settled_told next.told))) a b → Effect IsOurs (LeavesUndoing number (own_of x) hosted) a b
  next-undoing number next up effect =
      effect_weaken (λ image left. undoing-left number (fixed_of x.stores.master.record) (sealed_at x.stores is.tolds) (set is.tolds k (settled_told next.told)) hosted image left is.stored
      (length-set is.tolds k (settled_told next.told) ∙ same) undone is.some) effect
    where
      undone : (i : ℕ) (t : Told) (g : Hosted) → slice_get (set is.tolds k (settled_told next.told)) i ≡ Some t → slice_get hosted i ≡ Some g → Undone (sealed_at x.stores is.tolds i) t g
      undone i t g there here = by (same-place k i)
        where
          by : (k ≡ i) ⊎ (k ≡ i → ⊥) → Undone (sealed_at x.stores is.tolds i) t g
          by (inl one) =
              let put : settled_told next.told ≡ t = got-one (set is.tolds k (settled_told next.told)) k (settled_told next.told) t (got-set is.tolds k (settled_told next.told) (got-inside is.tolds k next.told next.there)) (ap (λ (n : ℕ). slice_get (set is.tolds k (settled_told next.told)) n) one ∙ there) in
              let own : next.h ≡ g = got-one hosted k next.h g next.here (ap (λ (n : ℕ). slice_get hosted n) one ∙ here) in
              let least = sealed-as k None next.told next.shut next.there in
              let size : length next.told.records ≡ length next.h.records = ap (λ (rs : List Logged). length rs) next.tell.records in
              let tell : Tells (settled_told next.told) (settling next.h) = settled-tells next.told next.h up next.tell in
              let mine : Undone (sealed_at x.stores is.tolds k) (settled_told next.told) next.h =
              record { spec = next.tell.spec; note = next.tell.note; records = inl tell.records; enough = omega (arith, least, size) } in
              subst (λ (n : ℕ). Undone (sealed_at x.stores is.tolds n) t g) one (subst (Undone (sealed_at x.stores is.tolds k) t) own (subst (λ (u : Told). Undone (sealed_at x.stores is.tolds k) u next.h) put mine))
          by (inr differ) = undone-of i t g (sym (got-other is.tolds k i (settled_told next.told) differ) ∙ there) here

  -- and then it is read
  pub opening-next : (b : Disk) (new : Kept) (next : NextAt x is.tolds hosted k) (t : Told) (slot : Option KeptStore) → AreStores b new.stores (set is.tolds k t) → Tells t (settling next.h) → AreOf (fixed_of new.stores.master.record) hosted
      → new.stores.slots ≡ set x.stores.slots k slot → IsOpenedFor slot next.h → new.states ≡ x.states ++ state_of (settling next.h) ∷ [] → IsOpening b new hosted
  opening-next b new next t slot stores tell stored slots opens states = record {
    tolds = set is.tolds k t;
    stores = stores;
    stored = stored;
    tells = subst (λ (n : ℕ). AllZip Tells (set is.tolds k t) (opened n hosted)) (sym more)
        (subst (AllZip Tells (set is.tolds k t)) (sym (opened-next k hosted next.h next.here)) (zip-set Tells is.tolds (opened k hosted) k t (settling next.h) tell is.tells));
    states = states ∙ ap (λ (xs : List State). xs ++ state_of (settling next.h) ∷ []) is.states ∙ sym (states-next k hosted next.h next.here) ∙ ap (λ (n : ℕ). map state_of (map settling (take n hosted))) (sym more);
    opens = λ i other g low filled here. by i other g low filled here (same-place k i);
    some = is.some;
  }
    where
      more : length new.states ≡ suc k
      more = ap (λ (xs : List State). length xs) states ∙ length-append x.states (state_of (settling next.h) ∷ []) ∙ (let one : k + 1 ≡ suc k = omega arith in one)

      inside : k < length x.stores.slots
      inside = got-inside x.stores.slots k None next.shut

      by : (i : ℕ) (other : Option KeptStore) (g : Hosted) → i < length new.states → slice_get new.stores.slots i ≡ Some other → slice_get hosted i ≡ Some g → (k ≡ i) ⊎ (k ≡ i → ⊥) → IsOpenedFor other g
      by i other g low filled here (inl one) =
          let put : slot ≡ other = got-one (set x.stores.slots k slot) k slot other (got-set x.stores.slots k slot inside)
          (ap (λ (n : ℕ). slice_get (set x.stores.slots k slot) n) one ∙ sym (ap (λ (sl : List (Option KeptStore)). slice_get sl i) slots) ∙ filled) in
          let own : next.h ≡ g = got-one hosted k next.h g next.here (ap (λ (n : ℕ). slice_get hosted n) one ∙ here) in
          subst (IsOpenedFor other) own (subst (λ (o : Option KeptStore). IsOpenedFor o next.h) put opens)
      by i other g low filled here (inr differ) =
          is.opens i other g (lower k i (subst (λ (n : ℕ). i < n) more low) differ)
          (sym (got-other x.stores.slots k i slot differ) ∙ sym (ap (λ (sl : List (Option KeptStore)). slice_get sl i) slots) ∙ filled) here
        where
          lower : (n j : ℕ) → j < suc n → (n ≡ j → ⊥) → j < n
          lower n j lt apart = elim (cases_lt j n) [
            | inl less ↦ less
            | inr above ↦ absurd (apart (omega (arith, lt, above)))
          ]

-- as many stores were read as there are states
pub partly-next : (x new : Kept) (slot : Option KeptStore) (st : State) → IsPartly x → length x.states < length x.stores.slots → AreReady new.stores → new.stores.slots ≡ set x.stores.slots (length x.states) slot → IsFitSlot slot → new.states ≡ x.states ++ st ∷ [] → IsPartly new
partly-next x new slot st partly inside ready slots fit states =
    let k : ℕ = length x.states in
    let more : length new.states ≡ suc k = ap (λ (xs : List State). length xs) states ∙ length-append x.states (st ∷ []) ∙ (let one : k + 1 ≡ suc k = omega arith in one) in
    let size : length new.stores.slots ≡ length x.stores.slots = ap (λ (sl : List (Option KeptStore)). length sl) slots ∙ length-set x.stores.slots k slot in
    let at : (i : ℕ) → slice_get new.stores.slots i ≡ slice_get (set x.stores.slots k slot) i = λ i. ap (λ (sl : List (Option KeptStore)). slice_get sl i) slots in
    record {
      stores = ready;
      fit = subst AreFit (sym slots) (all-set IsFitSlot x.stores.slots k slot fit partly.fit);
      shut = λ i above within. at i ∙ got-other x.stores.slots k i slot (λ one. absurd (omega (arith, one, above, more))) ∙ partly.shut i (omega (arith, above, more)) (omega (arith, within, size));
      few = omega (arith, more, inside, size);
    }

-- the flag of an entry that was asked for
pub there-stored : (x k : Kept) (b : Bool) → k ≡ x → (e : Entry) × (slice_get k.stores.master.record.databases (length k.states) ≡ Some e) × (e.is_stored ≡ b)
    → (e : Entry) × (slice_get x.stores.master.record.databases (length x.states) ≡ Some e) × (e.is_stored ≡ b)
there-stored x k b same its = subst (λ (o : Kept). (e : Entry) × (slice_get o.stores.master.record.databases (length o.states) ≡ Some e) × (e.is_stored ≡ b)) same its
