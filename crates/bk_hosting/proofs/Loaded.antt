-- Hosted databases all of which are open.
use Rattle.std.proofs.Common.{◌≡◌, ◌≤◌, ◌<◌, ℕ, zero, suc, Bool, List, [], ◌∷◌, map, take, length, replicate, Option, Some, None, refl, inl, inr, sym, ap, subst, ◌∙◌, arith}
use Rattle.std.specs.Prelude.{slice_get}
use Rattle.std.specs.List.{AllByRecursion, AllZip}
use Rattle.std.proofs.Math.Seq.{take-length}
use Rattle.bk_device.specs.Compose.{effect_weaken}
use Rattle.bk_device.specs.Disk.{Disk, Files}
use Rattle.bk_device.specs.Effects.{Effect}
use Rattle.bk_hosted.specs.Fronts.{Waits, settling}
use Rattle.bk_hosted.specs.Hosted.{Hosted, is_up}
use Rattle.bk_master.specs.declared.record.Own.{Own}
use Rattle.bk_master.specs.Master.{fresh}
use Rattle.bk_store.specs.Store.{IsStore, sealed_in, Kept as KeptStore}
use Rattle.bk_store.specs.Told.{Told}
use Rattle.bk_stores.specs.ListLaws.{got, got-inside}
use Rattle.bk_stores.specs.Loading.{HoldsInstance, Opens}
use Rattle.bk_stores.specs.Stores.{AreStores, Fixed, HoldsEntry, IsOurs, IsReady as AreReady, LeavesStores, fixed_of, sealed_of, Kept as KeptStores}
use Rattle.bk_world.specs.Records.{Logged}
use Rattle.bk_hosting.specs.Hosting.{AreFit, AreOf, HasRecord, IsHosting, IsReady, Kept, Tells, WaitsBehind, state_of}
use Rattle.bk_hosting.specs.Loading.{HoldsHosting, IsOpenedFor, IsOpening, IsPartly, LeavesUndoing, opened}
use Rattle.bk_hosting.proofs.Fronts.{zip-got, zip-length}
use Rattle.bk_hosting.proofs.Lists.{all-at, got-mapped}
use Rattle.bk_hosting.proofs.Opening.{Undone, opened-length, settled-longer, undoing-left}
use Rattle.bk_hosting.proofs.SaidHosted.{all-sealed, drop-past}
use Rattle.bk_hosting.proofs.StoreSaid.{its-store}

-- ---- lists

zip-each : {A B : Type 0} (R : A → B → Type 0) (xs : List A) (ys : List B) → length xs ≡ length ys → ((i : ℕ) (x : A) (y : B) → slice_get xs i ≡ Some x → slice_get ys i ≡ Some y → R x y) → AllZip R xs ys
zip-each R [] [] same each = tt
zip-each R [] (y ∷ ys) same each = absurd (omega (arith, same))
zip-each R (x ∷ xs) [] same each = absurd (omega (arith, same))
zip-each R (x ∷ xs) (y ∷ ys) same each = (each zero x y refl refl, zip-each R xs ys (omega (arith, same)) (λ i a b one two. each (suc i) a b one two))

opened-all : (k : ℕ) (hosted : List Hosted) → length hosted ≤ k → opened k hosted ≡ map settling hosted
opened-all zero [] low = refl
opened-all (suc k) [] low = refl
opened-all zero (h ∷ hosted) low = absurd (omega (arith, low))
opened-all (suc k) (h ∷ hosted) low = ap (λ (xs : List Hosted). settling h ∷ xs) (opened-all k hosted (omega (arith, low)))

take-whole : (k : ℕ) (hosted : List Hosted) → length hosted ≤ k → take k hosted ≡ hosted
take-whole zero [] low = refl
take-whole (suc k) [] low = refl
take-whole zero (h ∷ hosted) low = absurd (omega (arith, low))
take-whole (suc k) (h ∷ hosted) low = ap (λ (xs : List Hosted). h ∷ xs) (take-whole k hosted (omega (arith, low)))

some-settled : (hosted : List Hosted) → AllByRecursion HasRecord hosted → AllByRecursion HasRecord (map settling hosted)
some-settled [] all = tt
some-settled (h ∷ hosted) all = (let longer = settled-longer (is_up h) h.records in let some = all.0 in omega (arith, longer, some), some-settled hosted all.1)

ups-settled : (hosted : List Hosted) → map is_up (map settling hosted) ≡ map is_up hosted
ups-settled [] = refl
ups-settled (h ∷ hosted) = ap (λ (ups : List Bool). is_up h ∷ ups) (ups-settled hosted)

-- an element that is mapped to another
mapped-from : (hs : List Hosted) (i : ℕ) (y : Hosted) → slice_get (map settling hs) i ≡ Some y → (h : Hosted) × (slice_get hs i ≡ Some h) × (settling h ≡ y)
mapped-from [] i y there = absurd (cc (there))
mapped-from (h ∷ hs) zero y there = (h, refl, let same : settling h ≡ y = cc (there) in same)
mapped-from (h ∷ hs) (suc i) y there = mapped-from hs i y there

abbrev no-slots : ℕ → List (Option KeptStore)
no-slots n = replicate n None

none-there : (n i : ℕ) → i < n → slice_get (no-slots n) i ≡ Some None
none-there zero i low = absurd (omega (arith, low))
none-there (suc n) zero low = refl
none-there (suc n) (suc i) low = none-there n i (omega (arith, low))

-- ---- all are open

pub all-ready : (x : Kept) → IsPartly x → length x.stores.slots ≤ length x.states → IsReady x
all-ready x partly all = record { stores = partly.stores; fit = partly.fit; count = let few = partly.few in omega (arith, few, all) }

pub all-hosting : (b : Disk) (x : Kept) (hosted : List Hosted) → IsPartly x → length x.stores.slots ≤ length x.states → IsOpening b x hosted → IsHosting b x (map settling hosted)
all-hosting b x hosted partly all is = record {
  tolds = is.tolds;
  stores = is.stores;
  stored = is.stored ∙ sym (ups-settled hosted);
  tells = tells;
  states = is.states ∙ ap (λ (hs : List Hosted). map state_of (map settling hs)) (take-whole (length x.states) hosted few);
  waits = zip-each WaitsBehind x.stores.slots (map settling hosted) same waits;
  some = some-settled hosted is.some;
}
  where
    size : length is.tolds ≡ length hosted
    size = zip-length Tells is.tolds (opened (length x.states) hosted) is.tells ∙ opened-length (length x.states) hosted

    few : length hosted ≤ length x.states
    few = let one = size in let count = is.stores.standing.count in omega (arith, all, one, count)

    tells : AllZip Tells is.tolds (map settling hosted)
    tells = subst (AllZip Tells is.tolds) (opened-all (length x.states) hosted few) is.tells

    same : length x.stores.slots ≡ length (map settling hosted)
    same = is.stores.standing.count ∙ zip-length Tells is.tolds (map settling hosted) tells

    waits : (i : ℕ) (slot : Option KeptStore) (h : Hosted) → slice_get x.stores.slots i ≡ Some slot → slice_get (map settling hosted) i ≡ Some h → WaitsBehind slot h
    waits i slot h filled there =
        let from = mapped-from hosted i h there in
        let low : i < length x.states = let lt = got-inside x.stores.slots i slot filled in omega (arith, lt, all) in
        subst (WaitsBehind slot) from.2 (by slot from.0 filled from.1 (is.opens i slot from.0 low filled from.1))
      where
        by : (o : Option KeptStore) (g : Hosted) → slice_get x.stores.slots i ≡ Some o → slice_get hosted i ≡ Some g → IsOpenedFor o g → WaitsBehind o (settling g)
        by None g shut here down = (down, refl)
        by (Some s) g put here (up, sealed) =
            let told = got is.tolds i (let lt = got-inside x.stores.slots i (Some s) put in let count = is.stores.standing.count in omega (arith, lt, count)) in
            let tell : Tells told.0 (settling g) = zip-got Tells is.tolds (map settling hosted) tells i told.0 (settling g) told.1 (got-mapped settling hosted i g here) in
            let store : IsStore b s told.0 = its-store b x.stores is.tolds i told.0 s is.stores told.1 put in
            let full : sealed_in s ≡ length told.0.records = all-sealed s told.0 b store sealed.all in
            let records : length told.0.records ≡ length (settling g).records = ap (λ (rs : List Logged). length rs) tell.records in
            let some : HasRecord (settling g) = all-at HasRecord (map settling hosted) i (settling g) (got-mapped settling hosted i g here) (some-settled hosted is.some) in (
              up,
              omega (arith, full, records, some),
              subst (AllByRecursion (Waits [])) (sym (drop-past (sealed_in s) (settling g).records (omega (arith, full, records)))) tt,
            )

-- ---- none is yet

-- what an instance's stores hold of hosted databases
pub record Held (number : ℕ) (own : Own) (image : Files) (hosted : List Hosted) : Type 0 where
  pub fixed : Fixed
  pub is_own : fixed.own ≡ own
  pub tolds : List Told
  pub holds : HoldsInstance number fixed image tolds
  pub stored : AreOf fixed hosted
  pub tells : AllZip Tells tolds hosted
  pub some : AllByRecursion HasRecord hosted

pub held : (number : ℕ) (own : Own) (image : Files) (hosted : List Hosted) → HoldsHosting number own image hosted → Held number own image hosted
held number own image hosted (inl none) =
    subst (Held number own image) (sym none.2) (record { fixed = fixed_of (fresh number); is_own = sym none.1; tolds = []; holds = inl (none.0, refl, refl); stored = refl; tells = tt; some = tt })
held number own image hosted (inr is) =
    record { fixed = fixed_of is.«record»; is_own = is.is_own; tolds = is.tolds; holds = inr (is.«record», refl, is.holds); stored = is.stored; tells = is.tells; some = is.some }

pub loaded-partly : (s : KeptStores) → AreReady s → s.slots ≡ replicate (length s.slots) None → IsPartly (record { stores = s; states = [] })
loaded-partly s ready shut = record {
  stores = ready;
  fit = subst AreFit (sym shut) (all-none (length s.slots));
  shut = λ i above within. ap (λ (sl : List (Option KeptStore)). slice_get sl i) shut ∙ none-there (length s.slots) i within;
  few = omega arith;
}
  where
    all-none : (n : ℕ) → AreFit (no-slots n)
    all-none zero = tt
    all-none (suc n) = (tt, all-none n)

pub loaded-opening : (b : Disk) (s : KeptStores) (tolds : List Told) (hosted : List Hosted) → AreStores b s tolds → AreOf (fixed_of s.master.record) hosted → AllZip Tells tolds hosted → AllByRecursion HasRecord hosted
    → IsOpening b (record { stores = s; states = [] }) hosted
loaded-opening b s tolds hosted stores stored tells some =
    record { tolds = tolds; stores = stores; stored = stored; tells = tells; states = refl; opens = λ i slot h low. absurd (omega (arith, low)); some = some }

-- files that hold them hold them whole
pub whole-undoing : (number : ℕ) (own : Own) (image : Files) (hosted : List Hosted) → Held number own image hosted → LeavesUndoing number own hosted image
whole-undoing number own image hosted its = by its.holds
  where
    nothing : (ts : List Told) (hs : List Hosted) → ts ≡ [] → AllZip Tells ts hs → hs ≡ []
    nothing [] [] is zip = refl
    nothing [] (h ∷ hs) is zip = absurd zip
    nothing (t ∷ ts) hs is zip = absurd (cc is)

    least : ℕ → ℕ
    least i = sealed_of (Some None) (slice_get its.tolds i)

    undone : (i : ℕ) (t : Told) (h : Hosted) → slice_get its.tolds i ≡ Some t → slice_get hosted i ≡ Some h → Undone (least i) t h
    undone i t h there here =
        let tell : Tells t h = zip-got Tells its.tolds hosted its.tells i t h there here in
        let one : least i ≡ length t.records = ap (λ (o : Option Told). sealed_of (Some None) o) there in
        let size : length t.records ≡ length h.records = ap (λ (rs : List Logged). length rs) tell.records in
        record { spec = tell.spec; note = tell.note; records = inr tell.records; enough = omega (arith, one, size) }

    by : HoldsInstance number its.fixed image its.tolds → LeavesUndoing number own hosted image
    by (inl none) = subst (λ (hs : List Hosted). LeavesUndoing number own hs image) (sym (nothing its.tolds hosted none.2 its.tells)) ([], tt, inl (none.0, sym its.is_own ∙ ap (λ (f : Fixed). f.own) none.1, refl))
    by (inr is) =
        subst (λ (o : Own). LeavesUndoing number o hosted image) its.is_own
        (undoing-left number its.fixed least its.tolds hosted image left its.stored (zip-length Tells its.tolds hosted its.tells) undone its.some)
      where
        left : LeavesStores its.fixed least its.tolds image
        left = record {
          «record» = is.0;
          is_record = is.2.is_record;
          is_fixed = is.1;
          entries = is.2.entries;
          each = λ i e t at. (
            length t.records,
            (let one : least i ≡ length t.records = ap (λ (o : Option Told). sealed_of (Some None) o) at.1 in omega (arith, one)),
            subst (λ (rs : List Logged). HoldsEntry e (record t { records = rs }) image) (sym (take-length t.records)) (is.2.each i e t at),
          );
        }

pub loaded-undoing : (a b : Disk) (number : ℕ) (own : Own) (hosted : List Hosted) (its : Held number own a.files hosted) → Opens number its.fixed its.tolds a b → Effect IsOurs (LeavesUndoing number own hosted) a b
loaded-undoing a b number own hosted its effect =
    effect_weaken (λ image holds. whole-undoing number own image hosted (record { fixed = its.fixed; is_own = its.is_own; tolds = its.tolds; holds = holds; stored = its.stored; tells = its.tells; some = its.some })) effect
