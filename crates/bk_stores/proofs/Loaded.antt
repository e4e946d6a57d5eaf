-- An instance whose record is opened.
use Rattle.std.proofs.Common.{◌≡◌, ◌≢◌, ◌⊎◌, ◌<◌, ℕ, zero, suc, List, [], length, replicate, Option, Some, None, refl, inl, inr, sym, ap, subst, ◌∙◌, arith}
use Rattle.std.proofs.lemmas.List.{length-replicate, take_all}
use Rattle.std.specs.Prelude.{slice_get}
use Rattle.bk_device.specs.Calls.{ChangesNothing}
use Rattle.bk_device.specs.Compose.{durable_kept, effect_of_nothing, effect_then, effect_widen}
use Rattle.bk_device.specs.Disk.{Disk, Files, IsDurable, IsSettled}
use Rattle.bk_device.specs.Effects.{Effect, MayLeaveOwn}
use Rattle.bk_device.specs.Laws.{durable_by_nothing}
use Rattle.bk_control.specs.Slots.{control_of}
use Rattle.bk_master.specs.declared.record.Record.{Record}
use Rattle.bk_master.specs.Laws.{holds_same, one_record, own_made}
use Rattle.bk_master.specs.Master.{AreDurable, HoldsRecord, IsMade, IsMaster, IsNoInstance, IsNotMade, IsOwn as IsOfMaster, Kept as KeptMaster, Makes, fresh, made_file, control_file}
use Rattle.bk_store.specs.Store.{Kept as KeptStore}
use Rattle.bk_store.specs.Told.{Told}
use Rattle.bk_stores.specs.ListLaws.{got, got-inside, got-none}
use Rattle.bk_stores.specs.Loading.{HoldsInstance, Opens, shut}
use Rattle.bk_stores.specs.SlotLaws.{entry-same}
use Rattle.bk_stores.specs.Standing.{AreDifferent, AreShut}
use Rattle.bk_stores.specs.StandLaws.{master-apart, master-keeps}
use Rattle.bk_stores.specs.Stores.{AreEntries, AreStores, HoldsEntry, HoldsStores, IsOurs, IsSlot, LeavesStores, its_files, sealed_at, sealed_of, Fixed, fixed_of, TouchesOurs}
use Rattle.bk_stores.specs.TouchLaws.{master-touched, nothing-touched}

-- ---- files that hold an instance

pub stores-same : (f g : Files) (r : Record) (tolds : List Told) → ((name : List ℕ) → IsOurs name → g name ≡ f name) → HoldsStores f r tolds → HoldsStores g r tolds
stores-same f g r tolds same is = record {
  is_record = holds_same (λ name own. same name (inl own)) is.is_record;
  entries = is.entries;
  each = λ i e t at. entry-same e t f g (λ name own. same name (inr (e.store, its_files e t, own))) (is.each i e t at);
}

pub instance-same : (number : ℕ) (fixed : Fixed) (f g : Files) (tolds : List Told) → ((name : List ℕ) → IsOurs name → g name ≡ f name) → HoldsInstance number fixed f tolds → HoldsInstance number fixed g tolds
instance-same number fixed f g tolds same is = elim is [
  | inl none ↦ inl (same made_file (inl own_made) ∙ none.0, none.1, none.2)
  | inr some ↦ inr (some.0, some.1, stores-same f g some.0 tolds same some.2)
]

-- where nothing is pending, each crash leaves it
settled-image : (number : ℕ) (fixed : Fixed) (a : Disk) (tolds : List Told) (image : Files) → IsSettled a → HoldsInstance number fixed a.files tolds → MayLeaveOwn IsOurs a image → HoldsInstance number fixed image tolds
settled-image number fixed a tolds image settled is mine = instance-same number fixed a.files image tolds (λ name ours. settled name (image name) (mine name ours)) is

pub settled-moved : {a b : Disk} → ChangesNothing a b → IsSettled a → IsSettled b
settled-moved call settled name = durable_by_nothing name call (settled name)

pub instance-moved : {a b : Disk} (number : ℕ) (fixed : Fixed) (tolds : List Told) → ChangesNothing a b → HoldsInstance number fixed a.files tolds → HoldsInstance number fixed b.files tolds
instance-moved {a} {b} number fixed tolds call is = instance-same number fixed a.files b.files tolds (λ name ours. call.files name) is

-- ---- crashes

pub opens-nothing : {a b : Disk} (number : ℕ) (fixed : Fixed) (tolds : List Told) → IsSettled a → HoldsInstance number fixed a.files tolds → ChangesNothing a b → Opens number fixed tolds a b
opens-nothing {a} number fixed tolds settled is call = effect_of_nothing (λ image mine. settled-image number fixed a tolds image settled is mine) call

pub opens-synced : {a b : Disk} (number : ℕ) (fixed : Fixed) (tolds : List Told) → IsSettled a → HoldsInstance number fixed a.files tolds → Effect IsOfMaster (MayLeaveOwn IsOfMaster a) a b → Opens number fixed tolds a b
opens-synced {a} number fixed tolds settled is effect =
    effect_widen (λ name its. inl its) (λ image here left. settled-image number fixed a tolds image settled is (λ name ours. elim ours [
      | inl master ↦ here name master
      | inr store ↦ left name (λ master. master-apart store.0 store.1 name master store.2) (inr store)
    ])) effect

-- ---- an instance that is made

pub fresh-entries : (number : ℕ) → AreEntries (fresh number) []
fresh-entries number = record {
  keeps = record { own = record { path = tt; copying = omega arith }; few = omega arith; one = omega arith; small = tt };
  count = refl;
  below = λ i e there. absurd (got-none i e there);
  under = λ k u there. absurd (got-none k u there);
  apart = λ i j e f t u differ at other. absurd (got-none i e at.0);
  aside = λ i k e t u at there. absurd (got-none i e at.0);
}

fresh-stores : (image : Files) (number : ℕ) → HoldsRecord image (fresh number) → HoldsStores image (fresh number) []
fresh-stores image number is = record { is_record = is; entries = fresh-entries number; each = λ i e t at. absurd (got-none i e at.0) }

pub opens-made : {a b : Disk} (number : ℕ) (fixed : Fixed) (tolds : List Told) → fixed ≡ fixed_of (fresh number) → tolds ≡ [] → Effect IsOfMaster (Makes number) a b → Opens number fixed tolds a b
opens-made number fixed tolds new none effect =
    effect_widen (λ name its. inl its) (λ image here left. elim here [
      | inl not_made ↦ inl (not_made, new, none)
      | inr made ↦ inr (fresh number, sym new, subst (λ (ts : List Told). HoldsStores image (fresh number) ts) (sym none) (fresh-stores image number made))
    ]) effect

-- ---- no store is open

-- a store that isn't open
abbrev no-store : Option KeptStore
no-store = None

none-at : (n i : ℕ) (slot : Option KeptStore) → slice_get (replicate n no-store) i ≡ Some slot → slot ≡ no-store
none-at zero i slot there = absurd cc
none-at (suc n) zero slot there = let same : Some no-store ≡ Some slot = there in cc
none-at (suc n) (suc i) slot there = none-at n i slot there

pub shut-stands : (a : Disk) (m : KeptMaster) (tolds : List Told) → IsSettled a → IsMaster a m → HoldsStores a.files m.record tolds → AreStores a (shut m) tolds
shut-stands a m tolds settled master is = record {
  master = master;
  standing = record {
    entries = is.entries;
    count = length-replicate (length m.record.databases) None ∙ sym is.entries.count;
    stand = λ i e slot t at there. subst (λ (s : Option KeptStore). IsSlot a e s t) (sym (none-at (length m.record.databases) i slot there)) (record { durable = λ name own. settled name; holds = is.each i e t at });
    free = λ n above small name own. settled name;
  };
}

-- what a crash leaves of them is an instance with the same databases
pub shut-leaves : (number : ℕ) (fixed : Fixed) (m : KeptMaster) (tolds : List Told) (image : Files) → length tolds ≡ length m.record.databases → LeavesStores fixed (sealed_at (shut m) tolds) tolds image → HoldsInstance number fixed image tolds
shut-leaves number fixed m tolds image count left = inr (
  left.«record»,
  left.is_fixed,
  record {
    is_record = left.is_record;
    entries = left.entries;
    each = λ i e t at.
        let here = left.each i e t at in
        let inside = got-inside tolds i t at.1 in
        let all : sealed_at (shut m) tolds i ≡ length t.records = sealed-none (length m.record.databases) i (omega (arith, inside, count)) t tolds at.1 in
        subst (λ (u : Told). HoldsEntry e u image) (ap (λ (rs : List _). record t { records = rs }) (take_all here.0 t.records (omega (arith, here.1, all)))) here.2;
  },
)
  where
    none-there : (n i : ℕ) → i < n → slice_get (replicate n no-store) i ≡ Some no-store
    none-there zero i inside = absurd (omega (arith, inside))
    none-there (suc n) zero inside = refl
    none-there (suc n) (suc i) inside = none-there n i (omega (arith, inside))

    sealed-none : (n i : ℕ) → i < n → (t : Told) (tolds : List Told) → slice_get tolds i ≡ Some t → sealed_of (slice_get (replicate n no-store) i) (slice_get tolds i) ≡ length t.records
    sealed-none n i inside t tolds told =
        ap (λ (o : Option (Option KeptStore)). sealed_of o (slice_get tolds i)) (none-there n i inside) ∙ ap (λ (o : Option Told). sealed_of (Some no-store) o) told

-- nothing is pending in either of the instance's own files
pub own-durable : (a : Disk) → IsDurable a made_file → IsDurable a control_file → AreDurable a
own-durable a made control name own = elim own [ inl is ↦ subst (IsDurable a) (sym is) made | inr is ↦ subst (IsDurable a) (sym is) control ]

-- ---- the record is opened

-- where nothing is pending, opening an instance that is made changes nothing
pub found-stands : {b c : Disk} (m : KeptMaster) (tolds : List Told) (r : Record) → IsSettled b → HoldsStores b.files r tolds → ChangesNothing b c → HoldsRecord b.files m.record → IsMaster c m → AreStores c (shut m) tolds
found-stands {b} {c} m tolds r settled is call loaded master =
    let same : r ≡ m.record = one_record is.is_record loaded in
    shut-stands c m tolds (settled-moved call settled) master (subst (λ (x : Record). HoldsStores c.files x tolds) same (stores-same b.files c.files r tolds (λ name ours. call.files name) is))

-- making one leaves it without a database
pub made-stands : {b c : Disk} (m : KeptMaster) (tolds : List Told) (number : ℕ) → IsSettled b → tolds ≡ [] → Effect IsOfMaster (Makes number) b c → m.record ≡ fresh number → IsMaster c m → AreStores c (shut m) tolds
made-stands {b} {c} m tolds number settled none effect same master = subst (λ (ts : List Told). AreStores c (shut m) ts) (sym none) (record {
  master = master;
  standing = record {
    entries = subst (λ (x : Record). AreEntries x []) (sym same) (fresh-entries number);
    count = length-replicate (length m.record.databases) None ∙ ap (λ (x : Record). length x.databases) same;
    stand = λ i e slot t at there. absurd (got-none i t at.1);
    free = λ n above small name own. durable_kept name (inl own) (master-keeps effect n []) (settled name);
  };
})

-- ---- numbers

-- so many stores that aren't open
pub shut-none : (n : ℕ) (slots : List (Option KeptStore)) → slots ≡ replicate n None → AreShut slots
shut-none n slots same = λ i store there.
    let none : Some store ≡ no-store = none-at n i (Some store) (ap (λ (sl : List (Option KeptStore)). slice_get sl i) (sym same) ∙ there) in
    cc

-- those of databases differ
pub entries-differ : (r : Record) (tolds : List Told) → AreEntries r tolds → AreDifferent r.databases
entries-differ r tolds is = λ i j e f differ first second.
    let t = got tolds i (let inside = got-inside r.databases i e first in omega (arith, inside, is.count)) in
    let u = got tolds j (let inside = got-inside r.databases j f second in omega (arith, inside, is.count)) in
    (is.apart i j e f t.0 u.0 differ (first, t.1) (second, u.1)).differ

-- ---- the own part

-- that of an instance that is made, or was just made, is its record's
pub opened-own : (number : ℕ) (fixed : Fixed) (tolds : List Told) (image : Files) (m : KeptMaster) → HoldsInstance number fixed image tolds → (IsNotMade image → m.record ≡ fresh number) → (IsMade image → HoldsRecord image m.record) → fixed_of m.record ≡ fixed
opened-own number fixed tolds image m is made loaded = elim is [
  | inl none ↦ ap fixed_of (made none.0) ∙ sym none.1
  | inr some ↦ ap fixed_of (one_record (loaded some.2.is_record.made) some.2.is_record) ∙ some.1
]

-- ---- whatever the files hold

none-or-some : (file : Option (List ℕ)) → (file ≢ None) ⊎ (file ≡ None)
none-or-some None = inr refl
none-or-some (Some bytes) = inl (λ none. absurd cc)

-- the instance's own files are touched, if one is
pub load-touched : {a b c : Disk} (number : ℕ) → ChangesNothing a b → AreDurable b → (IsMade b.files → ChangesNothing b c) → (IsNotMade b.files → IsDurable b made_file → Effect IsOfMaster (Makes number) b c) → TouchesOurs a c
load-touched {b = b} number call durable found makes = effect_then (nothing-touched call) (elim (none-or-some (b.files made_file)) [
  | inl made ↦ nothing-touched (found made)
  | inr none ↦ master-touched (makes none (durable made_file own_made))
])

-- files that are no instance's stay so
pub no-instance-moved : {a b : Disk} → ChangesNothing a b → IsNoInstance a.files → IsNoInstance b.files
no-instance-moved call is = (λ none. is.0 (sym (call.files made_file) ∙ none), ap control_of (call.files control_file) ∙ is.1)
