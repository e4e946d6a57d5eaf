-- Hosted databases behind what one of them says.
use Rattle.std.proofs.Common.{◌≡◌, ◌≤◌, ℕ, zero, suc, Bool, true, false, List, [], ◌∷◌, ◌++◌, drop, length, map, Option, Some, None, refl, sym, ap, subst, ◌∙◌, arith}
use Rattle.std.specs.Prelude.{◌==◌, ◌||◌, get_or, set, slice_get}
use Rattle.std.specs.List.{AllByRecursion, AllZip}
use Rattle.std.proofs.lemmas.Bool.Decides.{nat_tests}
use Rattle.std.proofs.lemmas.List.{length-append, length-map}
use Rattle.bk_device.specs.Compose.{effect_weaken}
use Rattle.bk_device.specs.Disk.{Disk}
use Rattle.bk_device.specs.Effects.{Effect}
use Rattle.bk_hosted.specs.Fronts.{Waits}
use Rattle.bk_hosted.specs.Hosted.{Hosted, SaysNoCheckpoint, folded, is_up, saying}
use Rattle.bk_hosted.specs.PointLaws.{folded-said}
use Rattle.bk_ids.specs.declared.record.Rec.{Rec}
use Rattle.bk_lemmas.specs.Lists.{all_joined, all_mapped}
use Rattle.bk_machine.specs.Sound.{has_begin}
use Rattle.bk_points.specs.declared.points.Points.{Points}
use Rattle.bk_shown.specs.Shown.{AreNext}
use Rattle.bk_store.specs.LiftLaws.{sealed-few}
use Rattle.bk_store.specs.Store.{IsStore, sealed_in, Kept as KeptStore}
use Rattle.bk_store.specs.Told.{Told}
use Rattle.bk_stores.specs.ListLaws.{got-inside, got-one, got-set}
use Rattle.bk_stores.specs.Stores.{AreStores, IsOurs, LeavesStores, fixed_of, sealed_at, sealed_by, sealed_of, Kept as KeptStores}
use Rattle.bk_undo.specs.Spelled.{spelled}
use Rattle.bk_world.specs.declared.database.FileSpec.{FileSpec}
use Rattle.bk_world.specs.declared.transaction.Open.{Open}
use Rattle.bk_world.specs.Cut.{end_behind}
use Rattle.bk_world.specs.Records.{Logged, Said, numbered}
use Rattle.bk_hosting.specs.declared.hosting.State.{State}
use Rattle.bk_hosting.specs.Hosting.{HasRecord, IsFitSlot, IsHosting, IsOpenAt, IsReady, Kept, LeavesSaid, MaySayNow, Tells, WaitsBehind, WaitsOn, known_by, own_of, points_by, state_of}
use Rattle.bk_hosting.specs.Saying.{MaySayAll, SealsUpTo, telling}
use Rattle.bk_hosting.proofs.Fronts.{MayLose, all-later}
use Rattle.bk_hosting.proofs.Lists.{all-at, all-set, got-mapped, map-same, map-set, zip-beside, zip-set}
use Rattle.bk_hosting.proofs.SaidLeft.{said-left}
use Rattle.bk_hosting.proofs.StoreSaid.{its-store}

-- what holds of the begin of each transaction holds of a begin that one of them has
of-begin : (P : ℕ → Type 0) (ts : List Open) (n : ℕ) → AllByRecursion (λ (t : Open). P t.begin) ts → has_begin ts n ≡ true → P n
of-begin P [] n all there = absurd (cc)
of-begin P (t ∷ ts) n all there = by (t.begin == n) refl there (of-begin P ts n all.1)
  where
    by : (b : Bool) → (t.begin == n) ≡ b → (b || has_begin ts n) ≡ true → (has_begin ts n ≡ true → P n) → P n
    by true is there later = let same : t.begin ≡ n = grind (arith, nat_tests, is) in subst P same all.0
    by false is there later = later there

-- what waited waits on
pub still-waits : (old new : List Open) (rs : List Logged) → AllByRecursion (λ (t : Open). has_begin new t.begin ≡ true) old → AllByRecursion (Waits old) rs → AllByRecursion (Waits new) rs
still-waits old new rs opens all =
    all_mapped (Waits old) (Waits new) (λ r one. record { some = one.some; of_open = of-begin (λ (n : ℕ). has_begin new n ≡ true) old r.begin opens one.of_open; quiet = one.quiet }) rs all

-- behind a place of the first of two lists
pub drop-joined : (n : ℕ) (xs ys : List Logged) → n ≤ length xs → drop n (xs ++ ys) ≡ drop n xs ++ ys
drop-joined zero xs ys le = refl
drop-joined (suc n) [] ys le = absurd (omega (arith, le))
drop-joined (suc n) (x ∷ xs) ys le = drop-joined n xs ys (omega (arith, le))

pub drop-past : (n : ℕ) (xs : List Logged) → length xs ≤ n → drop n xs ≡ []
drop-past zero [] le = refl
drop-past (suc n) [] le = refl
drop-past zero (x ∷ xs) le = absurd (omega (arith, le))
drop-past (suc n) (x ∷ xs) le = drop-past n xs (omega (arith, le))

-- what a store holds of a database that may say this
pub may-say-all : (told : Told) (h : Hosted) (said : List Said) (ts : List Open) (records : List Rec) (lasting : Bool) → Tells told h → MaySayNow h said ts records lasting → MaySayAll told (numbered (end_behind h.records) said) records
may-say-all told h said ts records lasting tell may = record {
  next_are =
      subst (λ (fs : List FileSpec). AreNext fs told.records (numbered (end_behind h.records) said)) (ap (λ (s : _). s.storage.files) (sym tell.spec))
      (subst (λ (rs : List Logged). AreNext h.spec.storage.files rs (numbered (end_behind h.records) said)) (sym tell.records) may.next);
  spelled_are = may.spelled_are;
}

-- ---- the one that said something

-- what is known of a database, and what stands in its place
pub record Placed (x : Kept) (at : ℕ) (h : Hosted) (tolds : List Told) : Type 0 where
  pub told : Told
  pub there : slice_get tolds at ≡ Some told
  pub tell : Tells told h
  pub slot : Option KeptStore
  pub in_place : slice_get x.stores.slots at ≡ Some slot
  pub waits : WaitsBehind slot h

pub placed-of : (a : Disk) (x : Kept) (hosted : List Hosted) (at : ℕ) (h : Hosted) (is : IsHosting a x hosted) → slice_get hosted at ≡ Some h → Placed x at h is.tolds
placed-of a x hosted at h is here =
    let one = zip-beside Tells is.tolds hosted at h is.tells here in
    let two = zip-beside WaitsBehind x.stores.slots hosted at h is.waits here in
    record { told = one.0; there = one.1; tell = one.2; slot = two.0; in_place = two.1; waits = two.2 }

-- its slot, and what it is in the store
pub record Slot (a : Disk) (x : Kept) (hosted : List Hosted) (at : ℕ) (h : Hosted) (tolds : List Told) : Type 0 where
  pub told : Told
  pub there : slice_get tolds at ≡ Some told
  pub tell : Tells told h
  pub store : KeptStore
  pub filled : slice_get x.stores.slots at ≡ Some (Some store)
  pub up : is_up h ≡ true
  pub first : 1 ≤ sealed_in store
  pub waits : AllByRecursion (Waits h.transactions) (drop (sealed_in store) h.records)

pub slot-of : (a : Disk) (x : Kept) (hosted : List Hosted) (at : ℕ) (h : Hosted) (is : IsHosting a x hosted) → slice_get hosted at ≡ Some h → IsOpenAt x.stores.slots at → Slot a x hosted at h is.tolds
slot-of a x hosted at h is here opened =
    let one : Placed x at h is.tolds = placed-of a x hosted at h is here in
    let waits : WaitsBehind (Some opened.0) h = subst (λ (slot : Option KeptStore). WaitsBehind slot h) (got-one x.stores.slots at one.slot (Some opened.0) one.in_place opened.1) one.waits in
    record { told = one.told; there = one.there; tell = one.tell; store = opened.0; filled = opened.1; up = waits.0; first = waits.1; waits = waits.2 }

-- what is kept of one that can be used
pub state-up : (h : Hosted) → is_up h ≡ true → state_of h ≡ record { points = folded h.points h.records; job = h.job; transactions = h.transactions; known = None }
state-up h up = ap (λ b. record { points = points_by b h; job = h.job; transactions = h.transactions; known = known_by b h }) up

said-state : (h : Hosted) (said : List Said) (ts : List Open) → is_up h ≡ true → SaysNoCheckpoint said → record (state_of h) { transactions = ts } ≡ state_of (saying said ts h)
said-state h said ts up none =
    ap (λ (s : State). record s { transactions = ts }) (state-up h up)
    ∙ ap (λ (p : Points). record { points = p; job = h.job; transactions = ts; known = None }) (sym (folded-said h.points h.records (end_behind h.records) said none)) ∙ sym (state-up (saying said ts h) up)

-- how many records are durable of what a store stands for
pub all-sealed : (s : KeptStore) (told : Told) (a : Disk) → IsStore a s told → s.paged.log.stored ≡ s.paged.log.«end» → sealed_in s ≡ length told.records
all-sealed s told a is all = let ends = is.paged.ends in let size = length-map told.records spelled in omega (arith, all, ends, size)

-- what isn't durable of it waits
waits-then : (a b : Disk) (store then : KeptStore) (told : Told) (h : Hosted) (said : List Said) (ts : List Open) (records : List Rec) (lasting : Bool) → Tells told h → is_up h ≡ true → 1 ≤ sealed_in store → AllByRecursion (Waits h.transactions) (drop (sealed_in store) h.records)
    → MaySayNow h said ts records lasting → IsStore a store told → IsStore b then (telling told (numbered (end_behind h.records) said)) → SealsUpTo lasting store then → WaitsBehind (Some then) (saying said ts h)
waits-then a b store then told h said ts records lasting tell up first waits may before after seals = (up, (let low = seals.later in omega (arith, first, low)), by lasting refl)
  where
    next : List Logged
    next = numbered (end_behind h.records) said

    by : (l : Bool) → lasting ≡ l → AllByRecursion (Waits ts) (drop (sealed_in then) (h.records ++ next))
    by true is =
        let all : sealed_in then ≡ length (told.records ++ next) = all-sealed then (telling told next) b after (seals.all is) in
        let size : length (told.records ++ next) ≡ length (h.records ++ next) = ap (λ (rs : List Logged). length (rs ++ next)) tell.records in
        subst (AllByRecursion (Waits ts)) (sym (drop-past (sealed_in then) (h.records ++ next) (omega (arith, all, size)))) tt
    by false is =
        let on : WaitsOn h said ts = may.waits is in
        let few : sealed_in store ≤ length h.records = let low = sealed-few store told a before in let size = ap (λ (rs : List Logged). length rs) tell.records in omega (arith, low, size) in
        let from-old : AllByRecursion (Waits ts) (drop (sealed_in store) (h.records ++ next)) =
        subst (AllByRecursion (Waits ts)) (sym (drop-joined (sealed_in store) h.records next few)) (all_joined (Waits ts) (drop (sealed_in store) h.records) next (still-waits h.transactions ts (drop (sealed_in store) h.records) on.opens waits) on.waits) in
        all-later (Waits ts) (h.records ++ next) (sealed_in store) (sealed_in then) (let low = seals.later in omega (arith, low)) from-old

-- ---- all of them

-- what was done to the stores
pub record SaidOn (a b : Disk) (old new : KeptStores) (at : ℕ) (records : List Rec) (lasting : Bool) : Type 0 where
  pub then : KeptStore
  pub slots : new ≡ record old { slots = set old.slots at (Some then) }
  pub stands : (tolds : List Told) (told : Told) (next : List Logged) → AreStores a old tolds → slice_get tolds at ≡ Some told → MaySayAll told next records → AreStores b new (set tolds at (telling told next))
  pub seals : (tolds : List Told) (told : Told) (next : List Logged) (s : KeptStore) → AreStores a old tolds → slice_get tolds at ≡ Some told → MaySayAll told next records → slice_get old.slots at ≡ Some (Some s) → SealsUpTo lasting s then

pub said-hosting : (a b : Disk) (x new : Kept) (hosted : List Hosted) (at : ℕ) (h : Hosted) (said : List Said) (ts : List Open) (records : List Rec) (lasting : Bool) → IsHosting a x hosted → slice_get hosted at ≡ Some h → IsOpenAt x.stores.slots at
    → MaySayNow h said ts records lasting → (done : SaidOn a b x.stores new.stores at records lasting) → ((st : State) → slice_get x.states at ≡ Some st → new.states ≡ set x.states at (record st { transactions = ts }))
    → IsHosting b new (set hosted at (saying said ts h))
said-hosting a b x new hosted at h said ts records lasting is here opened may done states =
    let slot : Slot a x hosted at h is.tolds = slot-of a x hosted at h is here opened in
    let next : List Logged = numbered (end_behind h.records) said in
    let all : MaySayAll slot.told next records = may-say-all slot.told h said ts records lasting slot.tell may in
    let after : AreStores b new.stores (set is.tolds at (telling slot.told next)) = done.stands is.tolds slot.told next is.stores slot.there all in
    let put : slice_get new.stores.slots at ≡ Some (Some done.then) =
    ap (λ (k : KeptStores). slice_get k.slots at) done.slots ∙ got-set x.stores.slots at (Some done.then) (got-inside x.stores.slots at (Some slot.store) slot.filled) in
    let told-put : slice_get (set is.tolds at (telling slot.told next)) at ≡ Some (telling slot.told next) = got-set is.tolds at (telling slot.told next) (got-inside is.tolds at slot.told slot.there) in
    let waits : WaitsBehind (Some done.then) (saying said ts h) =
    waits-then a b slot.store done.then slot.told h said ts records lasting slot.tell slot.up slot.first slot.waits may (its-store a x.stores is.tolds at slot.told slot.store is.stores slot.there slot.filled)
    (its-store b new.stores (set is.tolds at (telling slot.told next)) at (telling slot.told next) done.then after told-put put) (done.seals is.tolds slot.told next slot.store is.stores slot.there all slot.filled) in
    let grown : HasRecord (saying said ts h) = let old = all-at HasRecord hosted at h here is.some in let size = length-append h.records next in omega (arith, old, size) in
    let st : slice_get x.states at ≡ Some (state_of h) = ap (λ (xs : List State). slice_get xs at) is.states ∙ got-mapped state_of hosted at h here in
    record {
      tolds = set is.tolds at (telling slot.told next);
      stores = after;
      stored = ap (λ (k : KeptStores). (fixed_of k.master.record).stored) done.slots ∙ is.stored ∙ sym (map-same is_up hosted at h (saying said ts h) here refl);
      tells = zip-set Tells is.tolds hosted at (telling slot.told next) (saying said ts h) (record { spec = slot.tell.spec; note = slot.tell.note; records = ap (λ (rs : List Logged). rs ++ next) slot.tell.records }) is.tells;
      states = states (state_of h) st ∙ ap (λ (xs : List State). set xs at (record (state_of h) { transactions = ts })) is.states
          ∙ ap (λ (s : State). set (map state_of hosted) at s) (said-state h said ts slot.up may.plain) ∙ sym (map-set state_of hosted at (saying said ts h));
      waits = subst (λ (k : KeptStores). AllZip WaitsBehind k.slots (set hosted at (saying said ts h))) (sym done.slots) (zip-set WaitsBehind x.stores.slots hosted at (Some done.then) (saying said ts h) waits is.waits);
      some = all-set HasRecord hosted at (saying said ts h) grown is.some;
    }

-- ---- crashes

-- what each may lose
pub may-lose : (a : Disk) (x : Kept) (hosted : List Hosted) (is : IsHosting a x hosted) → (i : ℕ) (h : Hosted) → slice_get hosted i ≡ Some h → MayLose (sealed_at x.stores is.tolds i) h
may-lose a x hosted is i h here = by one.slot one.in_place one.waits
  where
    one : Placed x i h is.tolds
    one = placed-of a x hosted i h is here

    some : HasRecord h
    some = all-at HasRecord hosted i h here is.some

    size : length one.told.records ≡ length h.records
    size = ap (λ (rs : List Logged). length rs) one.tell.records

    least : (slot : Option KeptStore) → slice_get x.stores.slots i ≡ Some slot → sealed_at x.stores is.tolds i ≡ sealed_by slot one.told
    least slot filled = ap (λ (o : Option (Option KeptStore)). sealed_of o (slice_get is.tolds i)) filled ∙ ap (λ (o : Option Told). sealed_of (Some slot) o) one.there

    by : (slot : Option KeptStore) → slice_get x.stores.slots i ≡ Some slot → WaitsBehind slot h → MayLose (sealed_at x.stores is.tolds i) h
    by (Some store) filled waits = subst (λ (n : ℕ). MayLose n h) (sym (least (Some store) filled)) (record { first = waits.1; some = some; waits = waits.2 })
    by None filled waits =
        subst (λ (n : ℕ). MayLose n h) (sym (least None filled))
        (record { first = omega (arith, size, some); some = some; waits = subst (AllByRecursion (Waits h.transactions)) (sym (drop-past (length one.told.records) h.records (omega (arith, size)))) tt })

pub said-crash : (a b : Disk) (x : Kept) (hosted : List Hosted) (at : ℕ) (h : Hosted) (said : List Said) (ts : List Open) (records : List Rec) (lasting : Bool) → IsHosting a x hosted → slice_get hosted at ≡ Some h → IsOpenAt x.stores.slots at → MaySayNow h said ts records lasting
    → ((tolds : List Told) (told : Told) (next : List Logged) → AreStores a x.stores tolds → slice_get tolds at ≡ Some told → MaySayAll told next records → Effect IsOurs (LeavesStores (fixed_of x.stores.master.record) (sealed_at x.stores tolds) (set tolds at (telling told next))) a b)
    → Effect IsOurs (LeavesSaid (own_of x) hosted at h said ts) a b
said-crash a b x hosted at h said ts records lasting is here opened may crash =
    let slot : Slot a x hosted at h is.tolds = slot-of a x hosted at h is here opened in
    let next : List Logged = numbered (end_behind h.records) said in
    let all : MaySayAll slot.told next records = may-say-all slot.told h said ts records lasting slot.tell may in
    let few : sealed_at x.stores is.tolds at ≤ length slot.told.records =
    let least : sealed_at x.stores is.tolds at ≡ sealed_in slot.store = ap (λ (o : Option (Option KeptStore)). sealed_of o (slice_get is.tolds at)) slot.filled ∙ ap (λ (o : Option Told). sealed_of (Some (Some slot.store)) o) slot.there in
    let low = sealed-few slot.store slot.told a (its-store a x.stores is.tolds at slot.told slot.store is.stores slot.there slot.filled) in omega (arith, least, low) in
    effect_weaken (λ image left. said-left (fixed_of x.stores.master.record) (sealed_at x.stores is.tolds) is.tolds hosted at slot.told h said ts image slot.there here is.stored is.tells (may-lose a x hosted is) slot.tell few left)
    (crash is.tolds slot.told next is.stores slot.there all)

-- ---- a place that is open

pub open-there : (x : Kept) (at : ℕ) → IsReady x → (s : KeptStore) × (slice_get x.stores.slots at ≡ Some (Some s)) → IsOpenAt x.stores.slots at
open-there x at ready (s, filled) = (s, filled, all-at IsFitSlot x.stores.slots at (Some s) filled ready.fit)

pub opened-as : (x k : Kept) (at : ℕ) → k ≡ x → IsReady k → (s : KeptStore) × (slice_get k.stores.slots at ≡ Some (Some s)) → IsOpenAt x.stores.slots at
opened-as x k at same ready there = subst (λ (o : Kept). IsOpenAt o.stores.slots at) same (open-there k at ready there)

-- the store that said something
pub put-there : (old new : KeptStores) (at : ℕ) (then : KeptStore) → IsOpenAt old.slots at → new ≡ record old { slots = set old.slots at (Some then) } → slice_get new.slots at ≡ Some (Some then)
put-there old new at then opened same = ap (λ (k : KeptStores). slice_get k.slots at) same ∙ got-set old.slots at (Some then) (got-inside old.slots at (Some opened.0) opened.1)

-- an element that is read
pub read-there : (xs : List State) (i : ℕ) (d st : State) → slice_get xs i ≡ Some st → get_or xs i d ≡ st
read-there [] i d st there = absurd (cc (there))
read-there (y ∷ xs) zero d st there = let same : y ≡ st = cc (there) in same
read-there (y ∷ xs) (suc i) d st there = read-there xs i d st there
