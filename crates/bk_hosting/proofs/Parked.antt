-- Hosted databases of which one is being restored.
use Rattle.std.proofs.Common.{◌≡◌, ◌≤◌, ◌⊎◌, ◌+◌, ◌-◌, take, ℕ, Bool, false, List, length, map, Option, Some, None, refl, inl, inr, sym, ap, subst, ◌∙◌, arith}
use Rattle.std.specs.Prelude.{set, slice_get}
use Rattle.std.specs.List.{AllZip}
use Rattle.std.proofs.Math.Seq.{take-length}
use Rattle.bk_device.specs.Compose.{effect_weaken}
use Rattle.bk_device.specs.Disk.{Disk}
use Rattle.bk_device.specs.Effects.{Effect}
use Rattle.bk_hosted.specs.Hosted.{Hosted, is_up}
use Rattle.bk_known.specs.declared.known.Known.{Known}
use Rattle.bk_known.specs.Known.{KeepsKnown}
use Rattle.bk_points.specs.declared.points.Points.{Points}
use Rattle.bk_points.specs.Points.{IsPoints, points_bytes}
use Rattle.bk_store.specs.Store.{Kept as KeptStore}
use Rattle.bk_store.specs.Told.{Told, below}
use Rattle.bk_stores.specs.ListLaws.{got-inside, got-one, got-other, got-set, same-place}
use Rattle.bk_stores.specs.Making.{Swaps, sealed_swapped, set_stored}
use Rattle.bk_stores.specs.Parking.{IsParked}
use Rattle.bk_stores.specs.Stores.{AreStores, Fixed, IsOurs, fixed_of, sealed_at, sealed_of}
use Rattle.bk_world.specs.declared.database.FileSpec.{FileSpec}
use Rattle.bk_world.specs.Cut.{end_behind}
use Rattle.bk_world.specs.Telling as telling
use Rattle.bk_hosting.specs.declared.hosting.State.{State}
use Rattle.bk_hosting.specs.Hosting.{AreOf, HasRecord, IsHosting, IsNoteOf, Kept, LeavesEither, Tells, WaitsBehind, known_at, known_by, own_of, points_by, state_of}
use Rattle.bk_hosting.specs.Parking.{IsParkedAs}
use Rattle.bk_hosting.proofs.Fronts.{MayLose, leaves-hosted}
use Rattle.bk_hosting.proofs.Lists.{all-set, map-set, zip-set}
use Rattle.bk_hosting.proofs.MadeHosted.{all-of-it}
use Rattle.bk_hosting.proofs.SaidHosted.{Placed, may-lose, placed-of}

-- what is kept of one
pub state-down : (h : Hosted) → is_up h ≡ false → state_of h ≡ record { points = h.points; job = h.job; transactions = h.transactions; known = Some (known_at h) }
state-down h down = ap (λ b. record { points = points_by b h; job = h.job; transactions = h.transactions; known = known_by b h }) down

-- all records are below the end
below-end : (known : Known) (h : Hosted) → known ≡ known_at h → below known.as_of.from h.records ≡ h.records
below-end known h is =
    ap (λ (k : Known). below k.as_of.from h.records) is
    ∙ ap (λ n. take n h.records) (let same : (1 + length h.records) - 1 ≡ length h.records = omega arith in same) ∙ take-length h.records

-- what was noted of it is what is known
pub parked-known : (known : Known) (note : List ℕ) (told : Told) (h : Hosted) → IsParked known note told → Tells told h → known ≡ known_at h
parked-known known note told h is tell =
    let from : known.as_of.from ≡ end_behind h.records = is.from ∙ ap end_behind tell.records in
    let all : below known.as_of.from told.records ≡ h.records =
    ap (λ n. below n told.records) from ∙ ap (below (end_behind h.records)) tell.records
    ∙ ap (λ n. take n h.records) (let same : (1 + length h.records) - 1 ≡ length h.records = omega arith in same) ∙ take-length h.records in
    let spec : known.spec ≡ h.spec = is.noted.spec ∙ tell.spec in
    let tables : known.as_of.tables ≡ telling.tables h.records = is.noted.as_of.tables ∙ ap telling.tables all in
    let model : known.as_of.model ≡ telling.model h.records = is.noted.as_of.model ∙ ap telling.model all in
    let time : known.as_of.time ≡ telling.time h.records = is.noted.as_of.time ∙ ap telling.time all in
    λ i. record { spec = spec i; as_of = record { from = from i; tables = tables i; model = model i; time = time i } }

-- its note spells its points
pub noted-as : (known : Known) (note : List ℕ) (told : Told) (h : Hosted) (bytes : List ℕ) (files : List FileSpec) → IsParked known note told → Tells told h → bytes ≡ note → files ≡ known.spec.storage.files → IsNoteOf bytes files h.points
noted-as known note told h bytes files is tell same its =
    let files_are : h.spec.storage.files ≡ files = sym (ap (λ (k : Known). k.spec.storage.files) (parked-known known note told h is tell)) ∙ sym its in
    subst (λ (fs : List FileSpec). IsNoteOf bytes fs h.points) files_are (subst (λ (n : List ℕ). IsNoteOf n h.spec.storage.files h.points) (is.same ∙ sym same) tell.note)

-- what its note holds
abbrev pub told_of : Hosted → Told
told_of h = record { spec = h.spec; note = points_bytes h.points; records = h.records }

pub told-parked : (known : Known) (points : Points) (h : Hosted) → IsParkedAs known points h → KeepsKnown known → IsPoints points → length (points_bytes points) ≤ 12288 → IsParked known (points_bytes points) (told_of h)
told-parked known points h is keeps spelled short =
    record {
      noted = record {
        spec = ap (λ (k : Known). k.spec) is.known_is;
        spelled = is.spelled;
        keeps = keeps;
        short = let same : length (points_bytes points) ≡ length (points_bytes h.points) = ap (λ (p : Points). length (points_bytes p)) is.points_are in omega (arith, short, same);
        as_of = record {
          some = let one : known.as_of.from ≡ (known_at h).as_of.from = ap (λ (k : Known). k.as_of.from) is.known_is in omega (arith, one);
          inside = let one : known.as_of.from ≡ (known_at h).as_of.from = ap (λ (k : Known). k.as_of.from) is.known_is in omega (arith, one);
          tables = ap (λ (k : Known). k.as_of.tables) is.known_is ∙ sym (ap telling.tables (below-end known h is.known_is));
          model = ap (λ (k : Known). k.as_of.model) is.known_is ∙ sym (ap telling.model (below-end known h is.known_is));
          time = ap (λ (k : Known). k.as_of.time) is.known_is ∙ sym (ap telling.time (below-end known h is.known_is));
        };
      };
      same = ap points_bytes (sym is.points_are);
      from = ap (λ (k : Known). k.as_of.from) is.known_is;
    }

pub parked-tells : (known : Known) (points : Points) (h : Hosted) → IsParkedAs known points h → IsPoints points → Tells (told_of h) h
parked-tells known points h is spelled = record { spec = refl; note = inl (refl, subst IsPoints is.points_are spelled); records = refl }

-- ---- in the place of another one

module _ (a b : Disk) (x : Kept) (hosted : List Hosted) (at : ℕ) (old h : Hosted) (told new : Told) (slot : Option KeptStore) (is : IsHosting a x hosted) (here : slice_get hosted at ≡ Some old) (there : slice_get is.tolds at ≡ Some told)
    (tell : Tells new h) (some : HasRecord h) where
  pub put-hosting : (then : Kept) → then.stores.slots ≡ set x.stores.slots at slot → AreOf (fixed_of then.stores.master.record) (set hosted at h) → AreStores b then.stores (set is.tolds at new) → WaitsBehind slot h
      → then.states ≡ set x.states at (state_of h) → IsHosting b then (set hosted at h)
  put-hosting then slots stored after waits states = record {
    tolds = set is.tolds at new;
    stores = after;
    stored = stored;
    tells = zip-set Tells is.tolds hosted at new h tell is.tells;
    states = states ∙ ap (λ (xs : List State). set xs at (state_of h)) is.states ∙ sym (map-set state_of hosted at h);
    waits = subst (λ (sl : List (Option KeptStore)). AllZip WaitsBehind sl (set hosted at h)) (sym slots) (zip-set WaitsBehind x.stores.slots hosted at slot h waits is.waits);
    some = all-set HasRecord hosted at h some is.some;
  }

  -- the flags
  pub stored-set : (fixed : Fixed) (up : Bool) → AreOf fixed hosted → up ≡ is_up h → AreOf (set_stored fixed at up) (set hosted at h)
  stored-set fixed up stored same = ap (λ (bs : List Bool). set bs at up) stored ∙ ap (set (map is_up hosted) at) same ∙ sym (map-set is_up hosted at h)

  may : (i : ℕ) (y : Hosted) → slice_get (set hosted at h) i ≡ Some y → MayLose (sealed_swapped x.stores is.tolds at new i) y
  may i y got-y = by (same-place at i)
    where
      by : (at ≡ i) ⊎ (at ≡ i → ⊥) → MayLose (sealed_swapped x.stores is.tolds at new i) y
      by (inl same) =
          let placed : Placed x at old is.tolds = placed-of a x hosted at old is here in
          let one : h ≡ y = got-one (set hosted at h) at h y (got-set hosted at h (got-inside hosted at old here)) (ap (λ (k : ℕ). slice_get (set hosted at h) k) same ∙ got-y) in
          let all : sealed_swapped x.stores is.tolds at new at ≡ length new.records =
          ap (λ (o : Option (Option KeptStore)). sealed_of o (slice_get (set is.tolds at new) at)) (got-set x.stores.slots at None (got-inside x.stores.slots at placed.slot placed.in_place))
          ∙ ap (λ (o : Option Told). sealed_of (Some None) o) (got-set is.tolds at new (got-inside is.tolds at told there)) in
          subst (MayLose (sealed_swapped x.stores is.tolds at new i)) one
          (subst (λ (k : ℕ). MayLose (sealed_swapped x.stores is.tolds at new k) h) same (subst (λ (n : ℕ). MayLose n h) (sym all) (all-of-it a b x hosted is new h tell some)))
      by (inr differ) =
          let one : sealed_swapped x.stores is.tolds at new i ≡ sealed_at x.stores is.tolds i =
          ap (λ (o : Option (Option KeptStore)). sealed_of o (slice_get (set is.tolds at new) i)) (got-other x.stores.slots at i None differ)
          ∙ ap (λ (o : Option Told). sealed_of (slice_get x.stores.slots i) o) (got-other is.tolds at i new differ) in
          subst (λ (n : ℕ). MayLose n y) (sym one) (may-lose a x hosted is i y (sym (got-other hosted at i h differ) ∙ got-y))

  pub put-crash : (up : Bool) → up ≡ is_up h → Swaps x.stores is.tolds at up new a b → Effect IsOurs (LeavesEither (own_of x) hosted (set hosted at h)) a b
  put-crash up same effect =
      effect_weaken (λ image left. elim left [
        | inl before ↦ inl (leaves-hosted (fixed_of x.stores.master.record) (sealed_at x.stores is.tolds) is.tolds hosted image before is.stored is.tells (may-lose a x hosted is))
        | inr after ↦ inr (leaves-hosted (set_stored (fixed_of x.stores.master.record) at up) (sealed_swapped x.stores is.tolds at new) (set is.tolds at new) (set hosted at h) image after
            (stored-set (fixed_of x.stores.master.record) up is.stored same) (zip-set Tells is.tolds hosted at new h tell is.tells) may)
      ]) effect
