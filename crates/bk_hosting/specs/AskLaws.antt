-- What is kept of hosted databases describes them.
use Rattle.std.proofs.Common.{◌≡◌, ◌<◌, ◌∙◌, ℕ, zero, suc, Bool, List, [], ◌∷◌, length, Option, Some, None, refl, ap, subst, arith}
use Rattle.std.specs.Option.{option_map}
use Rattle.std.specs.Prelude.{slice_get}
use Rattle.std.specs.List.{AllZip}
use Rattle.std.proofs.lemmas.List.{length-map}
use Rattle.std.proofs.lemmas.Option.{slice_get-map}
use Rattle.bk_device.specs.Disk.{Disk}
use Rattle.bk_hosted.specs.Hosted.{Hosted}
use Rattle.bk_known.specs.declared.known.DatabaseSpec.{DatabaseSpec}
use Rattle.bk_known.specs.declared.known.Known.{Known}
use Rattle.bk_store.specs.Store.{Kept as KeptStore}
use Rattle.bk_store.specs.Told.{Told}
use Rattle.bk_stores.specs.ListLaws.{got, got-inside, got-one}
use Rattle.bk_stores.specs.Stores.{AreStores, IsOpen}
use Rattle.bk_hosting.specs.declared.hosting.State.{State}
use Rattle.bk_hosting.specs.Asking.{AreDescribed, spec_by}
use Rattle.bk_hosting.specs.Hosting.{IsHosting, Kept, Tells, WaitsBehind, known_by, state_of}

-- an element that stands beside another
there : {A B : Type 0} (R : A → B → Type 0) (xs : List A) (ys : List B) (i : ℕ) (y : B) → AllZip R xs ys → slice_get ys i ≡ Some y → (x : A) × (slice_get xs i ≡ Some x) × R x y
there R [] [] i y zip is = absurd cc
there R [] (b ∷ ys) i y zip is = absurd zip
there R (a ∷ xs) [] i y zip is = absurd zip
there R (a ∷ xs) (b ∷ ys) zero y zip is = let same : b ≡ y = cc in (a, refl, subst (R a) same zip.0)
there R (a ∷ xs) (b ∷ ys) (suc i) y zip is = there R xs ys i y zip.1 is

-- the description that an open store has
open-spec : (disk : Disk) (x : Kept) (tolds : List Told) (i : ℕ) (told : Told) (s : KeptStore) → AreStores disk x.stores tolds → slice_get tolds i ≡ Some told → slice_get x.stores.slots i ≡ Some (Some s) → s.known.spec ≡ told.spec
open-spec disk x tolds i told s is here filled =
    let inside : i < length x.stores.master.record.databases = let less = got-inside tolds i told here in let same = is.standing.entries.count in omega (arith, less, same) in
    let entry = got x.stores.master.record.databases i inside in
    let opened : IsOpen disk entry.0 s told = is.standing.stand i entry.0 (Some s) told (entry.1, here) filled in
    opened.store.noted.spec

-- by the store, or else by what is known
spec-there : (disk : Disk) (x : Kept) (hosted : List Hosted) (i : ℕ) (h : Hosted) (slot : Option KeptStore) (st : State) → IsHosting disk x hosted → slice_get hosted i ≡ Some h → slice_get x.stores.slots i ≡ Some slot → slice_get x.states i ≡ Some st → spec_by slot st.known ≡ Some h.spec
spec-there disk x hosted i h slot st is here filled kept = by slot filled (subst (λ (o : Option KeptStore). WaitsBehind o h) (got-one x.stores.slots i two.0 slot two.1 filled) two.2)
  where
    one : (told : Told) × (slice_get is.tolds i ≡ Some told) × Tells told h
    one = there Tells is.tolds hosted i h is.tells here

    two : (o : Option KeptStore) × (slice_get x.stores.slots i ≡ Some o) × WaitsBehind o h
    two = there WaitsBehind x.stores.slots hosted i h is.waits here

    state : slice_get x.states i ≡ Some (state_of h)
    state = ap (λ (xs : List State). slice_get xs i) is.states ∙ slice_get-map state_of hosted i ∙ ap (λ (o : Option Hosted). option_map state_of o) here

    by : (o : Option KeptStore) → slice_get x.stores.slots i ≡ Some o → WaitsBehind o h → spec_by o st.known ≡ Some h.spec
    by (Some s) in-place waits =
        ap (λ (d : DatabaseSpec). let some : Option DatabaseSpec = Some d in some) (open-spec disk x is.tolds i one.0 s is.stores one.1 in-place ∙ one.2.spec)
    by None in-place waits =
        ap (λ (k : Option Known). spec_by None k) (ap (λ (y : State). y.known) (got-one x.states i st (state_of h) kept state) ∙ ap (λ (b : Bool). known_by b h) waits.0)

pub described : (disk : Disk) (x : Kept) (hosted : List Hosted) → IsHosting disk x hosted → AreDescribed x hosted
described disk x hosted is = record {
  count = ap (λ (xs : List State). length xs) is.states ∙ length-map hosted state_of;
  each = λ i h slot st here filled kept. spec-there disk x hosted i h slot st is here filled kept;
}
