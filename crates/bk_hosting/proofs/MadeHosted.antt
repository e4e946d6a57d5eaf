-- Hosted databases behind which another one is made.
use Rattle.std.proofs.Common.{◌≡◌, ◌≤◌, ℕ, zero, suc, Bool, true, false, List, [], ◌∷◌, ◌++◌, map, drop, length, Option, Some, None, refl, inl, inr, sym, ap, subst, ◌∙◌, arith}
use Rattle.std.specs.Prelude.{slice_get}
use Rattle.std.specs.List.{AllByRecursion, AllZip}
use Rattle.bk_device.specs.Compose.{effect_weaken}
use Rattle.bk_device.specs.Disk.{Disk}
use Rattle.bk_device.specs.Effects.{Effect}
use Rattle.bk_hosted.specs.Fronts.{Waits}
use Rattle.bk_hosted.specs.Hosted.{Hosted, is_up}
use Rattle.bk_ids.specs.declared.guid.Guid.{Guid}
use Rattle.bk_known.specs.declared.known.DatabaseSpec.{DatabaseSpec}
use Rattle.bk_master.specs.declared.record.Entry.{Entry}
use Rattle.bk_master.specs.declared.record.Record.{Record}
use Rattle.bk_side.specs.Names.{IsData, name_of}
use Rattle.bk_store.specs.Making.{founded}
use Rattle.bk_store.specs.Store.{IsStore, sealed_in, Kept as KeptStore}
use Rattle.bk_store.specs.Told.{Told, data_file}
use Rattle.bk_stores.specs.Beside.{ShareNoFile}
use Rattle.bk_stores.specs.ListLaws.{got, got-before, got-inside, got-last, got-more}
use Rattle.bk_stores.specs.Making.{Creates, IsSealed, more_stored, sealed_more}
use Rattle.bk_stores.specs.Records.{SharesNone}
use Rattle.bk_stores.specs.Stores.{AreStores, Fixed, IsOurs, files_by, fixed_of, its_files, sealed_at, sealed_of}
use Rattle.bk_world.specs.Records.{Logged}
use Rattle.bk_hosting.specs.declared.hosting.State.{State}
use Rattle.bk_hosting.specs.Hosting.{AreOf, HasRecord, IsHosting, Kept, LeavesEither, Tells, WaitsBehind, own_of, state_of}
use Rattle.bk_hosting.specs.Making.{HaveNoFile, kept_files, newly}
use Rattle.bk_hosting.proofs.Fronts.{MayLose, leaves-hosted, zip-got, zip-length}
use Rattle.bk_hosting.proofs.Lists.{all-at, all-more, got-mapped, map-more, zip-more}
use Rattle.bk_hosting.proofs.SaidHosted.{Placed, drop-past, may-lose, placed-of}
use Rattle.bk_hosting.proofs.StoreSaid.{its-store}

-- the slot of a database that is named by its place in the stores
pub host-of : (a : Disk) (x : Kept) (hosted : List Hosted) (is : IsHosting a x hosted) (i : ℕ) (t : Told) → slice_get is.tolds i ≡ Some t → (h : Hosted) × (slice_get hosted i ≡ Some h)
host-of a x hosted is i t at = got hosted i (let lt = got-inside is.tolds i t at in let same = zip-length Tells is.tolds hosted is.tells in omega (arith, lt, same))

-- an entry is stored where its database can be used
pub entry-stored : (r : Record) (hosted : List Hosted) → AreOf (fixed_of r) hosted → (i : ℕ) (e : Entry) (h : Hosted) → slice_get r.databases i ≡ Some e → slice_get hosted i ≡ Some h → e.is_stored ≡ is_up h
entry-stored r hosted stored i e h one two =
    let first : slice_get (map (λ (x : Entry). x.is_stored) r.databases) i ≡ Some e.is_stored = got-mapped (λ (x : Entry). x.is_stored) r.databases i e one in
    let second : slice_get (map is_up hosted) i ≡ Some (is_up h) = got-mapped is_up hosted i h two in
    let same : Some e.is_stored ≡ Some (is_up h) = sym first ∙ ap (λ (bs : List Bool). slice_get bs i) stored ∙ second in
    cc (same)

-- the files of its entry are those of a database that can be used; else there are none
pub entry-files : (a : Disk) (x : Kept) (hosted : List Hosted) (is : IsHosting a x hosted) (i : ℕ) (e : Entry) (t : Told) (h : Hosted) → slice_get x.stores.master.record.databases i ≡ Some e → slice_get is.tolds i ≡ Some t → slice_get hosted i ≡ Some h
    → its_files e t ≡ kept_files (is_up h) h
entry-files a x hosted is i e t h one two three =
    let tell : Tells t h = zip-got Tells is.tolds hosted is.tells i t h two three in
    ap (λ (b : Bool). files_by b t) (entry-stored x.stores.master.record hosted is.stored i e h one three) ∙ by (is_up h) tell
  where
    by : (up : Bool) → Tells t h → files_by up t ≡ kept_files up h
    by true tell = ap (λ (s : DatabaseSpec). map data_file s.storage.files) tell.spec
    by false tell = refl

-- no database has one of the new files
pub shares-none : (a : Disk) (x : Kept) (hosted : List Hosted) (spec : DatabaseSpec) (is : IsHosting a x hosted) → HaveNoFile hosted spec → SharesNone x.stores.master.record.databases is.tolds (map data_file spec.storage.files)
shares-none a x hosted spec is none = λ i e t at.
    let host = host-of a x hosted is i t at.1 in
    subst (ShareNoFile (map data_file spec.storage.files)) (sym (entry-files a x hosted is i e t host.0 at.0 at.1 host.1))
    (by (is_up host.0) host.0 (all-at (λ (h : Hosted). ShareNoFile (map data_file spec.storage.files) (map data_file h.spec.storage.files)) hosted i host.0 host.1 none))
  where
    -- no file is in none
    none-in : (name : List ℕ) → IsData [] name → ⊥
    none-in name (file, is) = absurd (none-at file is)
      where
        none-at : (n : ℕ) → name_of [] n ≡ Some name → ⊥
        none-at zero one = absurd (cc (one))
        none-at (suc n) one = absurd (cc (one))

    by : (up : Bool) (h : Hosted) → ShareNoFile (map data_file spec.storage.files) (map data_file h.spec.storage.files) → ShareNoFile (map data_file spec.storage.files) (kept_files up h)
    by true h shares = shares
    by false h shares = λ name one two. none-in name two

newly-tells : (spec : DatabaseSpec) (time : ℕ) (branch : Guid) → Tells (founded spec time branch) (newly spec time branch)
newly-tells spec time branch = record { spec = refl; note = inr (refl, refl); records = refl }

-- its store holds its one record, which is durable
newly-waits : (b : Disk) (s : KeptStore) (spec : DatabaseSpec) (time : ℕ) (branch : Guid) → IsStore b s (founded spec time branch) → IsSealed s → WaitsBehind (Some s) (newly spec time branch)
newly-waits b s spec time branch is sealed =
    let one : sealed_in s ≡ 1 = let ends = is.paged.ends in let all = sealed.all in omega (arith, ends, all) in
    let both = subst (λ (n : ℕ). (1 ≤ n) × AllByRecursion (Waits (newly spec time branch).transactions) (drop n (newly spec time branch).records)) (sym one) (omega arith, tt) in (refl, both.0, both.1)

-- a flag behind others
pub stored-more : (fixed : Fixed) (hosted : List Hosted) (b : Bool) (h : Hosted) → AreOf fixed hosted → b ≡ is_up h → AreOf (more_stored fixed b) (hosted ++ h ∷ [])
stored-more fixed hosted b h stored same =
    ap (λ (bs : List Bool). bs ++ b ∷ []) stored ∙ ap (λ b. map is_up hosted ++ b ∷ []) same ∙ sym (map-more is_up hosted h)

-- one more database, with what its store or its note holds of it
module _ (a b : Disk) (x : Kept) (hosted : List Hosted) (is : IsHosting a x hosted) (told : Told) (h : Hosted) (tell : Tells told h) (some : HasRecord h) where
  pub more-hosting : (new : Kept) (slot : Option KeptStore) → new.stores.slots ≡ x.stores.slots ++ slot ∷ [] → AreOf (fixed_of new.stores.master.record) (hosted ++ h ∷ []) → AreStores b new.stores (is.tolds ++ told ∷ [])
      → WaitsBehind slot h → new.states ≡ x.states ++ state_of h ∷ [] → IsHosting b new (hosted ++ h ∷ [])
  more-hosting new slot slots stored after waits states = record {
    tolds = is.tolds ++ told ∷ [];
    stores = after;
    stored = stored;
    tells = zip-more Tells is.tolds hosted told h tell is.tells;
    states = states ∙ ap (λ (xs : List State). xs ++ state_of h ∷ []) is.states ∙ sym (map-more state_of hosted h);
    waits = subst (λ (sl : List (Option KeptStore)). AllZip WaitsBehind sl (hosted ++ h ∷ [])) (sym slots) (zip-more WaitsBehind x.stores.slots hosted slot h waits is.waits);
    some = all-more HasRecord hosted h some is.some;
  }

  same : length is.tolds ≡ length hosted
  same = zip-length Tells is.tolds hosted is.tells

  -- each of the others as before
  of-old : (i : ℕ) (y : Hosted) → slice_get hosted i ≡ Some y → MayLose (sealed_more x.stores is.tolds told i) y
  of-old i y there =
      let slot : Placed x i y is.tolds = placed-of a x hosted i y is there in
      let one : sealed_more x.stores is.tolds told i ≡ sealed_of (Some slot.slot) (Some slot.told) =
      ap (λ (o : Option (Option KeptStore)). sealed_of o (slice_get (is.tolds ++ told ∷ []) i)) (got-before x.stores.slots (None ∷ []) i slot.slot slot.in_place)
      ∙ ap (λ (o : Option Told). sealed_of (Some slot.slot) o) (got-before is.tolds (told ∷ []) i slot.told slot.there) in
      let two : sealed_at x.stores is.tolds i ≡ sealed_of (Some slot.slot) (Some slot.told) =
      ap (λ (o : Option (Option KeptStore)). sealed_of o (slice_get is.tolds i)) slot.in_place ∙ ap (λ (o : Option Told). sealed_of (Some slot.slot) o) slot.there in
      subst (λ (n : ℕ). MayLose n y) (two ∙ sym one) (may-lose a x hosted is i y there)

  size : length told.records ≡ length h.records
  size = ap (λ (rs : List Logged). length rs) tell.records

  -- all of the new one
  pub all-of-it : MayLose (length told.records) h
  all-of-it = record {
    first = let one = some in let two = size in omega (arith, one, two);
    some = some;
    waits = subst (AllByRecursion (Waits h.transactions)) (sym (drop-past (length told.records) h.records (let two = size in omega (arith, two)))) tt;
  }

  of-new : (i : ℕ) → i ≡ length hosted → MayLose (sealed_more x.stores is.tolds told i) h
  of-new i last =
      let last-told : i ≡ length is.tolds = last ∙ sym same in
      let last-slot : i ≡ length x.stores.slots = last-told ∙ sym is.stores.standing.count in
      let all : sealed_more x.stores is.tolds told i ≡ length told.records =
      ap (λ (o : Option (Option KeptStore)). sealed_of o (slice_get (is.tolds ++ told ∷ []) i)) (ap (λ (n : ℕ). slice_get (x.stores.slots ++ None ∷ []) n) last-slot ∙ got-last x.stores.slots None)
      ∙ ap (λ (o : Option Told). sealed_of (Some None) o) (ap (λ (n : ℕ). slice_get (is.tolds ++ told ∷ []) n) last-told ∙ got-last is.tolds told) in
      subst (λ (n : ℕ). MayLose n h) (sym all) all-of-it

  may : (i : ℕ) (y : Hosted) → slice_get (hosted ++ h ∷ []) i ≡ Some y → MayLose (sealed_more x.stores is.tolds told i) y
  may i y there = elim (got-more hosted h y i there) [
    | inl old ↦ of-old i y old
    | inr new ↦ subst (MayLose (sealed_more x.stores is.tolds told i)) new.1 (of-new i new.0)
  ]

  -- a crash leaves those that there were, or these and the new one
  pub more-crash : (b' : Bool) → b' ≡ is_up h → Creates x.stores is.tolds b' told a b → Effect IsOurs (LeavesEither (own_of x) hosted (hosted ++ h ∷ [])) a b
  more-crash b' flag effect =
      effect_weaken (λ image left. elim left [
        | inl before ↦ inl (leaves-hosted (fixed_of x.stores.master.record) (sealed_at x.stores is.tolds) is.tolds hosted image before is.stored is.tells (may-lose a x hosted is))
        | inr after ↦ inr (leaves-hosted (more_stored (fixed_of x.stores.master.record) b') (sealed_more x.stores is.tolds told) (is.tolds ++ told ∷ []) (hosted ++ h ∷ []) image after
            (stored-more (fixed_of x.stores.master.record) hosted b' h is.stored flag) (zip-more Tells is.tolds hosted told h tell is.tells) may)
      ]) effect

-- ---- a database that was just made

pub made-hosting : (a b : Disk) (x new : Kept) (hosted : List Hosted) (spec : DatabaseSpec) (time : ℕ) (branch : Guid) (s : KeptStore) (is : IsHosting a x hosted) → new.stores.slots ≡ x.stores.slots ++ Some s ∷ [] → IsSealed s
    → fixed_of new.stores.master.record ≡ more_stored (fixed_of x.stores.master.record) true
    → AreStores b new.stores (is.tolds ++ founded spec time branch ∷ []) → new.states ≡ x.states ++ (state_of (newly spec time branch)) ∷ [] → IsHosting b new (hosted ++ newly spec time branch ∷ [])
made-hosting a b x new hosted spec time branch s is slots sealed same_but after states =
    let told : Told = founded spec time branch in
    let put : slice_get new.stores.slots (length is.tolds) ≡ Some (Some s) =
    ap (λ (sl : List (Option KeptStore)). slice_get sl (length is.tolds)) slots ∙ ap (λ (n : ℕ). slice_get (x.stores.slots ++ Some s ∷ []) n) (sym is.stores.standing.count) ∙ got-last x.stores.slots (Some s) in
    let store : IsStore b s told = its-store b new.stores (is.tolds ++ told ∷ []) (length is.tolds) told s after (got-last is.tolds told) put in
    more-hosting a b x hosted is told (newly spec time branch) (newly-tells spec time branch) (omega arith) new (Some s) slots
    (ap (λ (f : Fixed). f.stored) same_but ∙ stored-more (fixed_of x.stores.master.record) hosted true (newly spec time branch) is.stored refl) after (newly-waits b s spec time branch store sealed) states

pub made-crash : (a b : Disk) (x : Kept) (hosted : List Hosted) (spec : DatabaseSpec) (time : ℕ) (branch : Guid) (is : IsHosting a x hosted) → Creates x.stores is.tolds true (founded spec time branch) a b
    → Effect IsOurs (LeavesEither (own_of x) hosted (hosted ++ newly spec time branch ∷ [])) a b
made-crash a b x hosted spec time branch is effect =
    more-crash a b x hosted is (founded spec time branch) (newly spec time branch) (newly-tells spec time branch) (omega arith) true refl effect
