-- The database of a name, among those of an instance.
use Rattle.std.proofs.Common.{◌≡◌, ◌<◌, ℕ, zero, suc, Bool, true, false, List, [], ◌∷◌, length, map, Option, Some, None, refl, sym, ap, subst, ◌∙◌, arith}
use Rattle.std.specs.Option.{option_map}
use Rattle.std.specs.Prelude.{slice_get}
use Rattle.std.specs.List.{AllByRecursion, AllZip, position}
use Rattle.std.proofs.lemmas.List.Quantifiers.{position-Some}
use Rattle.std.proofs.lemmas.Option.{same_Some, slice_get-map}
use Rattle.bk_device.specs.Disk.{Disk}
use Rattle.bk_engine.specs.Stands.{Kept, StandsFor}
use Rattle.bk_hosted.specs.Hosted.{Hosted, IsHosted, database_of, names}
use Rattle.bk_hosted.specs.PlaceLaws.{named-there}
use Rattle.bk_engine.specs.Hosting.{Tells, WaitsBehind}
use Rattle.bk_ids.specs.Name.{same_name}
use Rattle.bk_machine.specs.statements.Restore.{is_online}
use Rattle.bk_machine.specs.World.{Database, World, database_named, log_of}
use Rattle.bk_paths.specs.Paths.{IsPath}
use Rattle.bk_carried.specs.CopyLaws.{store_path}
use Rattle.bk_shown.specs.Shown.{ArePlaced}
use Rattle.bk_store.specs.Store.{Kept as KeptStore}
use Rattle.bk_store.specs.Told.{Told, files_of}
use Rattle.bk_engine.specs.StoresListLaws.{got, got-inside, got-none}
use Rattle.bk_engine.specs.Stores.{IsOpen}
use Rattle.bk_undo.specs.Spelled.{spelled}
use Rattle.bk_world.specs.declared.database.FileSpec.{FileSpec}
use Rattle.bk_world.specs.declared.database.Status.TheVariants.{Online}
use Rattle.bk_world.specs.Records.{Logged}

-- ---- places

all-got : {X : Type 0} (P : X → Type 0) (xs : List X) (i : ℕ) (x : X) → AllByRecursion P xs → slice_get xs i ≡ Some x → P x
all-got P [] i x all is = absurd (got-none i x is)
all-got P (y ∷ ys) zero x all is = subst P (same_Some y x is) all.0
all-got P (y ∷ ys) (suc i) x all is = all-got P ys i x all.1 is

-- an element that stands beside another
beside : {A B : Type 0} (R : A → B → Type 0) (xs : List A) (ys : List B) (i : ℕ) (y : B) → AllZip R xs ys → slice_get ys i ≡ Some y → (x : A) × (slice_get xs i ≡ Some x) × R x y
beside R [] [] i y zip is = absurd (got-none i y is)
beside R [] (b ∷ ys) i y zip is = absurd zip
beside R (a ∷ xs) [] i y zip is = absurd zip
beside R (a ∷ xs) (b ∷ ys) zero y zip is = (a, refl, subst (R a) (same_Some b y is) zip.0)
beside R (a ∷ xs) (b ∷ ys) (suc i) y zip is = beside R xs ys i y zip.1 is

-- the place of a name
pub place-of : (disk : Disk) (e : Kept) (w : World) (name : List ℕ) (db : Database) (at : ℕ) → (is : StandsFor disk e w) → position (names name) is.hosted ≡ Some at → database_named w.databases name ≡ Some db → slice_get w.databases at ≡ Some db
place-of disk e w name db at is place found =
    let h : (h : Hosted) × (slice_get is.hosted at ≡ Some h) = got is.hosted at (inside is.hosted place) in
    let same : database_of h.0 ≡ db = same_Some (database_of h.0) db (sym (named-there w name is.hosted at h.0 is.hosts place h.1).0 ∙ found) in
    ap (λ (dbs : List Database). slice_get dbs at) is.hosts.same ∙ slice_get-map database_of is.hosted at ∙ ap (λ (o : Option Hosted). option_map database_of o) h.1 ∙ ap (λ (d : Database). let some : Option Database = Some d in some) same
  where
    inside : (hs : List Hosted) → position (names name) hs ≡ Some at → at < length hs
    inside [] there = absurd (cc)
    inside (h ∷ hs) there = (position-Some (names name) (h ∷ hs) at h there).0

-- ---- logs

-- a hosted database of that name
record IsNamed (name : List ℕ) (hosted : List Hosted) (db : Database) : Type 0 where
  pub at : ℕ
  pub one : Hosted
  pub there : slice_get hosted at ≡ Some one
  pub is : database_of one ≡ db

named-in : (name : List ℕ) (hosted : List Hosted) (db : Database) → database_named (map database_of hosted) name ≡ Some db → IsNamed name hosted db
named-in name [] db is = absurd cc
named-in name (h ∷ hosted) db is = by (same_name h.spec.name name) refl (λ found. named-in name hosted db found)
  where
    by : (t : Bool) → same_name h.spec.name name ≡ t → (database_named (map database_of hosted) name ≡ Some db → IsNamed name hosted db) → IsNamed name (h ∷ hosted) db
    by true e others = record { at = zero; one = h; there = refl; is = same_Some (database_of h) db (rw e at is) }
    by false e others = let rest = others (rw e at is) in record { at = suc rest.at; one = rest.one; there = rest.there; is = rest.is }

-- The log of a database that is online is a path, and each record lies in its place.
pub record IsKeptLog (w : World) (db : Database) : Type 0 where
  pub path : IsPath (map spelled (log_of w.history db))
  pub placed : ArePlaced db.files [] (log_of w.history db)

pub found-log : (disk : Disk) (e : Kept) (w : World) (name : List ℕ) (db : Database) → StandsFor disk e w → database_named w.databases name ≡ Some db → db.status ≡ Online → IsKeptLog w db
found-log disk e w name db is found online = by slot.0 slot.1 slot.2
  where
    named : IsNamed name is.hosted db
    named = named-in name is.hosted db (subst (λ (dbs : List Database). database_named dbs name ≡ Some db) is.hosts.same found)

    log : log_of w.history db ≡ named.one.records
    log = subst (λ (d : Database). log_of w.history d ≡ named.one.records) named.is (all-got (IsHosted w.history) is.hosted named.at named.one is.hosts.each named.there).log

    tells : (t : Told) × (slice_get is.hosting.tolds named.at ≡ Some t) × Tells t named.one
    tells = beside Tells is.hosting.tolds is.hosted named.at named.one is.hosting.tells named.there

    slot : (o : Option KeptStore) × (slice_get e.hosting.stores.slots named.at ≡ Some o) × WaitsBehind o named.one
    slot = beside WaitsBehind e.hosting.stores.slots is.hosted named.at named.one is.hosting.waits named.there

    files : files_of tells.0 ≡ db.files
    files = ap (λ spec. spec.storage.files) tells.2.spec ∙ ap (λ (d : Database). d.files) named.is

    records : tells.0.records ≡ log_of w.history db
    records = tells.2.records ∙ sym log

    by : (o : Option KeptStore) → slice_get e.hosting.stores.slots named.at ≡ Some o → WaitsBehind o named.one → IsKeptLog w db
    by None filled waits =
        let up : is_online named.one.points.status ≡ true = ap (λ (d : Database). is_online d.status) named.is ∙ ap is_online online in
        let bad : true ≡ false = sym up ∙ waits.0 in
        absurd cc
    by (Some s) filled waits =
        let inside : named.at < length e.hosting.stores.master.record.databases = let less = got-inside is.hosting.tolds named.at tells.0 tells.1 in let same = is.hosting.stores.standing.entries.count in omega (arith, less, same) in
        let entry = got e.hosting.stores.master.record.databases named.at inside in
        let opened : IsOpen disk entry.0 s tells.0 = is.hosting.stores.standing.stand named.at entry.0 (Some s) tells.0 (entry.1, tells.1) filled in record {
          path = subst (λ (rs : List Logged). IsPath (map spelled rs)) records (store_path disk s tells.0 opened.store);
          placed = subst (λ (fs : List FileSpec). ArePlaced fs [] (log_of w.history db)) files (subst (λ (rs : List Logged). ArePlaced (files_of tells.0) [] rs) records opened.store.shows.placed);
        }
