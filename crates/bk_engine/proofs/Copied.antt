-- The database of a world at a place, and the hosted one.
use Rattle.std.proofs.Common.{◌≡◌, ◌<◌, ℕ, zero, suc, true, false, List, [], ◌∷◌, length, map, Option, Some, None, refl, sym, ap, subst, ◌∙◌, arith}
use Rattle.std.specs.Option.{option_map}
use Rattle.std.specs.Prelude.{slice_get}
use Rattle.std.specs.List.{AllByRecursion, AllZip}
use Rattle.std.proofs.lemmas.Option.{same_Some, slice_get-map}
use Rattle.bk_device.specs.Disk.{Disk}
use Rattle.bk_hosted.specs.Hosted.{Hosted, Hosts, IsHosted, database_of}
use Rattle.bk_hosting.specs.Hosting.{Tells, WaitsBehind}
use Rattle.bk_machine.specs.World.{Database, World, log_of}
use Rattle.bk_machine.specs.statements.Restore.{is_online}
use Rattle.bk_store.specs.Store.{Kept as KeptStore}
use Rattle.bk_store.specs.Told.{Told, data_file}
use Rattle.bk_stores.specs.ListLaws.{got, got-inside, got-none, got-one}
use Rattle.bk_stores.specs.Stores.{IsOpen}
use Rattle.bk_world.specs.declared.database.Status.TheVariants.{Online}
use Rattle.bk_engine.specs.Copying.{IsToldOf}
use Rattle.bk_engine.specs.Stands.{Kept, StandsFor}

-- the one that the world's database is
pub record IsThere (w : World) (hosted : List Hosted) (at : ℕ) (db : Database) : Type 0 where
  pub one : Hosted
  pub there : slice_get hosted at ≡ Some one
  pub is : database_of one ≡ db
  pub log : log_of w.history db ≡ one.records

all-got : {X : Type 0} (P : X → Type 0) (xs : List X) (i : ℕ) (x : X) → AllByRecursion P xs → slice_get xs i ≡ Some x → P x
all-got P [] i x all is = absurd (got-none i x is)
all-got P (y ∷ ys) zero x all is = subst P (same_Some y x is) all.0
all-got P (y ∷ ys) (suc i) x all is = all-got P ys i x all.1 is

mapped : (hosted : List Hosted) (at : ℕ) (db : Database) → slice_get (map database_of hosted) at ≡ Some db → (h : Hosted) × (slice_get hosted at ≡ Some h) × (database_of h ≡ db)
mapped hosted at db is = by (slice_get hosted at) refl
  where
    by : (o : Option Hosted) → slice_get hosted at ≡ o → (h : Hosted) × (slice_get hosted at ≡ Some h) × (database_of h ≡ db)
    by None none = absurd (nothing (sym (slice_get-map database_of hosted at ∙ ap (λ (o : Option Hosted). option_map database_of o) none) ∙ is))
      where
        nothing : None ≡ Some db → ⊥
        nothing e = cc
    by (Some h) some = (h, some, same_Some (database_of h) db (sym (slice_get-map database_of hosted at ∙ ap (λ (o : Option Hosted). option_map database_of o) some) ∙ is))

pub there-is : (w : World) (hosted : List Hosted) (at : ℕ) (db : Database) → Hosts w hosted → slice_get w.databases at ≡ Some db → IsThere w hosted at db
there-is w hosted at db hosts is =
    let one = mapped hosted at db (subst (λ (dbs : List Database). slice_get dbs at ≡ Some db) hosts.same is) in
    record {
      one = one.0;
      there = one.1;
      is = one.2;
      log = subst (λ (d : Database). log_of w.history d ≡ one.0.records) one.2 (all-got (IsHosted w.history) hosted at one.0 hosts.each one.1).log;
    }

pub told-there : (w : World) (db : Database) (told : Told) (hosted : List Hosted) (at : ℕ) → (there : IsThere w hosted at db) → Tells told there.one → IsToldOf w db told
told-there w db told hosted at there tells = record {
  files = ap (λ spec. spec.storage.files) tells.spec ∙ ap (λ (d : Database). d.files) there.is;
  records = tells.records ∙ sym there.log;
}

-- ---- its data files

-- an element that stands beside another
beside : {A B : Type 0} (R : A → B → Type 0) (xs : List A) (ys : List B) (i : ℕ) (y : B) → AllZip R xs ys → slice_get ys i ≡ Some y → (x : A) × (slice_get xs i ≡ Some x) × R x y
beside R [] [] i y zip is = absurd (got-none i y is)
beside R [] (b ∷ ys) i y zip is = absurd zip
beside R (a ∷ xs) [] i y zip is = absurd zip
beside R (a ∷ xs) (b ∷ ys) zero y zip is = (a, refl, subst (R a) (same_Some b y is) zip.0)
beside R (a ∷ xs) (b ∷ ys) (suc i) y zip is = beside R xs ys i y zip.1 is

-- those of an open store are those of the database
pub files-there : (disk : Disk) (e : Kept) (w : World) (at : ℕ) (db : Database) (s : KeptStore) → StandsFor disk e w → slice_get w.databases at ≡ Some db → slice_get e.hosting.stores.slots at ≡ Some (Some s) → s.paged.facts.files ≡ map data_file db.files
files-there disk e w at db s is here filled =
    let there = there-is w is.hosted at db is.hosts here in
    let one = beside Tells is.hosting.tolds is.hosted at there.one is.hosting.tells there.there in
    let inside : at < length e.hosting.stores.master.record.databases = let less = got-inside is.hosting.tolds at one.0 one.1 in let same = is.hosting.stores.standing.entries.count in omega (arith, less, same) in
    let entry = got e.hosting.stores.master.record.databases at inside in
    let opened : IsOpen disk entry.0 s one.0 = is.hosting.stores.standing.stand at entry.0 (Some s) one.0 (entry.1, one.1) filled in
    opened.store.paged.files ∙ ap (λ spec. map data_file spec.storage.files) one.2.spec ∙ ap (λ (d : Database). map data_file d.files) there.is

-- and a database that is online has an open store
pub open-there : (disk : Disk) (e : Kept) (w : World) (at : ℕ) (db : Database) → StandsFor disk e w → slice_get w.databases at ≡ Some db → db.status ≡ Online → slice_get e.hosting.stores.slots at ≡ Some None → ⊥
open-there disk e w at db is here online shut =
    let there = there-is w is.hosted at db is.hosts here in
    let one = beside WaitsBehind e.hosting.stores.slots is.hosted at there.one is.hosting.waits there.there in
    let waits : WaitsBehind None there.one = subst (λ (o : Option KeptStore). WaitsBehind o there.one) (got-one e.hosting.stores.slots at one.0 None one.1 shut) one.2 in
    let up : is_online there.one.points.status ≡ true = ap (λ (d : Database). is_online d.status) there.is ∙ ap is_online online in
    let bad : true ≡ false = sym up ∙ waits.0 in
    absurd cc
