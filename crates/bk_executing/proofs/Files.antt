-- Data files of databases in memory have names of their own where their paths are free.
use Rattle.std.proofs.Common.{◌≡◌, ◌≢◌, ℕ, zero, suc, Bool, true, false, List, [], ◌∷◌, length, map, Option, Some, None, Ok, refl, sym, ◌∙◌, ap, subst, arith}
use Rattle.std.specs.Prelude.{◌||◌, not, slice_get}
use Rattle.std.specs.List.{AllByRecursion, AllZip}
use Rattle.std.specs.Str.{bytes_eq}
use Rattle.std.proofs.lemmas.List.Folds.{list_any-append}
use Rattle.std.proofs.lemmas.Option.{same_Some}
use Rattle.std.proofs.lemmas.Slice.Eq.{bytes_eq-Decides}
use Rattle.bk_archive.specs.TextLaws.{text-bytes}
use Rattle.bk_bytes.specs.Field.{AreBytes}
use Rattle.bk_device.specs.Disk.{Disk}
use Rattle.bk_engine.specs.Acts.{HaveNoFileOf}
use Rattle.bk_engine.specs.Bringing.{HaveNoneOf, files_on}
use Rattle.bk_engine.specs.Stands.{Kept, StandsFor}
use Rattle.bk_hosted.specs.Hosted.{Hosted, database_of, set_storage}
use Rattle.bk_engine.specs.Hosting.{Tells, WaitsBehind}
use Rattle.bk_known.specs.declared.known.DatabaseSpec.{DatabaseSpec}
use Rattle.bk_known.specs.declared.known.Known.{Known}
use Rattle.bk_lemmas.specs.Lists.{all_mapped, filter_every}
use Rattle.bk_lemmas.specs.Tests.{clash, first_false}
use Rattle.bk_machine.specs.Acts.{done, replaced, taken_over}
use Rattle.bk_machine.specs.Checks.{free_paths, has_path, others, paths_of}
use Rattle.bk_machine.specs.CheckLaws.{second-false}
use Rattle.bk_machine.specs.NamedLaws.{apart-named, named-same}
use Rattle.bk_machine.specs.Sound.{AreDifferent, Differ}
use Rattle.bk_machine.specs.World.{Database, World, with_new_database}
use Rattle.bk_machine.specs.statements.Restore.{is_online, set_paths}
use Rattle.bk_ids.specs.Name.{lowered, same_name}
use Rattle.bk_master.specs.declared.record.Entry.{Entry}
use Rattle.bk_paged.specs.Names.{names_of}
use Rattle.bk_side.specs.Names.{IsData}
use Rattle.bk_side.specs.Names as side
use Rattle.bk_storage.specs.Storage.{IsSpec}
use Rattle.bk_store.specs.Store.{Kept as KeptStore}
use Rattle.bk_store.specs.Told.{IsNoted, Told, data_file}
use Rattle.bk_stores.specs.Beside.{ShareNoFile}
use Rattle.bk_stores.specs.ListLaws.{got-none}
use Rattle.bk_stores.specs.Stores.{HoldsBy, IsSlot, SlotsStand}
use Rattle.bk_world.specs.declared.database.Creation.{Creation}
use Rattle.bk_world.specs.declared.database.FileSpec.{FileSpec}
use Rattle.bk_world.specs.declared.header.Header.{Header}
use Rattle.bk_world.specs.declared.header.HeaderFile.{HeaderFile}

-- ---- paths of databases have a spelling

abbrev pub HaveBytes : List FileSpec → Type 0
HaveBytes files = AllByRecursion (λ (f : FileSpec). AreBytes f.path) files

pub specs-bytes : (files : List FileSpec) → AllByRecursion IsSpec files → HaveBytes files
specs-bytes files are = all_mapped IsSpec (λ (f : FileSpec). AreBytes f.path) (λ f is. text-bytes f.path is.path.utf8) files are

noted-bytes : (told : Told) (h : Hosted) (known : Known) → IsNoted known told → Tells told h → HaveBytes h.spec.storage.files
noted-bytes told h known noted tells = subst (λ (spec : DatabaseSpec). HaveBytes spec.storage.files) (noted.spec ∙ tells.spec) (specs-bytes known.spec.storage.files noted.spelled.spec.storage.files.1)

slot-bytes : (disk : Disk) (e : Entry) (slot : Option KeptStore) (t : Told) (h : Hosted) → IsSlot disk e slot t → Tells t h → HaveBytes h.spec.storage.files
slot-bytes disk e (Some s) t h stands tells = noted-bytes t h s.known stands.store.noted tells
slot-bytes disk e None t h stands tells = by e.is_stored stands.holds
  where
    by : (b : Bool) → HoldsBy b e.store t disk.files → HaveBytes h.spec.storage.files
    by true holds = noted-bytes t h holds.known holds.noted tells
    by false holds = noted-bytes t h holds.known holds.noted tells

abbrev Stand : Disk → List Entry → List (Option KeptStore) → List Told → Type 0
Stand disk entries slots tolds = (length tolds ≡ length entries) × SlotsStand disk entries slots tolds

less : (disk : Disk) (e : Entry) (entries : List Entry) (slot : Option KeptStore) (slots : List (Option KeptStore)) (t : Told) (tolds : List Told) → Stand disk (e ∷ entries) (slot ∷ slots) (t ∷ tolds) → Stand disk entries slots tolds
less disk e entries slot slots t tolds stand = (let same = stand.0 in omega (arith, same), λ i f s u at there. stand.1 (suc i) f s u at there)

each-bytes : (disk : Disk) (entries : List Entry) (slots : List (Option KeptStore)) (tolds : List Told) (hosted : List Hosted) → Stand disk entries slots tolds → AllZip Tells tolds hosted → AllZip WaitsBehind slots hosted
    → AllByRecursion (λ (db : Database). HaveBytes db.files) (map database_of hosted)
each-bytes disk entries [] tolds [] stand tells waits = tt
each-bytes disk entries [] tolds (h ∷ hosted) stand tells waits = absurd waits
each-bytes disk entries (slot ∷ slots) tolds [] stand tells waits = tt
each-bytes disk entries (slot ∷ slots) [] (h ∷ hosted) stand tells waits = absurd tells
each-bytes disk [] (slot ∷ slots) (t ∷ tolds) (h ∷ hosted) stand tells waits = absurd (let same = stand.0 in omega (arith, same))
each-bytes disk (e ∷ entries) (slot ∷ slots) (t ∷ tolds) (h ∷ hosted) stand tells waits =
    (slot-bytes disk e slot t h (stand.1 zero e slot t (refl, refl) refl) tells.0, each-bytes disk entries slots tolds hosted (less disk e entries slot slots t tolds stand) tells.1 waits.1)

pub world-bytes : (disk : Disk) (e : Kept) (w : World) → StandsFor disk e w → AllByRecursion (λ (db : Database). HaveBytes db.files) w.databases
world-bytes disk e w is =
    subst (λ (dbs : List Database). AllByRecursion (λ (db : Database). HaveBytes db.files) dbs) (sym is.hosts.same)
    (each-bytes disk e.hosting.stores.master.record.databases e.hosting.stores.slots is.hosting.tolds is.hosted (is.hosting.stores.standing.entries.count, is.hosting.stores.standing.stand) is.hosting.tells is.hosting.waits)

-- ---- free paths

-- different paths have different names
abbrev pub NameLaw : Type 0
NameLaw = (path other : List ℕ) → AreBytes path → AreBytes other → side.data_file path ≡ side.data_file other → path ≡ other

-- a name of data files is that of one of them
named-file : (files : List FileSpec) (name : List ℕ) → IsData (names_of (map data_file files)) name → (i : ℕ) × (f : FileSpec) × (slice_get files i ≡ Some f) × (side.data_file f.path ≡ name)
named-file files name (zero, is) = absurd (none is)
  where
    none : None ≡ Some name → ⊥
    none e = cc
named-file files name (suc i, is) = by files i is
  where
    by : (fs : List FileSpec) (j : ℕ) → slice_get (names_of (map data_file fs)) j ≡ Some name → (k : ℕ) × (f : FileSpec) × (slice_get fs k ≡ Some f) × (side.data_file f.path ≡ name)
    by [] j there = absurd (got-none j name there)
    by (f ∷ fs) zero there = (0, f, refl, same_Some (side.data_file f.path) name there)
    by (f ∷ fs) (suc j) there = let later = by fs j there in (suc later.0, later.1, later.2, later.3)

has-bytes : (files : List FileSpec) (i : ℕ) (f : FileSpec) → HaveBytes files → slice_get files i ≡ Some f → AreBytes f.path
has-bytes [] i f bytes there = absurd (got-none i f there)
has-bytes (g ∷ files) zero f bytes there = subst (λ (x : FileSpec). AreBytes x.path) (same_Some g f there) bytes.0
has-bytes (g ∷ files) (suc i) f bytes there = has-bytes files i f bytes.1 there

-- a path that is used is found
path-found : (used : List FileSpec) (i : ℕ) (g : FileSpec) (path : List ℕ) → slice_get used i ≡ Some g → g.path ≡ path → has_path (map (λ (f : FileSpec). f.path) used) path ≡ true
path-found [] i g path there same = absurd (got-none i g there)
path-found (f ∷ used) zero g path there same =
    let here : bytes_eq f.path path ≡ true = (bytes_eq-Decides f.path path).1 (ap (λ (x : FileSpec). x.path) (same_Some f g there) ∙ same) in
    rw here refl
path-found (f ∷ used) (suc i) g path there same = by (bytes_eq f.path path) (path-found used i g path there same)
  where
    by : (b : Bool) → has_path (map (λ (f : FileSpec). f.path) used) path ≡ true → (b || has_path (map (λ (f : FileSpec). f.path) used) path) ≡ true
    by true later = refl
    by false later = later

abbrev path_of : FileSpec → List ℕ
path_of f = f.path

-- data files with other paths have other names
share-none : NameLaw → (files used : List FileSpec) → HaveBytes files → HaveBytes used → ((i : ℕ) (f : FileSpec) → slice_get files i ≡ Some f → has_path (map path_of used) f.path ≡ false) → ShareNoFile (map data_file files) (map data_file used)
share-none law files used bytes used_bytes free name one other =
    let a = named-file files name one in
    let b = named-file used name other in
    let same : a.1.path ≡ b.1.path = law a.1.path b.1.path (has-bytes files a.0 a.1 bytes a.2) (has-bytes used b.0 b.1 used_bytes b.2) (a.3 ∙ sym b.3) in
    clash (has_path (map path_of used) a.1.path) (path-found used b.0 b.1 a.1.path b.2 (sym same)) (free a.0 a.1 a.2)

free-each : (used : List (List ℕ)) (files : List FileSpec) → free_paths used (map path_of files) ≡ Ok tt → (i : ℕ) (f : FileSpec) → slice_get files i ≡ Some f → has_path used f.path ≡ false
free-each used [] free i f there = absurd (got-none i f there)
free-each used (g ∷ files) free i f there = by (has_path used g.path) refl free (λ rest j at. free-each used files rest j f at) i there
  where
    Later : Type 0
    Later = free_paths used (map path_of files) ≡ Ok tt → (j : ℕ) → slice_get files j ≡ Some f → has_path used f.path ≡ false

    at-each : has_path used g.path ≡ false → free_paths used (map path_of files) ≡ Ok tt → Later → (j : ℕ) → slice_get (g ∷ files) j ≡ Some f → has_path used f.path ≡ false
    at-each is rest later zero at = subst (λ (x : FileSpec). has_path used x.path ≡ false) (same_Some g f at) is
    at-each is rest later (suc j) at = later rest j at

    by : (b : Bool) → has_path used g.path ≡ b → free_paths used (map path_of (g ∷ files)) ≡ Ok tt → Later → (j : ℕ) → slice_get (g ∷ files) j ≡ Some f → has_path used f.path ≡ false
    by true is = rw is (λ bad later j at. absurd (cc))
    by false is = rw is (λ rest later j at. at-each is rest later j at)

-- a path that no database uses isn't used by one of them
parts-free : (db : Database) (dbs : List Database) (path : List ℕ) → has_path (paths_of (db ∷ dbs)) path ≡ false → (has_path (map path_of db.files) path ≡ false) × (has_path (paths_of dbs) path ≡ false)
parts-free db dbs path free =
    let both : (has_path (map path_of db.files) path || has_path (paths_of dbs) path) ≡ false = sym (list_any-append (λ other. bytes_eq other path) (map path_of db.files) (paths_of dbs)) ∙ free in
    (first_false (has_path (map path_of db.files) path) (has_path (paths_of dbs) path) both, second-false (has_path (map path_of db.files) path) (has_path (paths_of dbs) path) both)

abbrev FreeOf : List FileSpec → List Database → Type 0
FreeOf files dbs = (i : ℕ) (f : FileSpec) → slice_get files i ≡ Some f → has_path (paths_of dbs) f.path ≡ false

have-none : NameLaw → (files : List FileSpec) (dbs : List Database) → HaveBytes files → AllByRecursion (λ (db : Database). HaveBytes db.files) dbs → FreeOf files dbs
    → AllByRecursion (λ (db : Database). ShareNoFile (map data_file files) (map data_file db.files)) dbs
have-none law files [] bytes all free = tt
have-none law files (db ∷ dbs) bytes all free = (
  share-none law files db.files bytes all.0 (λ i f there. (parts-free db dbs f.path (free i f there)).0),
  have-none law files dbs bytes all.1 (λ i f there. (parts-free db dbs f.path (free i f there)).1),
)

-- a database that is made shares none
pub no-file-of : NameLaw → (disk : Disk) (e : Kept) (w : World) (c : Creation) → StandsFor disk e w → HaveBytes c.storage.files → free_paths (paths_of w.databases) (map path_of c.storage.files) ≡ Ok tt → HaveNoFileOf w c
no-file-of law disk e w c is bytes free = have-none law c.storage.files w.databases bytes (world-bytes disk e w is) (free-each (paths_of w.databases) c.storage.files free)

-- ---- a set that takes a database's place

others-same : (db : Database) (dbs : List Database) (name : List ℕ) → same_name db.name name ≡ true → others (db ∷ dbs) name ≡ others dbs name
others-same db dbs name is = rw is refl

others-apart : (db : Database) (dbs : List Database) (name : List ℕ) → same_name db.name name ≡ false → others (db ∷ dbs) name ≡ db ∷ others dbs name
others-apart db dbs name is = rw is refl

others-all : (dbs : List Database) (name : List ℕ) → AllByRecursion (λ (d : Database). lowered d.name ≢ lowered name) dbs → others dbs name ≡ dbs
others-all dbs name apart = filter_every (λ (db : Database). not (same_name db.name name)) dbs (all_mapped (λ (d : Database). lowered d.name ≢ lowered name) (λ (d : Database). not (same_name d.name name) ≡ true) (λ d differs. ap not (apart-named d.name name differs)) dbs apart)

-- no database that can be used has a data file of the set's
abbrev UsesNone : Header → Database → Type 0
UsesNone header db = is_online db.status ≡ true → ShareNoFile (files_on header) (map data_file db.files)

abbrev specs_on : Header → List FileSpec
specs_on header = (set_storage header).files

down-uses : (name : List ℕ) (header : Header) → UsesNone header (taken_over name header)
down-uses name header up = absurd (cc)

none-placed : NameLaw → (dbs : List Database) (name : List ℕ) (header : Header) → HaveBytes (specs_on header) → AllByRecursion (λ (db : Database). HaveBytes db.files) dbs → AreDifferent dbs → FreeOf (specs_on header) (others dbs name)
    → AllByRecursion (UsesNone header) (with_new_database dbs (taken_over name header))
none-placed law [] name header bytes all different free = (down-uses name header, tt)
none-placed law (db ∷ dbs) name header bytes all different free = by (same_name db.name name) refl (none-placed law dbs name header bytes all.1 different.1)
  where
    Later : Type 0
    Later = FreeOf (specs_on header) (others dbs name) → AllByRecursion (UsesNone header) (with_new_database dbs (taken_over name header))

    by : (b : Bool) → same_name db.name name ≡ b → Later → AllByRecursion (UsesNone header) (with_new_database (db ∷ dbs) (taken_over name header))
    by true is later =
        let apart = all_mapped (Differ db) (λ (d : Database). lowered d.name ≢ lowered name) (λ d differs same. differs.names (named-same db.name name is ∙ sym same)) dbs different.0 in
        let free' : FreeOf (specs_on header) dbs = subst (FreeOf (specs_on header)) (others-same db dbs name is ∙ others-all dbs name apart) free in
        rw is (
          down-uses name header,
          all_mapped (λ (d : Database). ShareNoFile (files_on header) (map data_file d.files)) (UsesNone header) (λ d shares up. shares) dbs (have-none law (specs_on header) dbs bytes all.1 free'),
        )
    by false is later =
        let free' : FreeOf (specs_on header) (db ∷ others dbs name) = subst (FreeOf (specs_on header)) (others-apart db dbs name is) free in
        rw is (
          (λ up. share-none law (specs_on header) db.files bytes all.0 (λ i f there. (parts-free db (others dbs name) f.path (free' i f there)).0)),
          later (λ i f there. (parts-free db (others dbs name) f.path (free' i f there)).1),
        )

paths-same : (files : List HeaderFile) → map (λ (file : HeaderFile). file.spec.path) files ≡ map path_of (map (λ (file : HeaderFile). file.spec) files)
paths-same [] = refl
paths-same (f ∷ files) = ap (λ (ps : List (List ℕ)). f.spec.path ∷ ps) (paths-same files)

pub none-of-set : NameLaw → (disk : Disk) (e : Kept) (w : World) (name : List ℕ) (header : Header) → StandsFor disk e w → HaveBytes (specs_on header) → free_paths (paths_of (others w.databases name)) (set_paths header) ≡ Ok tt
    → HaveNoneOf (done w (replaced name header)) header
unfolding done
none-of-set law disk e w name header is bytes free =
    none-placed law w.databases name header bytes (world-bytes disk e w is) is.sound.whole.different
    (free-each (paths_of (others w.databases name)) (specs_on header) (subst (λ (ps : List (List ℕ)). free_paths (paths_of (others w.databases name)) ps ≡ Ok tt) (paths-same header.files) free))
