-- What a crash leaves of hosted databases.
use Rattle.std.proofs.Common.{◌≡◌, ◌≤◌, ℕ, zero, suc, ◌+◌, Bool, true, false, cond, List, [], ◌∷◌, ◌++◌, map, None, Some, refl, sym, ◌∙◌, ap, subst, arith, append-nil}
use Rattle.std.specs.Prelude.{Contains}
use Rattle.std.specs.Str.{bytes_eq}
use Rattle.std.specs.List.{AllByRecursion, AllZip}
use Rattle.bk_ids.specs.Name.{same_name}
use Rattle.bk_ids.specs.declared.path.Branch.{Branch}
use Rattle.bk_known.specs.declared.known.DatabaseSpec.{DatabaseSpec}
use Rattle.bk_lemmas.specs.Lists.{all_mapped}
use Rattle.bk_machine.specs.Crash.{CutsRun, DatabaseLeft, Leaves, OfflineLeft, StatusLeft, WorldLeft, open_begins}
use Rattle.bk_machine.specs.NamedLaws.{apart-named}
use Rattle.bk_machine.specs.Outcome.{Outcome}
use Rattle.bk_machine.specs.Same.{SameMedia}
use Rattle.bk_machine.specs.Sound.{AreDifferent, Differ, IsHeld, IsSoundReading, IsSoundSet, IsSoundSlot, IsWhole, IsWholeDatabase, SetIn}
use Rattle.bk_machine.specs.Stays.{IsCutOf, IsFront, MayStay}
use Rattle.bk_machine.specs.World.{Database, World, log_of}
use Rattle.bk_machine.specs.statements.Restore.{is_online}
use Rattle.bk_world.specs.declared.database.Status.{Status}
use Rattle.bk_world.specs.declared.database.Status.TheVariants.{Down, Online, Standby}
use Rattle.bk_world.specs.declared.header.Header.{Header}
use Rattle.bk_world.specs.Cut.{end_behind, settled}
use Rattle.bk_world.specs.Lines.{log_below}
use Rattle.bk_world.specs.Medium.{Reading, Slot, medium, medium_at, readable}
use Rattle.bk_world.specs.Records.{Logged}
use Rattle.bk_world.specs.SameLaws.{same_name-refl}
use Rattle.bk_world.specs.Telling.{telling}
use Rattle.bk_hosted.specs.Fronts.{AreFronts, IsFrontOf, SameRows, settled_by, settling}
use Rattle.bk_hosted.specs.Hosted.{Hosted, Hosts, IsHosted, checkpoint_of, database_of, has_checkpoint, is_checkpoint, is_up}
use Rattle.bk_hosted.specs.PointLaws.{checkpoint-same, has-behind, has-settled, kept-same, quiet-plain}

-- ---- lists

zip-with : {A B : Type 0} (P : A → Type 0) (R S : A → B → Type 0) → ((a : A) (b : B) → P a → R a b → S a b) → (xs : List A) (ys : List B) → AllByRecursion P xs → AllZip R xs ys → AllZip S xs ys
zip-with P R S leads [] [] all zip = tt
zip-with P R S leads [] (y ∷ ys) all zip = absurd zip
zip-with P R S leads (x ∷ xs) [] all zip = absurd zip
zip-with P R S leads (x ∷ xs) (y ∷ ys) all zip = (leads x y all.0 zip.0, zip-with P R S leads xs ys all.1 zip.1)

zip-both : {A B : Type 0} (R S T : A → B → Type 0) → ((a : A) (b : B) → R a b → S a b → T a b) → (xs : List A) (ys : List B) → AllZip R xs ys → AllZip S xs ys → AllZip T xs ys
zip-both R S T leads [] [] one two = tt
zip-both R S T leads [] (y ∷ ys) one two = absurd one
zip-both R S T leads (x ∷ xs) [] one two = absurd one
zip-both R S T leads (x ∷ xs) (y ∷ ys) one two = (leads x y one.0 two.0, zip-both R S T leads xs ys one.1 two.1)

-- what each pair, with what is known of its first element, gives of that
zip-first : {A B : Type 0} (P : A → Type 0) (R : A → B → Type 0) (S : A → Type 0) → ((a : A) (b : B) → P a → R a b → S a) → (xs : List A) (ys : List B) → AllByRecursion P xs → AllZip R xs ys → AllByRecursion S xs
zip-first P R S leads [] [] all zip = tt
zip-first P R S leads [] (y ∷ ys) all zip = absurd zip
zip-first P R S leads (x ∷ xs) [] all zip = absurd zip
zip-first P R S leads (x ∷ xs) (y ∷ ys) all zip = (leads x y all.0 zip.0, zip-first P R S leads xs ys all.1 zip.1)

mapped-all : {A B : Type 0} (P : B → Type 0) (f : A → B) (xs : List A) → AllByRecursion P (map f xs) → AllByRecursion (λ (x : A). P (f x)) xs
mapped-all P f [] all = tt
mapped-all P f (x ∷ xs) all = (all.0, mapped-all P f xs all.1)

all-map : {A B : Type 0} (P : B → Type 0) (f : A → B) (xs : List A) → AllByRecursion (λ (x : A). P (f x)) xs → AllByRecursion P (map f xs)
all-map P f [] all = tt
all-map P f (x ∷ xs) all = (all.0, all-map P f xs all.1)

all-and : {A : Type 0} (P Q : A → Type 0) (xs : List A) → AllByRecursion P xs → AllByRecursion Q xs → AllByRecursion (λ (x : A). P x × Q x) xs
all-and P Q [] one two = tt
all-and P Q (x ∷ xs) one two = ((one.0, two.0), all-and P Q xs one.1 two.1)

-- ---- fronts by name

-- the records of the front of a name
abbrev front_in : List Hosted → List ℕ → List Logged
front_in [] name = []
front_in (f ∷ fs) name = cond (same_name f.spec.name name) f.records (front_in fs name)

-- a front has the name of its database
abbrev SameSpec : Hosted → Hosted → Type 0
SameSpec h f = f.spec ≡ h.spec

-- it is found by that, since databases have different names
found-fronts : (hs fs : List Hosted) → AreDifferent (map database_of hs) → AllZip SameSpec hs fs → AllZip (λ (h f : Hosted). front_in fs h.spec.name ≡ f.records) hs fs
found-fronts [] [] differ same = tt
found-fronts [] (f ∷ fs) differ same = absurd same
found-fronts (h ∷ hs) [] differ same = absurd same
found-fronts (h ∷ hs) (f ∷ fs) differ same =
    let own : same_name f.spec.name h.spec.name ≡ true = ap (λ (s : DatabaseSpec). same_name s.name h.spec.name) same.0 ∙ same_name-refl h.spec.name in (
      ap (λ t. cond t f.records (front_in fs h.spec.name)) own,
      zip-with (λ (o : Hosted). Differ (database_of h) (database_of o)) (λ (o g : Hosted). front_in fs o.spec.name ≡ g.records) (λ (o g : Hosted). front_in (f ∷ fs) o.spec.name ≡ g.records)
          (λ o g differs is.
          let apart : same_name f.spec.name o.spec.name ≡ false =
          ap (λ (s : DatabaseSpec). same_name s.name o.spec.name) same.0 ∙ apart-named h.spec.name o.spec.name differs.names in
          ap (λ t. cond t f.records (front_in fs o.spec.name)) apart ∙ is)
          hs fs (mapped-all (Differ (database_of h)) database_of hs differ.0) (found-fronts hs fs differ.1 same.1),
    )

-- ---- media

of-medium : (P : Reading → Type 0) (media : List (List ℕ × Reading)) (path : List ℕ) (r : Reading) → AllByRecursion (λ (m : List ℕ × Reading). P m.1) media → medium_at media path ≡ Some r → P r
of-medium P [] path r all is = absurd (cc)
of-medium P (m ∷ media) path r all is = by (bytes_eq m.0 path) is (of-medium P media path r all.1)
  where
    by : (t : Bool) → cond t (Some m.1) (medium_at media path) ≡ Some r → (medium_at media path ≡ Some r → P r) → P r
    by true here later = let same : m.1 ≡ r = (cc) in subst P same all.0
    by false there later = later there

of-contained : (P : Slot → Type 0) (xs : List Slot) (x : Slot) → AllByRecursion P xs → Contains xs x → P x
of-contained P [] x all there = absurd (omega (arith, there.1))
of-contained P (y ∷ xs) x all (zero, lt, is) = subst P is all.0
of-contained P (y ∷ xs) x all (suc k, lt, is) = of-contained P xs x all.1 (k, omega (arith, lt), is)

set-whole : (w : World) (path : List ℕ) (header : Header) → IsWhole w → SetIn w path header → IsSoundSet w header
set-whole w path header is there = of-contained (IsSoundSlot w) there.0 (readable header) (of-medium (IsSoundReading w) w.media path (medium there.0) is.media there.1) there.2

-- ---- what the machine's laws say

pub record CrashLaws : Type 0 where
  pub stay : (before whole cut : World) (db : Database) (kept : List Logged) → IsWholeDatabase cut db → IsCutOf before whole cut db → IsFront before cut db kept → MayStay before whole cut db kept
  pub leave : (before whole cut : World) (kept : Database → List Logged) (counter : ℕ) → IsWhole cut
      → AllByRecursion (λ (db : Database). db.status ≡ Online → MayStay before whole cut db (kept db)) cut.databases → cut.counter ≤ counter → counter ≤ cut.counter + 1024
      → (left : World) × WorldLeft before whole cut left × (left.counter ≡ counter)
      × AllZip (λ (old new : Database). old.status ≡ Online → log_of left.history new ≡ settled (kept old)) cut.databases left.databases
  pub sets : (before whole cut left : World) → IsWhole cut → WorldLeft before whole cut left → (path : List Branch) (n : ℕ) → IsHeld cut.history path n
      → log_below left.history path n ≡ log_below cut.history path n

-- ---- one database

module _ (before cut : World) (h f : Hosted) (is : IsHosted cut.history h) (front : IsFrontOf (open_begins before (database_of h)) h f) where
  -- the front may stay
  is-front : is_up h ≡ true → (kept : List Logged) → kept ≡ f.records → IsFront before cut (database_of h) kept
  is-front up kept same = subst (IsFront before cut (database_of h)) (sym same) (record {
    lost = front.lost;
    splits = is.log ∙ front.splits;
    of_open = front.of_open;
    of_some = front.of_some;
    quiet = front.quiet;
    loads = front.loads up;
  })

  lost-plain : AllByRecursion (λ (r : Logged). is_checkpoint r.deed ≡ false) front.lost
  lost-plain = all_mapped (λ (r : Logged). telling r.deed ≡ None) (λ (r : Logged). is_checkpoint r.deed ≡ false) (λ r quiet. quiet-plain r.deed quiet) front.lost front.quiet

  -- what is left of its log: settled where it can be used
  abbrev left_log : List Logged
  left_log = settled_by (is_up h) f.records

  -- it has the checkpoints of the whole log
  has-same : has_checkpoint h.points.next_checkpoint left_log ≡ has_checkpoint h.points.next_checkpoint h.records
  has-same =
      by (is_up h)
      ∙ sym (has-behind h.points.next_checkpoint f.records front.lost lost-plain)
      ∙ sym (ap (has_checkpoint h.points.next_checkpoint) front.splits)
    where
      by : (up : Bool) → has_checkpoint h.points.next_checkpoint (settled_by up f.records) ≡ has_checkpoint h.points.next_checkpoint f.records
      by true = has-settled h.points.next_checkpoint f.records
      by false = refl

  -- so it is the database that is left
  settling-is : database_of (settling f) ≡ record (database_of h) { job = None; transactions = []; end = end_behind left_log }
  settling-is =
      ap (λ (g : Hosted). database_of (settling g)) front.same
      ∙ ap (λ k. record (database_of h) { kept = k; checkpoint = checkpoint_of h.points left_log; job = None; transactions = []; end = end_behind left_log }) (kept-same h.points left_log h.records has-same)
      ∙ ap (λ c. record (database_of h) { checkpoint = c; job = None; transactions = []; end = end_behind left_log }) (checkpoint-same h.points left_log h.records has-same)

  -- nothing is lost of one that is being restored
  records-same : is_up h ≡ false → h.records ≡ f.records
  records-same down = front.splits ∙ ap (λ (lost : List Logged). f.records ++ lost) (front.whole down) ∙ append-nil f.records

  module _ (whole left : World) (new : Database) (one : DatabaseLeft before whole cut left (database_of h) new) (settles : h.points.status ≡ Online → log_of left.history new ≡ settled f.records) where
    -- its log, and its end behind that
    record IsLeft (up : Bool) : Type 0 where
      log : log_of left.history new ≡ settled_by up f.records
      end : new.end ≡ end_behind (log_of left.history new)

    offline : is_up h ≡ false → OfflineLeft cut left (database_of h) new → IsLeft false
    offline down still =
        let log : log_of left.history new ≡ h.records = still.log ∙ is.log in
        record { log = log ∙ records-same down; end = still.end ∙ ap end_behind (sym log) }

    by-status : (s : Status) → h.points.status ≡ s → StatusLeft s before whole cut left (open_begins before (database_of h)) (database_of h) new → IsLeft (is_online s)
    by-status Online is_online_is left = record { log = settles is_online_is; end = left.end }
    by-status (Standby file) is_standby left = offline (ap is_online is_standby) left
    by-status Down is_down left = offline (ap is_online is_down) left

    is-left : IsLeft (is_up h)
    is-left = by-status h.points.status refl one.log

    pub left-is : new ≡ database_of (settling f)
    left-is = one.same ∙ ap (λ n. record (database_of h) { job = None; transactions = []; end = n }) (is-left.end ∙ ap end_behind is-left.log) ∙ sym settling-is

    pub left-hosted : IsHosted left.history (settling f)
    left-hosted = record { log = ap (log_of left.history) (sym left-is) ∙ is-left.log ∙ ap (λ up. settled_by up f.records) (sym (ap is_up front.same)) }

-- ---- all of them

-- a hosted database of the cut world, and its front
record Cut (before cut : World) (kept : Database → List Logged) (h f : Hosted) : Type 0 where
  is : IsHosted cut.history h
  front : IsFrontOf (open_begins before (database_of h)) h f
  records : kept (database_of h) ≡ f.records

left-each : (before whole cut left : World) (kept : Database → List Logged) (hs fs : List Hosted) (news : List Database) → AllZip (Cut before cut kept) hs fs
    → AllZip (DatabaseLeft before whole cut left) (map database_of hs) news → AllZip (λ (old new : Database). old.status ≡ Online → log_of left.history new ≡ settled (kept old)) (map database_of hs) news
    → (news ≡ map database_of (map settling fs)) × AllByRecursion (IsHosted left.history) (map settling fs)
left-each before whole cut left kept [] [] [] cuts each logs = (refl, tt)
left-each before whole cut left kept [] [] (n ∷ news) cuts each logs = absurd each
left-each before whole cut left kept [] (f ∷ fs) news cuts each logs = absurd cuts
left-each before whole cut left kept (h ∷ hs) [] news cuts each logs = absurd cuts
left-each before whole cut left kept (h ∷ hs) (f ∷ fs) [] cuts each logs = absurd each
left-each before whole cut left kept (h ∷ hs) (f ∷ fs) (n ∷ news) cuts each logs =
    let one : Cut before cut kept h f = cuts.0 in
    let log : h.points.status ≡ Online → log_of left.history n ≡ settled f.records = λ up. logs.0 up ∙ ap settled one.records in
    let rest = left-each before whole cut left kept hs fs news cuts.1 each.1 logs.1 in
    let here : n ≡ database_of (settling f) = left-is before cut h f one.is one.front whole left n each.0 log in (
      ap (λ (d : Database). d ∷ news) here ∙ ap (λ (ds : List Database). database_of (settling f) ∷ ds) rest.0,
      (left-hosted before cut h f one.is one.front whole left n each.0 log, rest.1),
    )

-- A crash at the cut may leave a world that hosts these fronts, settled.
pub record Left (before whole cut : World) (counter : ℕ) (fronts : List Hosted) : Type 0 where
  pub world : World
  pub left : WorldLeft before whole cut world
  pub counter_is : world.counter ≡ counter
  pub hosts : Hosts world (map settling fronts)
  pub media : SameMedia cut world
  pub rows : SameRows cut world

module _ (laws : CrashLaws) (before whole cut : World) (is_whole : IsWhole cut) (at : AllByRecursion (λ (db : Database). db.status ≡ Online → IsCutOf before whole cut db) cut.databases)
    (hosted fronts : List Hosted) (hosts : Hosts cut hosted) (are : AreFronts before hosted fronts) where
  abbrev kept : Database → List Logged
  kept db = front_in fronts db.name

  found : AllZip (λ (h f : Hosted). front_in fronts h.spec.name ≡ f.records) hosted fronts
  found =
      found-fronts hosted fronts (subst AreDifferent hosts.same is_whole.different)
      (zip-with (IsHosted cut.history) (λ (h f : Hosted). IsFrontOf (open_begins before (database_of h)) h f) SameSpec (λ h f is front. ap (λ (g : Hosted). g.spec) front.same) hosted fronts hosts.each are)

  cuts : AllZip (Cut before cut kept) hosted fronts
  cuts =
      zip-both (λ (h f : Hosted). IsHosted cut.history h × IsFrontOf (open_begins before (database_of h)) h f) (λ (h f : Hosted). front_in fronts h.spec.name ≡ f.records) (Cut before cut kept)
      (λ h f one records. record { is = one.0; front = one.1; records = records }) hosted fronts
      (zip-with (IsHosted cut.history) (λ (h f : Hosted). IsFrontOf (open_begins before (database_of h)) h f) (λ (h f : Hosted). IsHosted cut.history h × IsFrontOf (open_begins before (database_of h)) h f)
      (λ h f is front. (is, front)) hosted fronts hosts.each are) found

  -- what is known of each database at the cut
  abbrev Known : Database → Type 0
  Known db = IsWholeDatabase cut db × (db.status ≡ Online → IsCutOf before whole cut db)

  known : AllByRecursion (λ (h : Hosted). Known (database_of h)) hosted
  known = mapped-all Known database_of hosted (subst (AllByRecursion Known) hosts.same (all-and (IsWholeDatabase cut) (λ (db : Database). db.status ≡ Online → IsCutOf before whole cut db) cut.databases is_whole.databases at))

  stays : AllByRecursion (λ (db : Database). db.status ≡ Online → MayStay before whole cut db (kept db)) cut.databases
  stays =
      subst (AllByRecursion (λ (db : Database). db.status ≡ Online → MayStay before whole cut db (kept db))) (sym hosts.same)
      (all-map (λ (db : Database). db.status ≡ Online → MayStay before whole cut db (kept db)) database_of hosted
      (zip-first (λ (h : Hosted). Known (database_of h)) (Cut before cut kept) (λ (h : Hosted). h.points.status ≡ Online → MayStay before whole cut (database_of h) (kept (database_of h)))
      (λ h f knows one up. laws.stay before whole cut (database_of h) (kept (database_of h)) knows.0 (knows.1 up) (is-front before cut h f one.is one.front (ap is_online up) (kept (database_of h)) one.records))
      hosted fronts known cuts))

  pub fronts-left : (counter : ℕ) → cut.counter ≤ counter → counter ≤ cut.counter + 1024 → Left before whole cut counter fronts
  fronts-left counter no_less no_more =
      let rest = laws.leave before whole cut kept counter is_whole stays no_less no_more in
      let left : World = rest.0 in
      let world : WorldLeft before whole cut left = rest.1 in
      let each = left-each before whole cut left kept hosted fronts left.databases cuts
      (subst (λ (dbs : List Database). AllZip (DatabaseLeft before whole cut left) dbs left.databases) hosts.same world.databases)
      (subst (λ (dbs : List Database). AllZip (λ (old new : Database). old.status ≡ Online → log_of left.history new ≡ settled (kept old)) dbs left.databases) hosts.same rest.3) in
      record {
        world = left;
        left = world;
        counter_is = rest.2;
        hosts = record { same = each.0; each = each.1 };
        media = record {
          instance = world.instance;
          media = world.media;
          reads = λ path header set. laws.sets before whole cut left is_whole world header.path header.last (set-whole cut path header is_whole set).held;
        };
        rows = record { backups = world.backups; restores = world.restores; marks = world.marks };
      }

-- ---- runs

-- what a crash may leave of a run that was cut there
abbrev pub LeavesHosted : World → List Outcome → ℕ → World → ℕ → List Hosted → Type 0
LeavesHosted old outcomes least cut counter fronts = (left : World) × Leaves old outcomes least left × (left.counter ≡ counter) × Hosts left (map settling fronts) × SameMedia cut left × SameRows cut left

pub left-of-run : (old : World) (outcomes : List Outcome) (least : ℕ) (before cut whole : World) (counter : ℕ) (fronts : List Hosted) → CutsRun old outcomes least before cut whole → Left before whole cut counter fronts
    → LeavesHosted old outcomes least cut counter fronts
left-of-run old outcomes least before cut whole counter fronts cuts is =
    (is.world, record { before = before; cut = cut; whole = whole; cuts = cuts; world = is.left }, is.counter_is, is.hosts, is.media, is.rows)
