-- A run ends in which nothing is open and no backup runs: then each database is as it is settled.
use Rattle.std.proofs.Common.{◌≡◌, inr, ℕ, true, List, [], ◌∷◌, map, Option, None, refl, sym, ap, subst, ◌∙◌}
use Rattle.std.proofs.lemmas.List.{append-nil}
use Rattle.std.specs.List.{AllByRecursion}
use Rattle.bk_archive.specs.Media.{KeepsMedia}
use Rattle.bk_archive.specs.MediaLaws.{media-on}
use Rattle.bk_device.specs.Disk.{Files}
use Rattle.bk_hosted.specs.Fronts.{settled_by, settling}
use Rattle.bk_hosted.specs.Hosted.{Hosted, Hosts, IsHosted, database_of}
use Rattle.bk_hosting.specs.Hosting.{HoldsHosted, LeavesHosted}
use Rattle.bk_machine.specs.declared.job.Job.{Job}
use Rattle.bk_machine.specs.Sound.{AreIdle, IsIdle, IsSound, OpenBy, has_begin}
use Rattle.bk_machine.specs.World.{Database, World, ended}
use Rattle.bk_machine.specs.statements.Restore.{is_online}
use Rattle.bk_master.specs.declared.record.Own.{Own}
use Rattle.bk_world.specs.declared.database.Status.{Status}
use Rattle.bk_world.specs.declared.database.Status.TheVariants.{Down, Online, Standby}
use Rattle.bk_world.specs.declared.transaction.Open.{Open}
use Rattle.bk_world.specs.Cut.{end_behind, settled}
use Rattle.bk_world.specs.Lines.{RecordLines}
use Rattle.bk_world.specs.Pending.{Pending, PendingRise, pending}
use Rattle.bk_world.specs.Records.{Logged, more}
use Rattle.bk_world.specs.Says.{settle_said}
use Rattle.bk_msdb.specs.Msdb.{Shows}
use Rattle.bk_engine.specs.Rows.{rows_in}
use Rattle.bk_engine.specs.LoadLaws.{none-lost, none-open}
use Rattle.bk_engine.specs.Loading.{PendsInOrder, Stands}

-- ---- one database

nothing-settled : (rs : List Logged) → pending rs ≡ [] → settled rs ≡ rs
unfolding settled
nothing-settled rs none = ap (λ (ws : List Pending). more rs (end_behind rs) (settle_said ws)) none ∙ append-nil rs

none-pends : (ws : List Pending) → AllByRecursion (λ (w : Pending). has_begin [] w.begin ≡ true) ws → ws ≡ []
none-pends [] all = refl
none-pends (w ∷ ws) all = absurd (none-open w.begin all.0)

-- where nothing is open in it, nothing is pending
idle-pends : (lines : RecordLines) (h : Hosted) → IsHosted lines h → OpenBy lines (database_of h) → h.transactions ≡ [] → h.points.status ≡ Online → pending h.records ≡ []
idle-pends lines h is opens idle online =
    let all : AllByRecursion (λ (w : Pending). has_begin h.transactions w.begin ≡ true) (pending h.records) =
    subst (λ (rs : List Logged). AllByRecursion (λ (w : Pending). has_begin h.transactions w.begin ≡ true) (pending rs)) is.log (opens.online online).pending in
    none-pends (pending h.records) (subst (λ (ts : List Open). AllByRecursion (λ (w : Pending). has_begin ts w.begin ≡ true) (pending h.records)) idle all)

-- and it is as it is settled, where no backup of it runs
idle-settles : (lines : RecordLines) (h : Hosted) → IsHosted lines h → OpenBy lines (database_of h) → h.job ≡ None → h.transactions ≡ [] → settling h ≡ h
idle-settles lines h is opens none idle = by h.points.status refl
  where
    rests : (status : Status) → h.points.status ≡ status → settled_by (is_online status) h.records ≡ h.records → settling h ≡ h
    rests status same whole =
        ap (λ (s : Status). record h { records = settled_by (is_online s) h.records; job = None; transactions = [] }) same
        ∙ ap (λ (rs : List Logged). record h { records = rs; job = None; transactions = [] }) whole
        ∙ ap (λ (o : Option Job). record h { job = o; transactions = [] }) (sym none)
        ∙ ap (λ (ts : List Open). record h { transactions = ts }) (sym idle)

    by : (status : Status) → h.points.status ≡ status → settling h ≡ h
    by Online same = rests Online same (nothing-settled h.records (idle-pends lines h is opens idle same))
    by (Standby file) same = rests (Standby file) same refl
    by Down same = rests Down same refl

idle-order : (lines : RecordLines) (h : Hosted) → IsHosted lines h → OpenBy lines (database_of h) → h.transactions ≡ [] → PendsInOrder h
idle-order lines h is opens idle = λ up. subst PendingRise (sym (idle-pends lines h is opens idle (online h.points.status up))) tt
  where
    online : (status : Status) → is_online status ≡ true → status ≡ Online
    online Online up = refl
    online (Standby file) up = absurd cc
    online Down up = absurd cc

-- ---- all of them

all-settled : (lines : RecordLines) (hosted : List Hosted) → AllByRecursion (IsHosted lines) hosted → AllByRecursion (OpenBy lines) (map database_of hosted) → AllByRecursion IsIdle (map database_of hosted) → map settling hosted ≡ hosted
all-settled lines [] hosts opens idle = refl
all-settled lines (h ∷ hosted) hosts opens idle =
    ap (λ (x : Hosted). x ∷ map settling hosted) (idle-settles lines h hosts.0 opens.0 idle.0.job idle.0.transactions) ∙ ap (λ (xs : List Hosted). h ∷ xs) (all-settled lines hosted hosts.1 opens.1 idle.1)

all-order : (lines : RecordLines) (hosted : List Hosted) → AllByRecursion (IsHosted lines) hosted → AllByRecursion (OpenBy lines) (map database_of hosted) → AllByRecursion IsIdle (map database_of hosted) → AllByRecursion PendsInOrder hosted
all-order lines [] hosts opens idle = tt
all-order lines (h ∷ hosted) hosts opens idle = (idle-order lines h hosts.0 opens.0 idle.0.transactions, all-order lines hosted hosts.1 opens.1 idle.1)

all-idle : (hosted : List Hosted) → AllByRecursion IsIdle (map database_of hosted) → AllByRecursion (λ (h : Hosted). h.transactions ≡ []) hosted
all-idle [] idle = tt
all-idle (h ∷ hosted) idle = (idle.0.transactions, all-idle hosted idle.1)

-- what a crash leaves of a run in which nothing is open stands for the world in which the run has ended, where no more GUIDs are reserved than are drawn
pub ended-stands : (number : ℕ) (w : World) (own : Own) (hosted : List Hosted) (image : Files) → IsSound w → IsSound (ended w) → AreIdle w → w.instance ≡ own.number → w.counter ≡ own.counter → Hosts w hosted → Hosts (ended w) hosted → own.making ≡ None → LeavesHosted own hosted image → KeepsMedia w own.making image → Shows image (rows_in w) → Stands number image (ended w)
unfolding ended rows_in
ended-stands number w own hosted image sound ends idle instance counter hosts rest none left media rows =
    let opens : AllByRecursion (OpenBy w.history) (map database_of hosted) = subst (λ (dbs : List Database). AllByRecursion (OpenBy w.history) dbs) hosts.same sound.opens in
    let idles : AllByRecursion IsIdle (map database_of hosted) = subst (λ (dbs : List Database). AllByRecursion IsIdle dbs) hosts.same idle in
    record {
      sound = ends;
      own = own;
      instance = instance;
      counter = counter;
      hosted = hosted;
      pends = all-order w.history hosted hosts.each opens idles;
      hosts = subst (Hosts (ended w)) (sym (all-settled w.history hosted hosts.each opens idles)) rest;
      holds = inr (subst (HoldsHosted own image) (none-lost hosted left.0 (all-idle hosted idles) left.1) left.2);
      media = media-on w (ended w) own.making image refl (λ path header in_it. refl) media;
      rows = rows;
      finished = λ closed. none;
    }
