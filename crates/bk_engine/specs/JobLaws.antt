-- A backup that runs beside the sessions starts, goes on or ends in memory alone.
use Rattle.std.proofs.Common.{◌≡◌, ◌∙◌, ℕ, Bool, true, false, cond, List, [], ◌∷◌, map, Option, None, refl, sym, ap, subst}
use Rattle.std.specs.List.{AllByRecursion, AllZip}
use Rattle.bk_archive.specs.MediaLaws.{media-on}
use Rattle.bk_device.specs.Disk.{Disk, Files}
use Rattle.bk_hosted.specs.Hosted.{Hosted, Hosts, IsHosted, database_of, running}
use Rattle.bk_ids.specs.Name.{same_name}
use Rattle.bk_hosting.specs.Hosting.{own_of, state_of, Kept as KeptHosting}
use Rattle.bk_hosting.specs.JobLaws.{hosting-but, leaves-but}
use Rattle.bk_hosting.specs.Jobs.{AreButJobs}
use Rattle.bk_machine.specs.Acts.{done, job_set, jobs_dropped, with_job}
use Rattle.bk_machine.specs.declared.job.Job.{Job}
use Rattle.bk_machine.specs.Sound.{IsSound}
use Rattle.bk_machine.specs.World.{Database, World, log_of, with_database}
use Rattle.bk_world.specs.Lines.{RecordLines}
use Rattle.bk_stores.specs.Stores.{Kept as KeptStores}
use Rattle.bk_engine.specs.Copied.{AreCopied}
use Rattle.bk_engine.specs.RowLaws.{calm-on}
use Rattle.bk_engine.specs.Rows.{rows_in}
use Rattle.bk_engine.specs.Stands.{Covers, Kept, StandsFor}

-- what hosts the same databases with other backups stands for a world in which nothing else differs
module _ (disk : Disk) (e : Kept) (x : KeptHosting) (w : World) (others : List Hosted) (is : StandsFor disk e w) (but : AreButJobs is.hosted others) (stores : x.stores ≡ e.hosting.stores) (states : x.states ≡ map state_of others) where
  same-number : w.instance ≡ (own_of x).number
  same-number = is.instance ∙ sym (ap (λ (s : KeptStores). s.master.record.own.number) stores)

  pub job-stands : (name : List ℕ) (job : Option Job) → IsSound (done w (job_set name job)) → Hosts (done w (job_set name job)) others → AreCopied disk others → StandsFor disk (record e { hosting = x }) (done w (job_set name job))
  unfolding done rows_in
  job-stands name job sound hosts copied = record {
    sound = sound;
    instance = same-number;
    counter = is.counter;
    session = is.session;
    sessions = is.sessions;
    hosted = others;
    hosts = hosts;
    hosting = hosting-but disk e.hosting x is.hosted others is.hosting but stores states;
    media = media-on w (done w (job_set name job)) None disk.files refl (λ path header in_it. refl) is.media;
    calm = calm-on refl is.calm;
    copied = copied;
  }

  pub dropped-stands : IsSound (done w jobs_dropped) → Hosts (done w jobs_dropped) others → AreCopied disk others → StandsFor disk (record e { hosting = x }) (done w jobs_dropped)
  unfolding done rows_in
  dropped-stands sound hosts copied = record {
    sound = sound;
    instance = same-number;
    counter = is.counter;
    session = is.session;
    sessions = is.sessions;
    hosted = others;
    hosts = hosts;
    hosting = hosting-but disk e.hosting x is.hosted others is.hosting but stores states;
    media = media-on w (done w jobs_dropped) None disk.files refl (λ path header in_it. refl) is.media;
    calm = calm-on refl is.calm;
    copied = copied;
  }

-- ---- what a crash leaves

-- a database with another backup, or without one
abbrev pub IsButRun : Database → Database → Type 0
IsButRun d b = b ≡ record d { job = b.job }

hosts-but : (hosted : List Hosted) (dbs : List Database) → AllZip IsButRun (map database_of hosted) dbs → (others : List Hosted) × (dbs ≡ map database_of others) × AreButJobs hosted others
hosts-but [] [] but = ([], refl, tt)
hosts-but [] (b ∷ dbs) but = absurd but
hosts-but (h ∷ hosted) [] but = absurd but
hosts-but (h ∷ hosted) (b ∷ dbs) but =
    let rest = hosts-but hosted dbs but.1 in
    (running b.job h ∷ rest.0, ap (λ (d : Database). d ∷ dbs) but.0 ∙ ap (λ (ds : List Database). database_of (running b.job h) ∷ ds) rest.1, (refl, rest.2))

log-but : (history : RecordLines) (h : Hosted) (job : Option Job) → IsHosted history h → IsHosted history (running job h)
unfolding log_of
log-but history h job is = record { log = is.log }

logs-but : (history : RecordLines) (hosted others : List Hosted) → AreButJobs hosted others → AllByRecursion (IsHosted history) hosted → AllByRecursion (IsHosted history) others
logs-but history [] [] but all = tt
logs-but history [] (g ∷ others) but all = absurd but
logs-but history (h ∷ hosted) [] but all = absurd but
logs-but history (h ∷ hosted) (g ∷ others) but all = (subst (IsHosted history) (sym but.0) (log-but history h g.job all.0), logs-but history hosted others but.1 all.1)

-- files that hold a world hold one with the same databases but for backups that run
pub covers-but : (w : World) (dbs : List Database) (image : Files) → AllZip IsButRun dbs w.databases → Covers (record w { databases = dbs }) image → Covers w image
unfolding rows_in
covers-but w dbs image but is =
    let others = hosts-but is.hosted w.databases (subst (λ (ds : List Database). AllZip IsButRun ds w.databases) is.hosts.same but) in
    record {
      own = is.own;
      instance = is.instance;
      no_less = is.no_less;
      no_more = is.no_more;
      hosted = others.0;
      hosts = record { same = others.1; each = logs-but w.history is.hosted others.0 others.2 is.hosts.each };
      left = leaves-but is.own image is.hosted others.0 others.2 is.left;
      media = media-on (record w { databases = dbs }) w is.own.making image refl (λ path header in_it. refl) is.media;
      rows = is.rows;
    }

-- one that is stopped may be one that ran
with-but : (dbs : List Database) (name : List ℕ) (job : Option Job) → AllZip IsButRun (with_database dbs name (with_job job)) dbs
with-but [] name job = tt
with-but (d ∷ dbs) name job = by (same_name d.name name) (with-but dbs name job)
  where
    same-each : (ds : List Database) → AllZip IsButRun ds ds
    same-each [] = tt
    same-each (x ∷ ds) = (refl, same-each ds)

    by : (t : Bool) → AllZip IsButRun (with_database dbs name (with_job job)) dbs → AllZip IsButRun (cond t (with_job job d ∷ dbs) (d ∷ with_database dbs name (with_job job))) (d ∷ dbs)
    by true later = (refl, same-each dbs)
    by false later = (refl, later)

pub covers-stopped : (w : World) (name : List ℕ) (image : Files) → Covers (done w (job_set name None)) image → Covers w image
unfolding done
covers-stopped w name image is = covers-but w (with_database w.databases name (with_job None)) image (with-but w.databases name None) is

none-but : (dbs : List Database) → AllZip IsButRun (map (with_job None) dbs) dbs
none-but [] = tt
none-but (d ∷ dbs) = (refl, none-but dbs)

pub covers-dropped : (w : World) (image : Files) → Covers (done w jobs_dropped) image → Covers w image
unfolding done
covers-dropped w image is = covers-but w (map (with_job None) w.databases) image (none-but w.databases) is

-- ---- none runs any more

all-none : (dbs : List Database) → AllByRecursion (λ (db : Database). db.job ≡ None) (map (with_job None) dbs)
all-none [] = tt
all-none (d ∷ dbs) = (refl, all-none dbs)

pub dropped-idle : (w : World) → AllByRecursion (λ (db : Database). db.job ≡ None) (done w jobs_dropped).databases
unfolding done
dropped-idle w = all-none w.databases
