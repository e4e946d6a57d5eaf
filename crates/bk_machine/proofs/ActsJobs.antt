-- Backups that run: where one starts, goes on or is dropped, a sound world stays sound.
use Rattle.std.proofs.Common.{◌≡◌, ◌≢◌, ◌≤◌, ℕ, List, [], ◌∷◌, map, Option, None, Some, refl, sym, subst, arith}
use Rattle.std.specs.List.{AllByRecursion}
use Rattle.bk_world.specs.declared.database.Status.TheVariants.{Online}
use Rattle.bk_ids.specs.Name.{lowered}
use Rattle.bk_machine.specs.JobLaws.{without-one}
use Rattle.bk_machine.specs.Acts.{done, job_set, jobs_dropped, with_job}
use Rattle.bk_machine.specs.MayDo.{HoldsOf, MayDo, MayRun}
use Rattle.bk_machine.specs.NamedLaws.{all-changed, all-with, different-changed, different-with}
use Rattle.bk_machine.specs.Sound.{AreDifferent, Differ, IsFitJob, IsNotToCome, IsOther, IsSound, IsWholeDatabase, JobIs, OpenBy}
use Rattle.bk_machine.specs.declared.job.Job.{Job}
use Rattle.bk_machine.specs.World.{World, Database, database_named, log_of, with_database}
use Rattle.bk_machine.proofs.ActsPlain.{Plain, plain-follows, plain-sound}
use Rattle.bk_machine.proofs.ActsStay.{Follows}

-- ---- a database with another job, or without one

module _ (w : World) (db : Database) (job : Option Job) where
  whole-with : JobIs (λ (j : Job). IsNotToCome w j.set) job → IsWholeDatabase w db → IsWholeDatabase w (with_job job db)
  unfolding log_of
  whole-with drawn is = record {
    log = is.log;
    path = is.path;
    starts = is.starts;
    kept = is.kept;
    drawn = is.drawn;
    family = is.family;
    job = drawn;
    held = is.held;
    online = λ up. record { goes_on = (is.online up).goes_on; anchor = (is.online up).anchor; holds = (is.online up).holds };
    fits = is.fits;
  }

  open-with : (db.status ≢ Online → job ≡ None) → JobIs (IsFitJob (log_of w.history db) db.end db.transactions) job → JobIs (λ (j : Job). db.kept ≤ j.first) job → OpenBy w.history db → OpenBy w.history (with_job job db)
  unfolding log_of
  open-with none fit keeps is = record { online = is.online; offline = λ off. record { job = none off; transactions = (is.offline off).transactions }; job = fit; keeps = record { begins = is.keeps.begins; job = keeps } }

differs-without : (o other : Database) → Differ o other → Differ (with_job None o) other
differs-without o other differ = record { names = differ.names; branches = differ.branches; sets = λ job some. without-one None job refl some }

differs-with : (job : Job) (db o : Database) → (lowered o.name ≢ lowered db.name → IsOther job.set o) → Differ db o → Differ (with_job (Some job) db) o
differs-with job db o apart differ = record {
  names = differ.names;
  branches = differ.branches;
  sets = λ its runs. let same : job ≡ its = cc in subst (λ (x : Job). IsOther x.set o) same (apart (λ named. differ.names (sym named)));
}

-- ---- all without one

pub all-dropped : (P Q : Database → Type 0) → ((db : Database) → P db → Q (with_job None db)) → (dbs : List Database) → AllByRecursion P dbs → AllByRecursion Q (map (with_job None) dbs)
all-dropped P Q leads [] all = tt
all-dropped P Q leads (db ∷ dbs) all = (leads db all.0, all-dropped P Q leads dbs all.1)

different-dropped : (dbs : List Database) → AreDifferent dbs → AreDifferent (map (with_job None) dbs)
different-dropped [] all = tt
different-dropped (db ∷ dbs) all = (
  all-dropped (Differ db) (Differ (with_job None db)) (λ o differ. record { names = differ.names; branches = differ.branches; sets = λ job some. without-one None job refl some }) dbs all.0,
  different-dropped dbs all.1,
)

module _ (w : World) (is : IsSound w) where
  -- a job starts or goes on

  running-plain : (name : List ℕ) (job : Job) → HoldsOf (database_named w.databases name) (λ db. MayRun w db job) → Plain w (done w (job_set name (Some job)))
  unfolding done
  running-plain name job may = by (database_named w.databases name) refl may
    where
      by : (o : Option Database) → database_named w.databases name ≡ o → HoldsOf o (λ db. MayRun w db job) → Plain w (record w { databases = with_database w.databases name (with_job (Some job)) })
      by None there holds = absurd holds
      by (Some db) there holds = record {
        instance = refl;
        counter = omega arith;
        history = refl;
        databases = all-changed (IsWholeDatabase w) (IsWholeDatabase w) w.databases name db (with_job (Some job)) is.whole.databases is.whole.different there (λ one. whole-with w db (Some job) holds.drawn one) (λ o one differ. one);
        different = different-changed (λ (o : Database). lowered o.name ≢ lowered db.name → IsOther job.set o) w.databases name db (with_job (Some job)) holds.apart is.whole.different there (differs-with job db);
        opens = all-changed (OpenBy w.history) (OpenBy w.history) w.databases name db (with_job (Some job)) is.opens is.whole.different there
            (λ one. open-with w db (Some job) (λ off. absurd (off holds.online)) holds.fit holds.keeps one) (λ o one differ. one);
        media = is.whole.media;
        seat = is.seat;
      }

  -- or there is none any more

  stopped-plain : (name : List ℕ) → Plain w (done w (job_set name None))
  unfolding done
  stopped-plain name = record {
    instance = refl;
    counter = omega arith;
    history = refl;
    databases = all-with (IsWholeDatabase w) (IsWholeDatabase w) w.databases name (with_job None) is.whole.databases (λ o one. whole-with w o None tt one) (λ o one. one);
    different = different-with w.databases name (with_job None) differs-without is.whole.different;
    opens = all-with (OpenBy w.history) (OpenBy w.history) w.databases name (with_job None) is.opens (λ o one. open-with w o None (λ off. refl) tt tt one) (λ o one. one);
    media = is.whole.media;
    seat = is.seat;
  }

  set-plain : (name : List ℕ) (job : Option Job) → MayDo w (job_set name job) → Plain w (done w (job_set name job))
  set-plain name None may = stopped-plain name
  set-plain name (Some job) may = running-plain name job may

  pub job_set-sound : (name : List ℕ) (job : Option Job) → MayDo w (job_set name job) → IsSound (done w (job_set name job))
  job_set-sound name job may = plain-sound w (done w (job_set name job)) (set-plain name job may) is.whole

  pub job_set-follows : (name : List ℕ) (job : Option Job) → MayDo w (job_set name job) → Follows w (done w (job_set name job))
  job_set-follows name job may = plain-follows w (done w (job_set name job)) (set-plain name job may)

  -- none runs any more

  dropped-plain : Plain w (done w jobs_dropped)
  unfolding done
  dropped-plain = record {
    instance = refl;
    counter = omega arith;
    history = refl;
    databases = all-dropped (IsWholeDatabase w) (IsWholeDatabase w) (λ o one. whole-with w o None tt one) w.databases is.whole.databases;
    different = different-dropped w.databases is.whole.different;
    opens = all-dropped (OpenBy w.history) (OpenBy w.history) (λ o one. open-with w o None (λ off. refl) tt tt one) w.databases is.opens;
    media = is.whole.media;
    seat = is.seat;
  }

  pub jobs_dropped-sound : IsSound (done w jobs_dropped)
  jobs_dropped-sound = plain-sound w (done w jobs_dropped) dropped-plain is.whole

  pub jobs_dropped-follows : Follows w (done w jobs_dropped)
  jobs_dropped-follows = plain-follows w (done w jobs_dropped) dropped-plain
