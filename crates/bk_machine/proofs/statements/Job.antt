-- A backup that runs goes on, and finishes with a sound set.
use Rattle.std.proofs.Common.{◌≡◌, ◌≢◌, ◌<◌, ◌≤◌, ◌⊎◌, inl, inr, ℕ, ◌+◌, List, [], ◌∷◌, length, Option, None, Some, refl, sym, ◌∙◌, ap, subst, arith, true}
use Rattle.std.specs.Prelude.{Ok, option_and_then}
use Rattle.std.specs.List.{AllByRecursion}
use Rattle.bk_ids.specs.declared.path.Branch.{Branch}
use Rattle.bk_ids.specs.Path.{branch_at, last_branch}
use Rattle.bk_world.specs.declared.database.Status.{Status}
use Rattle.bk_world.specs.declared.database.Status.TheVariants.{Down, Online, Standby}
use Rattle.bk_world.specs.declared.header.Header.{Header}
use Rattle.bk_world.specs.declared.rule.Rule.TheVariants.{NoJob, NoSuchDatabase}
use Rattle.bk_world.specs.Lines.{log_below}
use Rattle.bk_world.specs.Medium.{medium_at}
use Rattle.bk_world.specs.Pending.{pending, Pending}
use Rattle.bk_world.specs.Records.{Said, more, stamped}
use Rattle.bk_world.specs.Says.{alone}
use Rattle.bk_world.specs.Telling.{model, time}
use Rattle.bk_lemmas.specs.Lists.{all_mapped}
use Rattle.bk_world.specs.declared.transaction.Open.{Open}
use Rattle.bk_machine.specs.BeginLaws.{of-begin}
use Rattle.bk_machine.specs.declared.history_row.HistoryRow.{HistoryRow}
use Rattle.bk_machine.specs.declared.history_row.HistoryRow.TheVariants as kind
use Rattle.bk_machine.specs.Acts.{based, done, gone_on, job_set, latest, logged, noted, said_time, says, set_sealed, with_job}
use Rattle.bk_machine.specs.Built.{IsBuilt, IsBuiltLog, SayNoLoad}
use Rattle.bk_machine.specs.CheckLaws.{passed, was-found}
use Rattle.bk_machine.specs.Checks.{or_refuse}
use Rattle.bk_machine.specs.FindingLaws.{current-found}
use Rattle.bk_machine.specs.FitLaws.{said-time}
use Rattle.bk_machine.specs.JobLaws.{others-apart}
use Rattle.bk_machine.specs.Fits.{FitsLog, FitsSet}
use Rattle.bk_machine.specs.MayDo.{MayDoAll, MayRun}
use Rattle.bk_machine.specs.NamedLaws.{named-changed, of-named}
use Rattle.bk_machine.specs.Outcome.{Outcome}
use Rattle.bk_machine.specs.ReadyLaws.{holds-of}
use Rattle.bk_machine.specs.Sound.{AreNumbered, IsFitJob, IsHeld, IsLog, IsNotToCome, IsPassed, IsSound, IsSoundSet, JobIs, OpenBy, files_of_set, storage_of, has_begin}
use Rattle.bk_machine.specs.UpLaws.{IsUp, is-up}
use Rattle.bk_machine.specs.declared.job.Job.{Job}
use Rattle.bk_machine.specs.World.{World, Database, current_database, database_named, log_of, with_database}
use Rattle.bk_machine.specs.Writes.{JobWrites, current_job}
use Rattle.bk_machine.specs.statements.Backup.{next_position}
use Rattle.bk_machine.specs.statements.Job.{DoesStart, DoesStep, DoesWait, Running, check_job, finishes, job_header, stepped}
use Rattle.bk_machine.proofs.Acting.{act-sound}
use Rattle.bk_machine.proofs.Fitting.{fits-more}
use Rattle.bk_machine.proofs.Loads.{BuiltIn, act-built}
use Rattle.bk_machine.proofs.statements.Backup.{files-same, passed-last}
use Rattle.bk_machine.proofs.statements.Facts.{Facts, NoMedium, facts-of, opens-those, own-stamp}
use Rattle.bk_machine.proofs.statements.Numbering.{numbers-loud}
use Rattle.bk_machine.proofs.statements.Said.{MayTell, done-is, log-after, may-do, up-after}
use Rattle.bk_machine.proofs.statements.Telling.{TellsOn, tells-stamp}

-- ---- what was checked

-- the current database, in which the backup runs
record IsRunning (w : World) (r : Running) : Type 0 where
  is : current_database w ≡ Some r.database
  runs : r.database.job ≡ Some r.job

checked : (w : World) (r : Running) → check_job w ≡ Ok r → IsRunning w r
unfolding check_job
checked w r e =
    let one = passed (or_refuse (current_database w) NoSuchDatabase) _ r e in
    let two = passed (or_refuse one.found.job NoJob) _ r one.then in
    let last = two.then in
    let its : Running = record { database = one.found; job = two.found } in
    let same : its ≡ r = cc in
    subst (IsRunning w) same (record { is = was-found (current_database w) NoSuchDatabase one.found one.is; runs = was-found one.found.job NoJob two.found two.is })

-- no backup runs in a database that isn't online
runs-online : (lines : _) (db : Database) (job : Job) → OpenBy lines db → db.job ≡ Some job → db.status ≡ Online
runs-online lines db job opens runs = by db.status refl
  where
    idle : db.status ≢ Online → db.status ≡ Online
    idle off = let none : db.job ≡ None = (opens.offline off).job in let wrong : None ≡ Some job = sym none ∙ runs in absurd cc

    by : (s : Status) → db.status ≡ s → db.status ≡ Online
    by Online is = is
    by (Standby file) is = idle (λ up. let wrong : Standby file ≡ Online = sym is ∙ up in absurd cc)
    by Down is = idle (λ up. let wrong : Down ≡ Online = sym is ∙ up in absurd cc)

its-up : (w : World) (r : Running) → IsSound w → IsRunning w r → IsUp w r.database
its-up w r sound its =
    let named : database_named w.databases r.database.name ≡ Some r.database = current-found w r.database its.is in
    is-up w r.database sound named (runs-online w.history r.database r.job (of-named (OpenBy w.history) w.databases r.database.name r.database sound.opens named) its.runs)

-- its medium is that of the current job
writes-its : (w : World) (r : Running) → IsRunning w r → JobWrites (current_job w) r.job.medium
writes-its w r its =
    let is : current_job w ≡ Some r.job = ap (option_and_then (λ (db : Database). db.job)) its.is ∙ its.runs in
    subst (λ (o : Option Job). JobWrites o r.job.medium) (sym is) refl

-- ---- `:start`

pub start-facts : (w : World) (outcome : Outcome) → DoesStart outcome → Facts w NoMedium outcome
start-facts w outcome is = facts-of w _ outcome is (record {
  writes = (tt, tt);
  refused = λ rule no. absurd cc;
  well = λ sound. record { may = (tt, tt); opens = (tt, tt); own = (tt, tt); numbers = (tt, tt); ends = inl (tt, tt); plain = λ built. (tt, tt) };
})

-- ---- what is known of it

module _ (w : World) (r : Running) (its : IsRunning w r) (sound : IsSound w) where
  up : IsUp w r.database
  up = its-up w r sound its

  fit : IsFitJob (log_of w.history r.database) r.database.end r.database.transactions r.job
  fit = subst (JobIs (IsFitJob (log_of w.history r.database) r.database.end r.database.transactions)) its.runs up.job

  drawn : IsNotToCome w r.job.set
  drawn = subst (JobIs (λ (job : Job). IsNotToCome w job.set)) its.runs up.whole.job

-- ---- `:step`

goes-on : (w : World) (r : Running) (count : ℕ) → IsRunning w r → (sound : IsSound w) → MayRun w r.database (stepped count r.job)
goes-on w r count its sound =
    let f = fit w r its sound in record {
      online = (up w r its sound).up;
      fit = record { numbers = f.numbers; some = f.some; first = f.first; said = f.said; begins = f.begins };
      drawn = drawn w r its sound;
      apart = others-apart w.databases r.database r.job sound.whole.different (up w r its sound).named its.runs;
      keeps = subst (JobIs (λ (j : Job). r.database.kept ≤ j.first)) its.runs (up w r its sound).keeps.job;
    }

pub step-facts : (w : World) (count : ℕ) (r : Running) → check_job w ≡ Ok r → (outcome : Outcome) → DoesStep count r outcome → Facts w NoMedium outcome
step-facts w count r e outcome is =
    let its : IsRunning w r = checked w r e in facts-of w _ outcome is (record {
      writes = (tt, tt);
      refused = λ rule no. absurd cc;
      well = λ sound. record {
        may = (holds-of (database_named w.databases r.database.name) r.database (λ (d : Database). MayRun w d (stepped count r.job)) (up w r its sound).named (goes-on w r count its sound), tt);
        opens = (tt, tt);
        own = (tt, tt);
        numbers = (tt, tt);
        ends = inl (tt, tt);
        plain = λ built. (tt, tt);
      };
    })

-- ---- `:wait`

-- the world in which a database has no job
abbrev stopping : World → List ℕ → World
stopping w name = record w { databases = with_database w.databases name (with_job None) }

stops : (w : World) (name : List ℕ) → done w (job_set name None) ≡ stopping w name
unfolding done
stops w name = refl

module _ (w : World) (r : Running) (now : ℕ) (its : IsRunning w r) (sound : IsSound w) where
  abbrev at : ℕ
  at = said_time w r.database now

  abbrev stopped : World
  stopped = stopping w r.database.name

  abbrev idle : Database
  idle = with_job None r.database

  abbrev header : Header
  header = job_header w r (said_time w r.database now)

  timely : said_time w r.database now ≤ latest
  timely = said-time w r.database now (length r.database.groups) (up w r its sound).whole.fits.log

  stopped-sound : IsSound (stopping w r.database.name)
  stopped-sound = subst IsSound (stops w r.database.name) (act-sound w (job_set r.database.name None) sound tt)

  stopped-up : IsUp (stopping w r.database.name) (with_job None r.database)
  stopped-up = is-up stopped idle stopped-sound (named-changed w.databases r.database.name r.database (with_job None) refl (up w r its sound).named) (up w r its sound).up

  -- behind the stamp at its finish
  abbrev finish_said : List Said
  finish_said = alone (stamped at r.job.set)

  finish-tells : MayTell stopped idle finish_said
  unfolding log_of
  finish-tells =
      let t = tells-stamp (log_of stopped.history idle) idle.end at r.job.set in
      let fits : FitsLog (length idle.groups) (more (log_of stopped.history idle) idle.end finish_said) = fits-more (length idle.groups) (log_of stopped.history idle) idle.end finish_said stopped-up.whole.fits.log t.tables (timely, tt) in
      let left = (fit w r its sound).numbers in record {
        may = record { online = stopped-up.up; may = (tt, tt); tables = subst (AreNumbered 1) (sym t.tables) stopped-up.whole.log.tables; places = (tt, tt); fits = fits; marks = inl (tt, tt) };
        none = (λ b. refl, tt);
        same = t.pending;
        left = omega (arith, left);
        leaves = tt;
      }

  abbrev finished : World
  finished = says stopped idle finish_said idle.transactions

  abbrev finished_db : Database
  finished_db = gone_on (model (log_of stopped.history idle)) finish_said idle.transactions idle

  finished-up : IsUp finished finished_db
  finished-up = up-after stopped idle finish_said stopped-sound stopped-up finish-tells refl stopped-up.up

  finished-log : log_of finished.history finished_db ≡ more (log_of stopped.history idle) idle.end finish_said
  finished-log = log-after stopped idle finish_said stopped-sound stopped-up finish-tells

  -- what it shows is held: its last branch passed the stamp
  finished-held : IsHeld finished.history idle.path finished_db.end
  unfolding says
  finished-held k positive lt = by (finished-up.whole.held k positive lt)
    where
      by : ((finished_db.status ≡ Online) × (branch_at finished_db.path k ≡ last_branch finished_db.path)) ⊎ IsPassed finished.history (branch_at finished_db.path k) k → IsPassed finished.history (branch_at idle.path k) k
      by (inl last) = subst (λ b. IsPassed finished.history b k) (sym last.1) (passed-last stopped.history idle (stopped-up.whole.online stopped-up.up).goes_on _ k (omega (arith, lt)) (λ e. absurd cc))
      by (inr is) = is

  sealed : IsSoundSet finished header
  unfolding job_header log_of says
  sealed =
      let db : Database = r.database in
      let end : finished_db.end ≡ db.end + 1 = omega arith in
      let left = (fit w r its sound).numbers in
      let one : TellsOn (log_of stopped.history idle) (more (log_of stopped.history idle) idle.end finish_said) at = tells-stamp (log_of stopped.history idle) idle.end at r.job.set in
      let log : log_below finished.history db.path (db.end + 1) ≡ more (log_of stopped.history idle) idle.end finish_said = ap (log_below finished.history db.path) (sym end) ∙ finished-log in
      let many : length (pending (log_below finished.history db.path (db.end + 1))) ≡ length (pending (log_of w.history db)) = ap (λ rs. length (pending rs)) log ∙ ap length one.pending in record {
        log = subst (λ files. IsLog files (log_below finished.history db.path (db.end + 1)) (db.end + 1)) (sym (files-same header db.files))
            (subst (λ n. IsLog db.files (log_below finished.history db.path n) n) end finished-up.whole.log);
        path = finished-up.whole.path;
        starts = subst (λ n. AllByRecursion (λ (b : Branch). b.start < n) db.path) end finished-up.whole.starts;
        drawn = finished-up.whole.drawn;
        set = drawn w r its sound;
        family = finished-up.whole.family;
        held = subst (IsHeld finished.history db.path) end finished-held;
        model = sym (ap model log ∙ one.model);
        finish = sym (ap time log ∙ one.time);
        numbers = omega (arith, left, many);
        fits = subst (λ files. FitsSet (record { groups = db.groups; files = files; log_name = db.log_name; log_path = db.log_path }) db.path (log_below finished.history db.path (db.end + 1))) (sym (files-same header db.files))
            (subst (λ n. FitsSet (storage_of db) db.path (log_below finished.history db.path n)) end finished-up.whole.fits);
      }

  abbrev row : HistoryRow
  row = kind.Backup (record { position = next_position (medium_at w.media r.job.medium); header = job_header w r (said_time w r.database now) })

  finishes-it : MayDoAll w (finishes (next_position (medium_at w.media r.job.medium)) r (job_header w r (said_time w r.database now)))
  unfolding job_header
  finishes-it =
      let seal : MayDoAll finished (set_sealed r.job.medium header ∷ noted row ∷ based r.database.name header ∷ []) = (sealed, (tt, (tt, tt))) in
      let stamp : MayDoAll stopped (logged r.database.name finish_said r.database.transactions ∷ set_sealed r.job.medium header ∷ noted row ∷ based r.database.name header ∷ []) = (
        may-do stopped idle finish_said stopped-sound stopped-up finish-tells,
        subst (λ v. MayDoAll v (set_sealed r.job.medium header ∷ noted row ∷ based r.database.name header ∷ [])) (sym (done-is stopped idle finish_said stopped-sound stopped-up finish-tells)) seal,
      ) in
      (tt, subst (λ v. MayDoAll v (logged r.database.name finish_said r.database.transactions ∷ set_sealed r.job.medium header ∷ noted row ∷ based r.database.name header ∷ [])) (sym (stops w r.database.name)) stamp)

  -- no part says a load, and the log of the set has none

  stopped-built : IsBuilt w → IsBuilt (stopping w r.database.name)
  stopped-built built = subst IsBuilt (stops w r.database.name) (act-built w sound built (job_set r.database.name None) tt tt)

  finished-built : IsBuilt w → IsBuilt finished
  finished-built built =
      subst IsBuilt (done-is stopped idle finish_said stopped-sound stopped-up finish-tells)
      (act-built stopped stopped-sound (stopped-built built) (logged r.database.name finish_said r.database.transactions) (may-do stopped idle finish_said stopped-sound stopped-up finish-tells) (tt, tt))

  set-plain : IsBuilt w → IsBuiltLog (files_of_set header) (log_below finished.history header.path header.last)
  unfolding job_header log_of
  set-plain built =
      let db : Database = r.database in
      let end : finished_db.end ≡ db.end + 1 = omega arith in
      let own : IsBuiltLog finished_db.files (log_of finished.history finished_db) = of-named (BuiltIn finished.history) finished.databases finished_db.name finished_db (finished-built built).databases finished-up.named in
      subst (λ files. IsBuiltLog files (log_below finished.history db.path (db.end + 1))) (sym (files-same header db.files)) (subst (λ n. IsBuiltLog db.files (log_below finished.history db.path n)) end own)

  finishes-plain : IsBuilt w → SayNoLoad w (finishes (next_position (medium_at w.media r.job.medium)) r (job_header w r (said_time w r.database now)))
  unfolding job_header
  finishes-plain built =
      let seal : SayNoLoad finished (set_sealed r.job.medium header ∷ noted row ∷ based r.database.name header ∷ []) = (set-plain built, (tt, (tt, tt))) in
      let stamp : SayNoLoad stopped (logged r.database.name finish_said r.database.transactions ∷ set_sealed r.job.medium header ∷ noted row ∷ based r.database.name header ∷ []) = (
        (tt, tt),
        subst (λ v. SayNoLoad v (set_sealed r.job.medium header ∷ noted row ∷ based r.database.name header ∷ [])) (sym (done-is stopped idle finish_said stopped-sound stopped-up finish-tells)) seal,
      ) in
      (tt, subst (λ v. SayNoLoad v (logged r.database.name finish_said r.database.transactions ∷ set_sealed r.job.medium header ∷ noted row ∷ based r.database.name header ∷ [])) (sym (stops w r.database.name)) stamp)

pub wait-facts : (w : World) (now : ℕ) (r : Running) → check_job w ≡ Ok r → (outcome : Outcome) → DoesWait w now r outcome → Facts w (JobWrites (current_job w)) outcome
unfolding job_header
wait-facts w now r e outcome is =
    let its : IsRunning w r = checked w r e in
    let at : ℕ = said_time w r.database now in facts-of w _ outcome is (record {
      writes = (tt, (tt, (writes-its w r its, (tt, (tt, tt)))));
      refused = λ rule no. absurd cc;
      well = λ sound. let named = (up w r its sound).named in record {
        may = finishes-it w r now its sound;
        opens = (tt, (opens-those w r.database (alone (stamped at r.job.set)) named, (tt, (tt, (tt, tt)))));
        own = (tt, (own-stamp w r.database.name at r.job.set r.database.transactions, (tt, (tt, (tt, tt)))));
        numbers = (tt, (numbers-loud (done w (job_set r.database.name None)) r.database.name (record { begin = 0; deed = stamped at r.job.set }) r.database.transactions (λ none. absurd cc), (tt, (tt, (tt, tt)))));
        ends = inl (tt, (tt, (tt, (tt, (tt, tt)))));
        plain = λ built. finishes-plain w r now its sound built;
      };
    })

-- ---- what its set holds

module _ (w : World) (r : Running) (time : ℕ) (sound : IsSound w) (e : check_job w ≡ Ok r) where
  pub job-first : (job_header w r time).first ≤ (job_header w r time).checkpoint
  unfolding job_header
  job-first = (fit w r (checked w r e) sound).first

  pub job-last : (job_header w r time).checkpoint < (job_header w r time).last
  unfolding job_header
  job-last = let said : r.job.checkpoint < r.database.end = (fit w r (checked w r e) sound).said in omega (arith, said)

  pub job-kept : r.database.kept ≤ (job_header w r time).first
  unfolding job_header
  job-kept = subst (JobIs (λ (j : Job). r.database.kept ≤ j.first)) (checked w r e).runs (up w r (checked w r e) sound).keeps.job

  pub job-begins : AllByRecursion (λ (t : Open). (job_header w r time).first ≤ t.begin) r.database.transactions
  unfolding job_header
  job-begins = (fit w r (checked w r e) sound).begins

  pub job-pending : AllByRecursion (λ (p : Pending). (job_header w r time).first ≤ p.begin) (pending (log_of w.history r.database))
  job-pending =
      all_mapped (λ (p : Pending). has_begin r.database.transactions p.begin ≡ true) (λ (p : Pending). (job_header w r time).first ≤ p.begin)
      (λ p there. of-begin r.database.transactions (job_header w r time).first p.begin job-begins there) (pending (log_of w.history r.database)) (up w r (checked w r e) sound).opens.pending
