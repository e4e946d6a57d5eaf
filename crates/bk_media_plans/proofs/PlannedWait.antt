-- `:wait` as it is planned.
use Rattle.std.proofs.Common.{◌≡◌, ◌<◌, ℕ, ◌+◌, ◌^◌, true, List, [], ◌∷◌, length, Option, None, Some, Ok, refl, sym, ◌∙◌, ap, subst, arith}
use Rattle.bk_acts.specs.Meaning.{Spell}
use Rattle.bk_items.specs.declared.item.ScriptEntry.{ScriptEntry}
use Rattle.bk_items.specs.declared.item.ScriptItem.TheVariants as script
use Rattle.bk_kept.specs.declared.kept.Database.{Database as KeptDatabase}
use Rattle.bk_kept.specs.declared.kept.Kept.{Kept}
use Rattle.bk_kept.specs.Keeps.{IsSeenOf, Sees, ShowsLog, database_of}
use Rattle.bk_kept.specs.Stored.{SaysNamed}
use Rattle.bk_machine.specs.Acts.{Act, done, job_set, logged, said_time, with_job}
use Rattle.bk_machine.specs.Machine.{May}
use Rattle.bk_machine.specs.MayDo.{HoldsOf, MayDo, MayDoAll}
use Rattle.bk_machine.specs.NamedLaws.{named-changed}
use Rattle.bk_machine.specs.Outcome.{Outcome, refused}
use Rattle.bk_machine.specs.ReadyLaws.{holds-of}
use Rattle.bk_machine.specs.Sound.{IsSound, JobIs}
use Rattle.bk_machine.specs.World.{World, Database, database_named, log_of, with_database}
use Rattle.bk_machine.specs.declared.job.Job.{Job}
use Rattle.bk_machine.specs.statements.Backup.{ShowsRoom, next_position}
use Rattle.bk_machine.specs.statements.Job.{DoesWait, Running, check_job, finished, finishes, job_header}
use Rattle.bk_machine.specs.statements.Restore.{is_online}
use Rattle.bk_shown.specs.Shown.{AreNext}
use Rattle.bk_world.specs.CrashLaws.{counts-length}
use Rattle.bk_world.specs.Lines.{log_below}
use Rattle.bk_world.specs.Medium.{Reading, medium_at}
use Rattle.bk_world.specs.Records.{Logged, Said, numbered, stamped}
use Rattle.bk_world.specs.Says.{alone}
use Rattle.bk_world.specs.declared.database.Status.TheVariants.{Online}
use Rattle.bk_world.specs.declared.header.Header.{Header}
use Rattle.bk_world.specs.declared.msdb.BackupRow.{BackupRow}
use Rattle.bk_world.specs.declared.reply.Reply.{Reply}
use Rattle.bk_world.specs.declared.reply.Reply.TheVariants.{SetMade}
use Rattle.bk_world.specs.declared.transaction.Open.{Open}
use Rattle.bk_plans.specs.declared.refusal.Refusal.{Refusal}
use Rattle.bk_plans.specs.declared.refusal.Refusal.TheVariants.{Broken, NoMemory}
use Rattle.bk_plans.specs.Checking.{IsRefused}
use Rattle.bk_plans.specs.JobLaws.{IsRunning, runs-online, was-running}
use Rattle.bk_plans.specs.PlanLaws.{DoWhatTheyMay, comes-found, comes-refused}
use Rattle.bk_media_plans.specs.declared.wait_plan.Finish.{Finish}
use Rattle.bk_media_plans.specs.declared.wait_plan.WaitPlan.{WaitPlan}
use Rattle.bk_media_plans.specs.declared.wait_plan.WaitPlan.TheVariants.{Refused, Finishes}
use Rattle.bk_media_plans.specs.Waits.{AreFinishing, HasSets, IsFinish, IsFinishPlan, IsRefusedWait, PlansWait}
use Rattle.bk_media_plans.proofs.Backed.{position-is}

-- Behind the end of the backup the database is as it was, but for the job.

-- it is found by its name
found-still : (w : World) (db : Database) → database_named w.databases db.name ≡ Some db → database_named (done w (job_set db.name None)).databases db.name ≡ Some (with_job None db)
unfolding done
found-still w db named = named-changed w.databases db.name db (with_job None) refl named

-- its log is what it was
log-still : (w : World) (db : Database) → log_of (done w (job_set db.name None)).history (with_job None db) ≡ log_of w.history db
unfolding done log_of
log-still w db = refl

-- what is seen of a database that is online
log-seen : (w : World) (d : KeptDatabase) → IsSeenOf w.history d → d.status ≡ Online → ShowsLog w.history d
log-seen w d seen up = seen (ap is_online up)

-- The medium's room.

room-of : (w : World) (sets : ℕ) (job : Job) (o : Option Job) → o ≡ Some job → JobIs (λ (j : Job). ShowsRoom (medium_at w.media j.medium) (Ok (Some sets))) o → ShowsRoom (medium_at w.media job.medium) (Ok (Some sets))
room-of w sets job o is has = subst (JobIs (λ (j : Job). ShowsRoom (medium_at w.media j.medium) (Ok (Some sets)))) is has

module _ (k : Kept) (line now sets : ℕ) where
  abbrev Known : World → Type 0
  Known w = HasSets w sets

  abbrev entry : ScriptEntry
  entry = record { item = script.Wait; line = line }

  pub wait-refused : (refusal : Refusal) (plan : WaitPlan) → IsRefusedWait refusal plan → ((w : World) → Sees w k → IsRefused refusal (check_job w))
      → PlansWait k (λ w. HasSets w sets) sets (record { item = script.Wait; line = line }) now plan
  unfolding May
  wait-refused (Broken rule) plan is refuses = subst (PlansWait k Known sets entry now) (sym is) (record {
    outcome = refused rule;
    replies = refl;
    may = λ w sound sees known. comes-refused (check_job w) (DoesWait w now) rule (refuses w sees);
    acts = λ w sound sees known. refl;
  })
  wait-refused NoMemory plan is refuses = absurd is

  -- the end of a backup that runs
  module _ (law : DoWhatTheyMay) (d : KeptDatabase) (job : Job) (time : ℕ) (passes : (w : World) → Sees w k → check_job w ≡ Ok (record { database = database_of d; job = job }))
      (seen : (w : World) → Sees w k → IsSeenOf w.history d) (time-is : (w : World) → ShowsLog w.history d → time ≡ said_time w (database_of d) now) (finish : Finish) (is : IsFinish d job sets time finish) where
    abbrev r : Running
    r = record { database = database_of d; job = job }

    abbrev stamp : List Said
    stamp = alone (stamped finish.header.finish finish.header.set)

    abbrev outcome : Outcome
    outcome = record { acts = finishes (sets + 1) r finish.header; reply = finish.reply }

    its : (w : World) → Sees w k → IsRunning w (record { database = database_of d; job = job })
    its w sees = was-running w r (passes w sees)

    shows : (w : World) → IsSound w → Sees w k → ShowsLog w.history d
    shows w sound sees = log-seen w d (seen w sees) (runs-online w (database_of d) job sound (its w sees).named (its w sees).runs)

    room : (w : World) → Sees w k → Known w → ShowsRoom (medium_at w.media job.medium) (Ok (Some sets))
    room w sees known = room-of w sets job _ (its w sees).current known

    -- its header is the machine's
    header-now : (w : World) → ShowsLog w.history d → finish.header ≡ job_header w r time
    unfolding job_header
    header-now w shown = is.header w shown

    header-is : (w : World) → ShowsLog w.history d → finish.header ≡ job_header w r (said_time w (database_of d) now)
    header-is w shown = header-now w shown ∙ ap (job_header w r) (time-is w shown)

    replies-so : (w : World) (t : ℕ) → SetMade (sets + 1) (job_header w r t).first (job_header w r t).checkpoint (job_header w r t).last ≡ SetMade (sets + 1) job.first job.checkpoint (d.shown.«end» + 1)
    unfolding job_header
    replies-so w t = refl

    finished-so : (w : World) → ShowsLog w.history d → ShowsRoom (medium_at w.media job.medium) (Ok (Some sets)) → outcome ≡ finished (medium_at w.media job.medium) r (job_header w r (said_time w (database_of d) now))
    finished-so w shown roomy =
        let h : Header = job_header w r (said_time w (database_of d) now) in
        ap (λ (x : Header). record { acts = finishes (sets + 1) r x; reply = finish.reply }) (header-is w shown)
        ∙ ap (λ (a : Reply). record { acts = finishes (sets + 1) r h; reply = a }) (is.replies roomy.3 ∙ sym (replies-so w (said_time w (database_of d) now)))
        ∙ ap (λ (n : ℕ). record { acts = finishes n r h; reply = SetMade n h.first h.checkpoint h.last }) (position-is (Some sets) (medium_at w.media job.medium) roomy)

    may-wait : (w : World) → IsSound w → Sees w k → Known w → May w entry now outcome
    unfolding May
    may-wait w sound sees known = comes-found (check_job w) (DoesWait w now) r outcome (passes w sees) (finished-so w (shows w sound sees) (room w sees known))

    -- what its stamp is

    header-finish : (w : World) (t : ℕ) → (job_header w r t).finish ≡ t
    unfolding job_header
    header-finish w t = refl

    header-set : (w : World) (t : ℕ) → (job_header w r t).set ≡ job.set
    unfolding job_header
    header-set w t = refl

    spells : (w : World) → ShowsLog w.history d → Spell finish.records d.shown.«end» stamp
    spells w shown =
        let at : finish.header.finish ≡ time = ap (λ (h : Header). h.finish) (header-now w shown) ∙ header-finish w time in
        let set : finish.header.set ≡ job.set = ap (λ (h : Header). h.set) (header-now w shown) ∙ header-set w time in
        subst (λ t. Spell finish.records d.shown.«end» (alone (stamped t finish.header.set))) (sym at) (subst (λ s. Spell finish.records d.shown.«end» (alone (stamped time s))) (sym set) is.spell)

    next-is : (w : World) → ShowsLog w.history d → AreNext d.files (log_of w.history (database_of d)) (numbered d.shown.«end» stamp)
    unfolding log_of
    next-is w shown =
        let rs : List Logged = log_below w.history d.path d.shown.«end» in
        let counted : d.shown.«end» ≡ 1 + length rs = counts-length 1 rs d.shown.«end» shown.log.counts in
        let low : d.shown.«end» < 2 ^ 62 = is.low in
        (record { number = omega (arith, counted); low = low; may = tt; placed = tt }, tt)

    says-own : (w : World) → IsSound w → Sees w k → MayDo (done w (job_set d.name None)) (logged d.name stamp d.transactions) → SaysNamed (done w (job_set d.name None)) d.name finish.records stamp d.transactions
    says-own w sound sees may =
        let v : World = done w (job_set d.name None) in
        let found : database_named v.databases d.name ≡ Some (with_job None (database_of d)) = found-still w (database_of d) (its w sees).named in
        record {
          may = may;
          can = holds-of (database_named v.databases d.name) (with_job None (database_of d)) (λ (db : Database). AreNext db.files (log_of v.history db) (numbered db.end stamp)) found
              (subst (λ (l : List Logged). AreNext d.files l (numbered d.shown.«end» stamp)) (sym (log-still w (database_of d))) (next-is w (shows w sound sees)));
          spelled_is = holds-of (database_named v.databases d.name) (with_job None (database_of d)) (λ (db : Database). Spell finish.records db.end stamp) found (spells w (shows w sound sees));
        }

    row-is : (w : World) → ShowsLog w.history d → ShowsRoom (medium_at w.media job.medium) (Ok (Some sets)) → finish.row ≡ record { position = sets + 1; header = finish.header }
    row-is w shown roomy =
        ap (λ (n : ℕ). record { position = n; header = finish.row.header }) (is.position roomy.3)
        ∙ ap (λ (h : Header). record { position = sets + 1; header = h }) (is.row w shown ∙ sym (is.header w shown))

    are-finishing : (w : World) → IsSound w → Sees w k → Known w → AreFinishing w now sets finish outcome.acts
    are-finishing w sound sees known =
        let shown : ShowsLog w.history d = shows w sound sees in
        let roomy : ShowsRoom (medium_at w.media job.medium) (Ok (Some sets)) = room w sees known in
        let may : MayDoAll w outcome.acts = law w entry now outcome sound (may-wait w sound sees known) in
        record {
          r = r;
          runs = passes w sees;
          named = subst (λ (n : List ℕ). database_named w.databases n ≡ Some (database_of d)) (sym is.name) (its w sees).named;
          job_is = (its w sees).runs;
          are = refl;
          may = may;
          header_is = header-is w shown;
          base_is = is.base w shown ∙ sym (is.header w shown);
          row_is = row-is w shown roomy;
          name_is = is.name;
          path_is = is.path;
          transactions_are = is.transactions;
          spell = spells w shown;
          says = subst (λ (n : List ℕ). SaysNamed (done w (job_set n None)) n finish.records stamp finish.transactions) (sym is.name)
              (subst (λ (ts : List Open). SaysNamed (done w (job_set d.name None)) d.name finish.records stamp ts) (sym is.transactions) (says-own w sound sees may.1.0));
          slots = roomy.0;
          there = ap (medium_at w.media) is.path ∙ roomy.1;
        }

    pub wait-made : PlansWait k (λ w. HasSets w sets) sets (record { item = script.Wait; line = line }) now (Finishes finish)
    wait-made = record { outcome = outcome; replies = refl; may = may-wait; acts = are-finishing }

  pub wait-planned : (law : DoWhatTheyMay) (d : KeptDatabase) (job : Job) (time : ℕ) → ((w : World) → Sees w k → check_job w ≡ Ok (record { database = database_of d; job = job }))
      → ((w : World) → Sees w k → IsSeenOf w.history d) → ((w : World) → ShowsLog w.history d → time ≡ said_time w (database_of d) now) → (plan : WaitPlan) → IsFinishPlan d job sets time plan
      → PlansWait k (λ w. HasSets w sets) sets (record { item = script.Wait; line = line }) now plan
  wait-planned law d job time passes seen time-is (Finishes finish) is = wait-made law d job time passes seen time-is finish is
  wait-planned law d job time passes seen time-is (Refused rule) is = absurd is
