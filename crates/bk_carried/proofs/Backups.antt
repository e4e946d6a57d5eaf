-- The header of a full backup is of its database, and so is that of the set that a job finishes.
use Rattle.std.proofs.Common.{◌≡◌, ◌≢◌, ◌≤◌, ◌<◌, ℕ, ◌+◌, true, List, [], ◌∷◌, map, None, Some, refl, sym, ◌∙◌, ap, subst, arith}
use Rattle.std.specs.Prelude.{Ok}
use Rattle.std.specs.List.{AllByRecursion}
use Rattle.bk_ids.specs.declared.guid.Guid.{Guid}
use Rattle.bk_items.specs.declared.options.BackupOptions.{BackupOptions}
use Rattle.bk_lemmas.specs.Lists.{all_mapped}
use Rattle.bk_machine.specs.BeginLaws.{least-end, least-open, of-begin}
use Rattle.bk_machine.specs.CheckLaws.{passed, was-found}
use Rattle.bk_machine.specs.Checks.{or_refuse}
use Rattle.bk_machine.specs.FindingLaws.{current-found}
use Rattle.bk_machine.specs.NamedLaws.{of-named}
use Rattle.bk_machine.specs.Sound.{IsFitJob, IsSound, JobIs, OpenBy, has_begin}
use Rattle.bk_machine.specs.UpLaws.{IsUp, is-up}
use Rattle.bk_machine.specs.World.{Database, World, current_database, database_named, least_begin, log_of}
use Rattle.bk_machine.specs.declared.job.Job.{Job}
use Rattle.bk_machine.specs.statements.Backup.{full_header}
use Rattle.bk_machine.specs.statements.Job.{Running, check_job, job_header}
use Rattle.bk_restored.specs.StoreTold.{Told, files_of}
use Rattle.bk_world.specs.CrashLaws.{counts-length}
use Rattle.bk_world.specs.Cut.{end_behind}
use Rattle.bk_world.specs.Pending.{Pending, pending}
use Rattle.bk_world.specs.ReadingLaws.{pending-more}
use Rattle.bk_world.specs.Records.{Deed, Logged, checkpointed, numbered, stamped}
use Rattle.bk_world.specs.Says.{alone}
use Rattle.bk_world.specs.SettledLaws.{end-more}
use Rattle.bk_world.specs.declared.database.FileSpec.{FileSpec}
use Rattle.bk_world.specs.declared.database.Status.{Status}
use Rattle.bk_world.specs.declared.database.Status.TheVariants.{Down, Online, Standby}
use Rattle.bk_world.specs.declared.header.Header.{Header}
use Rattle.bk_world.specs.declared.rule.Rule.TheVariants.{NoJob, NoSuchDatabase}
use Rattle.bk_world.specs.declared.transaction.Open.{Open}
use Rattle.bk_world.specs.Lines.{RecordLines}
use Rattle.bk_carried.specs.Copied.{IsHeaderOf, backed_up, said_last}
use Rattle.bk_carried.proofs.Headers.{set-files, specs_of}

full-files : (files : List FileSpec) → specs_of (map (λ (f : FileSpec). record { spec = f; in_set = true }) files) ≡ files
full-files [] = refl
full-files (f ∷ files) = ap (λ (fs : List FileSpec). f ∷ fs) (full-files files)

least-some : (ts : List Open) (end : ℕ) → 0 < end → AllByRecursion (λ (t : Open). (0 < t.begin) × (t.begin < end)) ts → 0 < least_begin ts end
least-some [] end some all = some
least-some (t ∷ ts) end some all = omega (arith, all.0.0, least-some ts end some all.1)

said-end : (rs : List Logged) (deed : Deed) → end_behind (said_last rs deed) ≡ end_behind rs + 1
said-end rs deed = end-more rs (end_behind rs) (alone deed)

still-pending : (rs : List Logged) (header : Header) → pending (backed_up rs header) ≡ pending rs
still-pending rs header =
    let first : List Logged = said_last rs (checkpointed header.start) in
    pending-more first (numbered (end_behind first) (alone (stamped header.finish header.set))) ∙ pending-more rs (numbered (end_behind rs) (alone (checkpointed header.start)))

pub full-header : (w : World) (db : Database) (options : BackupOptions) (path : List ℕ) (set : Guid) (time : ℕ) (told : Told) → IsSound w → database_named w.databases db.name ≡ Some db → db.status ≡ Online → files_of told ≡ db.files
    → told.records ≡ backed_up (log_of w.history db) (full_header w db options path set time) → IsHeaderOf told (full_header w db options path set time)
unfolding full_header
full-header w db options path set time told sound named up files records =
    let header : Header = full_header w db options path set time in
    let is : IsUp w db = is-up w db sound named up in
    let log : List Logged = log_of w.history db in
    let first : List Logged = said_last log (checkpointed time) in
    let whole : db.end ≡ end_behind log = counts-length 1 log db.end is.whole.log.counts in
    let last : end_behind (backed_up log header) ≡ db.end + 2 = omega (arith, said-end first (stamped time set), said-end log (checkpointed time), whole) in
    let begun : AllByRecursion (λ (p : Pending). least_begin db.transactions db.end ≤ p.begin) (pending log) =
    all_mapped (λ (p : Pending). has_begin db.transactions p.begin ≡ true) (λ p. least_begin db.transactions db.end ≤ p.begin) (λ p own. least-open db.transactions db.end p.begin own) (pending log) is.opens.pending in record {
      files = set-files header ∙ full-files db.files ∙ sym files;
      ends = sym (ap end_behind records ∙ last);
      some = least-some db.transactions db.end (omega (arith, whole)) is.opens.begins;
      order = least-end db.transactions db.end;
      inside = omega arith;
      begun = subst (AllByRecursion (λ (p : Pending). least_begin db.transactions db.end ≤ p.begin)) (sym (ap pending records ∙ still-pending log header)) begun;
    }

-- ---- jobs

-- the current database, in which the job runs
record IsRunning (w : World) (r : Running) : Type 0 where
  is : current_database w ≡ Some r.database
  runs : r.database.job ≡ Some r.job

checked : (w : World) (r : Running) → check_job w ≡ Ok r → IsRunning w r
unfolding check_job
checked w r e =
    let one = passed (or_refuse (current_database w) NoSuchDatabase) _ r e in
    let two = passed (or_refuse one.found.job NoJob) _ r one.then in
    let last = two.then in
    let its : Running = record { database = one.found; job = two.found } in
    let same : its ≡ r = cc in
    subst (IsRunning w) same (record { is = was-found (current_database w) NoSuchDatabase one.found one.is; runs = was-found one.found.job NoJob two.found two.is })

-- none runs in a database that isn't online
runs-online : (lines : RecordLines) (db : Database) (job : Job) → OpenBy lines db → db.job ≡ Some job → db.status ≡ Online
runs-online lines db job opens runs = by db.status refl
  where
    idle : db.status ≢ Online → db.status ≡ Online
    idle off = let none : db.job ≡ None = (opens.offline off).job in let wrong : None ≡ Some job = sym none ∙ runs in absurd cc

    by : (s : Status) → db.status ≡ s → db.status ≡ Online
    by Online is = is
    by (Standby file) is = idle (λ up. let wrong : Standby file ≡ Online = sym is ∙ up in absurd cc)
    by Down is = idle (λ up. let wrong : Down ≡ Online = sym is ∙ up in absurd cc)

pub job-is-of : (w : World) (r : Running) (time : ℕ) (told : Told) → IsSound w → check_job w ≡ Ok r → files_of told ≡ r.database.files → told.records ≡ said_last (log_of w.history r.database) (stamped time r.job.set) → IsHeaderOf told (job_header w r time)
unfolding job_header
job-is-of w r time told sound checks files records =
    let its : IsRunning w r = checked w r checks in
    let db : Database = r.database in
    let log : List Logged = log_of w.history db in
    let named : database_named w.databases db.name ≡ Some db = current-found w db its.is in
    let is : IsUp w db = is-up w db sound named (runs-online w.history db r.job (of-named (OpenBy w.history) w.databases db.name db sound.opens named) its.runs) in
    let fit : IsFitJob log db.end db.transactions r.job = subst (JobIs (IsFitJob log db.end db.transactions)) its.runs is.job in
    let whole : db.end ≡ end_behind log = counts-length 1 log db.end is.whole.log.counts in
    let begun : AllByRecursion (λ (p : Pending). r.job.first ≤ p.begin) (pending log) =
    all_mapped (λ (p : Pending). has_begin db.transactions p.begin ≡ true) (λ p. r.job.first ≤ p.begin) (λ p own. of-begin db.transactions r.job.first p.begin fit.begins own) (pending log) is.opens.pending in
    let still : pending (said_last log (stamped time r.job.set)) ≡ pending log = pending-more log (numbered (end_behind log) (alone (stamped time r.job.set))) in record {
      files = set-files (job_header w r time) ∙ full-files db.files ∙ sym files;
      ends = sym (ap end_behind records ∙ said-end log (stamped time r.job.set) ∙ ap (λ (n : ℕ). n + 1) (sym whole));
      some = fit.some;
      order = fit.first;
      inside = let below = fit.said in omega (arith, below);
      begun = subst (AllByRecursion (λ (p : Pending). r.job.first ≤ p.begin)) (sym (ap pending records ∙ still)) begun;
    }
