-- BACKUP DATABASE as it is planned.
use Rattle.std.proofs.Common.{◌≡◌, ◌<◌, ℕ, ◌+◌, ◌^◌, Bool, true, false, cond, List, [], ◌∷◌, length, Option, Some, None, Result, Ok, refl, sym, ◌∙◌, ap, subst, arith, length-append}
use Rattle.std.specs.Prelude.{◌||◌, ◌&&◌, ◌≤◌, nat_le, not, is_some}
use Rattle.std.specs.List.{AllByRecursion}
use Rattle.std.specs.Str.{bytes_eq}
use Rattle.std.proofs.lemmas.Bool.{and_parts, leb-true, not-false}
use Rattle.std.proofs.lemmas.Bool.Decides.{nat_tests}
use Rattle.std.proofs.lemmas.Slice.Eq.{bytes_eq-Decides}
use Rattle.bk_acts.specs.declared.act.StoredAct.TheVariants.{Checkpointed, Logged as LoggedAct, Based}
use Rattle.bk_acts.specs.Meaning.{Spell}
use Rattle.bk_ids.specs.Name.{same_name}
use Rattle.bk_ids.specs.declared.guid.Guid.{Guid}
use Rattle.bk_ids.specs.declared.record.Rec.{Rec}
use Rattle.bk_items.specs.declared.item.ScriptEntry.{ScriptEntry}
use Rattle.bk_items.specs.declared.item.ScriptItem.TheVariants as script
use Rattle.bk_items.specs.declared.item.UnitName.{UnitName}
use Rattle.bk_items.specs.declared.options.BackupOptions.{BackupOptions}
use Rattle.bk_machine.specs.FitLaws.{said-time}
use Rattle.bk_media_plans.specs.Sets.{MayFinish}
use Rattle.bk_machine.specs.Acts.{latest, Act, based, done, drawn, gone_on, job_set, logged, medium_made, readied, noted, said_time, says, set_drawn, set_sealed}
use Rattle.bk_machine.specs.declared.history_row.HistoryRow.TheVariants.{Backup}
use Rattle.bk_machine.specs.CheckLaws.{is-none, not-refused, passed, second-false, was-found, was-online}
use Rattle.bk_machine.specs.Checks.{limit, online, or_refuse, outside, refuse_if, used_up, is_path, without_job}
use Rattle.bk_machine.specs.JobLaws.{new-other}
use Rattle.bk_machine.specs.declared.job.Job.{Job}
use Rattle.bk_machine.specs.Machine.{May}
use Rattle.bk_machine.specs.MayDo.{HoldsOf, MayDo, MayDoAll, MayLog, MaySay}
use Rattle.bk_machine.specs.NamedLaws.{named-own, of-named}
use Rattle.bk_machine.specs.Outcome.{Outcome}
use Rattle.bk_machine.specs.Sound.{IsOther, IsSound, IsWhole, IsWholeDatabase}
use Rattle.bk_machine.specs.World.{World, Database, database_named, least_begin, log_of, session_numbered, with_database}
use Rattle.bk_machine.specs.statements.Backup.{DoesBackup, ShowsRoom, all_extents, backed_up, check_backup, check_medium, check_unwritten, does_backup, draws_set, full_header, full_job, full_parts, is_whole_backup, most_set_name_bytes, next_position, set_name, started}
use Rattle.bk_shown.specs.Shown.{AreNext}
use Rattle.bk_world.specs.Lines.{RecordLines, log_below}
use Rattle.bk_world.specs.Medium.{Reading, Slot, medium, medium_at}
use Rattle.bk_world.specs.declared.database.Status.TheVariants.{Online}
use Rattle.bk_world.specs.Records.{Logged, Said, checkpointed, more, numbered, stamped}
use Rattle.bk_world.specs.Says.{alone}
use Rattle.bk_world.specs.Telling.{model}
use Rattle.bk_world.specs.declared.header.Header.{Header}
use Rattle.bk_world.specs.declared.transaction.Open.{Open}
use Rattle.bk_world.specs.declared.reply.Reply.{Reply}
use Rattle.bk_world.specs.declared.reply.Reply.TheVariants.{JobStarted, SetMade}
use Rattle.bk_world.specs.declared.rule.Rule.{Rule}
use Rattle.bk_world.specs.declared.rule.Rule.TheVariants.{JobRunning, NoSuchDatabase, NotBuilt}
use Rattle.bk_kept.specs.declared.kept.Database.{Database as KeptDatabase}
use Rattle.bk_kept.specs.declared.kept.Kept.{Kept}
use Rattle.bk_plans.specs.declared.parts.Part.{Part}
use Rattle.bk_plans.specs.declared.parts.Part.TheVariants.{Stored, JobBegun}
use Rattle.bk_plans.specs.declared.parts.Plan.{Plan}
use Rattle.bk_plans.specs.declared.parts.Plan.TheVariants.{Refused, Answered, Turned, Seated, Parts, Readied}
use Rattle.bk_plans.specs.declared.refusal.Refusal.{Refusal}
use Rattle.bk_lemmas.specs.Lists.{all_mapped}
use Rattle.bk_lemmas.specs.Tests.{first_false}
use Rattle.bk_world.specs.CrashLaws.{counts-length}
use Rattle.bk_machine.specs.SaysLaws.{done-says}
use Rattle.bk_media_plans.specs.Backups.{HasRoom, IsBackup, IsBackupPlan, IsBackupReply, IsFullHeader, IsStart, IsStartPlan, PlansChecked, PlansJob, draws_part, position_behind}
use Rattle.bk_plans.specs.Checking.{IsRefused}
use Rattle.bk_kept.specs.Keeps.{Sees, ShowsLog, database_of}
use Rattle.bk_plans.specs.Planned.{IsKeptBehind, IsRefusedBy}
use Rattle.bk_plans.specs.Planning.{AreParts, AreReadying, IsPart, Plans, SealsSet, StartsJob}
use Rattle.bk_kept.specs.Stored.{IsDone}
use Rattle.bk_plans.specs.SaidLaws.{done-marked}
use Rattle.bk_plans.specs.PlanLaws.{DoWhatTheyMay, comes-found, comes-refused, plans-refusal}

-- What was checked.

-- where all units are backed up, the set's name is short enough
short-name : (units : List UnitName) (options : BackupOptions) → is_whole_backup units options ≡ true → length (set_name options.name) ≤ most_set_name_bytes
short-name [] options is = leb-true (length (set_name options.name)) most_set_name_bytes (and_parts _ (nat_le (length (set_name options.name)) most_set_name_bytes) is).1
short-name (unit ∷ units) options is = absurd cc

-- where a backup is checked, its database is found and online, no backup of it runs, its set's name is short enough, and numbers are left
pub record IsChecked (w : World) (options : BackupOptions) (db : Database) : Type 0 where
  pub named : database_named w.databases db.name ≡ Some db
  pub online : db.status ≡ Online
  pub idle : db.job ≡ None
  pub name : length (set_name options.name) ≤ most_set_name_bytes
  pub left : used_up db.end ≡ false
  pub draws : used_up w.counter ≡ false

checked : (w : World) (line : ℕ) (name : List ℕ) (units : List UnitName) (path : List ℕ) (options : BackupOptions) (db : Database) → check_backup w line name units path options ≡ Ok db → IsChecked w options db
unfolding check_backup
checked w line name units path options db e =
    let one = passed (refuse_if (not (is_whole_backup units options && is_path path)) (NotBuilt line)) _ db e in
    let out = passed (outside w) _ db one.then in
    let two = passed (or_refuse (database_named w.databases name) NoSuchDatabase) _ db out.then in
    let three = passed (online two.found) _ db two.then in
    let alone_in = passed (without_job three.found) _ db three.then in
    let unwritten = passed (check_unwritten w.databases path) _ db alone_in.then in
    let room = passed (check_medium (medium_at w.media path)) _ db unwritten.then in
    let four = passed (limit (used_up three.found.end || used_up w.counter)) _ db room.then in
    let last = four.then in
    let same : three.found ≡ db = cc in
    let up = was-online two.found three.found three.is in
    let whole : two.found ≡ db = up.is ∙ same in
    let built : (is_whole_backup units options && is_path path) ≡ true = not-false (is_whole_backup units options && is_path path) (not-refused _ (NotBuilt line) one.found one.is) in
    let free : (used_up three.found.end || used_up w.counter) ≡ false = not-refused (used_up three.found.end || used_up w.counter) _ four.found four.is in
    record {
      named = named-own w.databases name db (was-found (database_named w.databases name) NoSuchDatabase two.found two.is ∙ ap (λ (d : Database). Some d) whole);
      online = subst (λ (d : Database). d.status ≡ Online) same up.up;
      idle = subst (λ (d : Database). d.job ≡ None) same (is-none three.found.job (not-refused (is_some three.found.job) JobRunning alone_in.found alone_in.is));
      name = short-name units options (and_parts (is_whole_backup units options) (is_path path) built).0;
      left = subst (λ (d : Database). used_up d.end ≡ false) same (first_false (used_up three.found.end) (used_up w.counter) free);
      draws = second-false (used_up three.found.end) (used_up w.counter) free;
    }

least-below : (ts : List Open) (n : ℕ) → least_begin ts n ≤ n
least-below [] n = omega arith
least-below (t ∷ ts) n = omega (arith, least-below ts n)

-- a database that is found so in a sound world may make a set now
pub may-make : (w : World) (line : ℕ) (name : List ℕ) (units : List UnitName) (path : List ℕ) (options : BackupOptions) (now : ℕ) (d : KeptDatabase) (set : Guid) (time : ℕ) → IsSound w
    → check_backup w line name units path options ≡ Ok (database_of d) → ShowsLog w.history d → time ≡ said_time w (database_of d) now → MayFinish w d (full_job (database_of d) options path set time)
may-make w line name units path options now d set time sound passes shows time-is =
    let its : IsChecked w options (database_of d) = checked w line name units path options (database_of d) passes in
    let whole : IsWholeDatabase w (database_of d) = of-named (IsWholeDatabase w) w.databases d.name (database_of d) sound.whole.databases its.named in
    let timely : time ≤ latest = subst (λ (t : ℕ). t ≤ latest) (sym time-is) (said-time w (database_of d) now (length d.groups) whole.fits.log) in
    record {
      whole = whole;
      shows = shows;
      kind = refl;
      first = least-below d.transactions d.shown.«end»;
      checkpoint = omega arith;
      ends = omega arith;
      name = its.name;
      expiry = refl;
      start = timely;
      timely = timely;
    }

-- The laws of worlds.

pub record Laws : Type 0 where
  pub may : DoWhatTheyMay
  pub act : (w : World) (act : Act) → IsSound w → MayDo w act → IsSound (done w act)
  pub found : (w : World) (name : List ℕ) (db : Database) (said : List Said) (transactions : List Open) → IsWhole w → database_named w.databases name ≡ Some db → MaySay w db said
      → database_named (says w db said transactions).databases name ≡ Some (gone_on (model (log_of w.history db)) said transactions db)
  pub log : (w : World) (name : List ℕ) (db : Database) (said : List Said) (transactions : List Open) → IsWhole w → database_named w.databases name ≡ Some db → MaySay w db said
      → log_of (says w db said transactions).history (gone_on (model (log_of w.history db)) said transactions db) ≡ more (log_of w.history db) db.end said

-- A database says something.

its-log : (v : World) (name : List ℕ) (db : Database) (said : List Said) (ts : List Open) → database_named v.databases name ≡ Some db → MayDo v (logged name said ts) → MayLog v db said ts
its-log v name db said ts named may = subst (λ (o : Option Database). HoldsOf o (λ db. MayLog v db said ts)) named may

-- other databases are as they were, and so is the backup that runs in each
databases-said : (v : World) (db : Database) (said : List Said) (ts : List Open) → (says v db said ts).databases ≡ with_database v.databases db.name (gone_on (model (log_of v.history db)) said ts)
unfolding says
databases-said v db said ts = refl

still-other : (set : Guid) (change : Database → Database) → ((db : Database) → (change db).job ≡ db.job) → (dbs : List Database) (name : List ℕ) → AllByRecursion (IsOther set) dbs
    → AllByRecursion (IsOther set) (with_database dbs name change)
still-other set change same [] name all = tt
still-other set change same (db ∷ dbs) name all = by (same_name db.name name) (still-other set change same dbs name all.1)
  where
    by : (t : Bool) → AllByRecursion (IsOther set) (with_database dbs name change) → AllByRecursion (IsOther set) (cond t (change db ∷ dbs) (db ∷ with_database dbs name change))
    by true later = (λ job runs. all.0 job (sym (same db) ∙ runs), all.1)
    by false later = (all.0, later)

media-said : (v : World) (db : Database) (said : List Said) (ts : List Open) → (says v db said ts).media ≡ v.media
unfolding says
media-said v db said ts = refl

-- the world behind that
record Behind (v u : World) (name : List ℕ) (new : Database) (rs : List Logged) : Type 0 where
  sound : IsSound u
  named : database_named u.databases name ≡ Some new
  log : log_of u.history new ≡ rs
  media : u.media ≡ v.media

behind : Laws → (v : World) (name : List ℕ) (db : Database) (said : List Said) (ts : List Open) → IsSound v → database_named v.databases name ≡ Some db → MayDo v (logged name said ts)
    → Behind v (done v (logged name said ts)) name (gone_on (model (log_of v.history db)) said ts db) (more (log_of v.history db) db.end said)
behind laws v name db said ts sound named may =
    let says-so : MaySay v db said = (its-log v name db said ts named may).says in
    let is : done v (logged name said ts) ≡ says v db said ts = done-says v name db said ts named in
    record {
      sound = laws.act v (logged name said ts) sound may;
      named = subst (λ (u : World). database_named u.databases name ≡ Some (gone_on (model (log_of v.history db)) said ts db)) (sym is) (laws.found v name db said ts sound.whole named says-so);
      log = subst (λ (u : World). log_of u.history (gone_on (model (log_of v.history db)) said ts db) ≡ more (log_of v.history db) db.end said) (sym is) (laws.log v name db said ts sound.whole named says-so);
      media = subst (λ (u : World). u.media ≡ v.media) (sym is) (media-said v db said ts);
    }

say-done : (v : World) (name : List ℕ) (db : Database) (said : List Said) (ts : List Open) (records : List Rec) → database_named v.databases name ≡ Some db → MayDo v (logged name said ts) → Spell records db.end said
    → AreNext db.files (log_of v.history db) (numbered db.end said) → IsDone v (LoggedAct name ts records) (logged name said ts)
say-done v name db said ts records named may spell next = record {
  means = record { n = db.end; said = said; act_is = refl; spell = spell };
  may = may;
  draws = tt;
  unused = tt;
  from_end = subst (λ (o : Option Database). HoldsOf o (λ db. (others : List Said) × Spell records db.end others)) (sym named) (said, spell);
  marked = tt;
  taken = subst (λ (o : Option Database). HoldsOf o (λ db. AreNext db.files (log_of v.history db) (numbered db.end said))) (sym named) next;
}

-- The set's GUID is drawn.

-- the act of that
abbrev pub draws : Option ℕ → List ℕ → Act
draws None path = medium_made path
draws (Some sets) path = set_drawn

-- behind it there is a medium, and databases and their logs are as they were
record Drawn (w : World) (path : List ℕ) (sets : Option ℕ) (v : World) : Type 0 where
  databases : v.databases ≡ w.databases
  history : v.history ≡ w.history
  slots : List Slot
  there : medium_at v.media path ≡ Some (medium slots)
  part : IsPart w (draws_part sets path) (draws sets path)

drawn-now : (w : World) (path : List ℕ) (sets : Option ℕ) → ShowsRoom (medium_at w.media path) (Ok sets) → used_up w.counter ≡ false → Drawn w path sets (done w (draws sets path))
unfolding done
drawn-now w path None room left = record {
  databases = refl;
  history = refl;
  slots = [];
  there = let same : bytes_eq path path ≡ true = (bytes_eq-Decides path path).1 refl in rw same refl;
  part = record { is = refl; absent = room; draws = left };
}
drawn-now w path (Some sets) room left = record {
  databases = refl;
  history = refl;
  slots = room.0;
  there = room.1;
  part = record { is = refl; draws = left };
}

-- it is the machine's, and so is the position of the set
draws-is : (path : List ℕ) (sets : Option ℕ) (reading : Option Reading) → ShowsRoom reading (Ok sets) → draws sets path ≡ draws_set reading path
draws-is path None reading room = ap (λ r. draws_set r path) (sym room)
draws-is path (Some sets) reading room = ap (λ r. draws_set r path) (sym room.1)

pub position-is : (sets : Option ℕ) (reading : Option Reading) → ShowsRoom reading (Ok sets) → position_behind sets ≡ next_position reading
position-is None reading room = ap next_position (sym room)
position-is (Some sets) reading room = ap (λ n. n + 1) (sym room.2) ∙ ap next_position (sym room.1)

has-room : (sets : Option ℕ) (reading : Option Reading) → ShowsRoom reading (Ok sets) → HasRoom sets
has-room None reading room = tt
has-room (Some sets) reading room = room.3

-- The parts.

module _ (d : KeptDatabase) (sets : Option ℕ) (job : Job) where
  -- what the statement comes to where it is done at once, by the header of its set
  pub outcome_by : Reply → Header → Outcome
  outcome_by answer h = record {
    acts = draws sets job.medium ∷ logged d.name (alone (checkpointed job.start)) d.transactions ∷ logged d.name (alone (stamped job.start job.set)) d.transactions ∷ set_sealed job.medium h ∷ noted (Backup (record { position = position_behind sets; header = h })) ∷ based d.name h ∷ [];
    reply = answer;
  }

  -- and where it only starts
  pub start_outcome : Outcome
  start_outcome = record { acts = draws sets job.medium ∷ logged d.name (alone (checkpointed job.start)) d.transactions ∷ job_set d.name (Some job) ∷ readied false ∷ []; reply = JobStarted }

  module _ (laws : Laws) (w : World) (sound : IsSound w) (shows : ShowsLog w.history d) (options : BackupOptions) (its : IsChecked w options (database_of d)) (room : ShowsRoom (medium_at w.media job.medium) (Ok sets))
      (kept : ℕ) (kept_is : IsKeptBehind d kept) (may-draw : MayDo w (draws sets job.medium)) (may-start : MayDo (done w (draws sets job.medium)) (logged d.name (alone (checkpointed job.start)) d.transactions)) where
    abbrev db : Database
    db = database_of d

    abbrev rs : List Logged
    rs = log_below w.history d.path d.shown.«end»

    abbrev start_said : List Said
    start_said = alone (checkpointed job.start)

    abbrev finish_said : List Said
    finish_said = alone (stamped job.start job.set)

    -- behind the draw
    abbrev made : World
    made = done w (draws sets job.medium)

    drew : Drawn w job.medium sets made
    drew = drawn-now w job.medium sets room its.draws

    made-sound : IsSound made
    made-sound = laws.act w (draws sets job.medium) sound may-draw

    made-named : database_named made.databases d.name ≡ Some db
    made-named = ap (λ dbs. database_named dbs d.name) drew.databases ∙ its.named

    made-log : log_of made.history db ≡ rs
    unfolding log_of
    made-log = ap (λ h. log_below h d.path d.shown.«end») drew.history

    -- behind the checkpoint
    abbrev started_world : World
    started_world = done made (logged d.name start_said d.transactions)

    abbrev started_db : Database
    started_db = gone_on (model (log_of made.history db)) start_said d.transactions db

    start : Behind made started_world d.name started_db (more (log_of made.history db) db.end start_said)
    start = behind laws made d.name db start_said d.transactions made-sound made-named may-start

    started-log : log_of started_world.history started_db ≡ more rs db.end start_said
    started-log = start.log ∙ ap (λ l. more l db.end start_said) made-log

    -- what is said may come next
    end-is : d.shown.«end» ≡ length rs + 1
    end-is = let counted : d.shown.«end» ≡ 1 + length rs = counts-length 1 rs d.shown.«end» shows.log.counts in omega (arith, counted)

    low : d.shown.«end» + 1 < 2 ^ 62
    low = let left : used_up d.shown.«end» ≡ false = its.left in grind (arith, nat_tests, left)

    made-shows : ShowsLog made.history d
    made-shows = subst (λ (h : RecordLines). ShowsLog h d) (sym drew.history) shows

    start-done : IsDone made (Checkpointed d.name job.start kept) (logged d.name start_said d.transactions)
    start-done = done-marked made d job.start (Checkpointed d.name job.start kept) (record { kept = kept; is = refl; kept_is = kept_is }) made-named made-shows may-start (omega (arith, low))

    -- it is done at once
    module _ (answer : Reply) (parts : List Part) (b : IsBackup d sets job parts) (kept-same : b.kept ≡ kept) (may : MayDoAll w (outcome_by answer b.header).acts) where
      may-finish : MayDo started_world (logged d.name finish_said d.transactions)
      unfolding outcome_by
      may-finish = may.1.1.0

      -- behind the stamp
      abbrev finished : World
      finished = done started_world (logged d.name finish_said d.transactions)

      abbrev finished_db : Database
      finished_db = gone_on (model (log_of started_world.history started_db)) finish_said d.transactions started_db

      finish : Behind started_world finished d.name finished_db (more (log_of started_world.history started_db) started_db.end finish_said)
      finish = behind laws started_world d.name started_db finish_said d.transactions start.sound start.named may-finish

      finish-done : IsDone started_world (LoggedAct d.name d.transactions b.finish) (logged d.name finish_said d.transactions)
      finish-done =
          let number : d.shown.«end» + 1 ≡ length (more rs db.end start_said) + 1 = omega (arith, end-is, length-append rs (numbered db.end start_said)) in
          say-done started_world d.name started_db finish_said d.transactions b.finish start.named may-finish b.spell
          (subst (λ l. AreNext d.files l (numbered (d.shown.«end» + 1) finish_said)) (sym started-log) (record { number = number; low = low; may = tt; placed = tt }, tt))

      sealed : SealsSet finished job.medium b.header (set_sealed job.medium b.header)
      unfolding outcome_by
      sealed = record {
        is = refl;
        may = may.1.1.1.0;
        slots = drew.slots;
        there = ap (λ m. medium_at m job.medium) (finish.media ∙ start.media) ∙ drew.there;
      }

      row-noted : noted (Backup (record { position = position_behind sets; header = b.header })) ≡ noted (Backup (record { position = b.position; header = b.row_header }))
      row-noted =
          ap (λ (n : ℕ). noted (Backup (record { position = n; header = b.header }))) (sym (b.position_is (has-room sets (medium_at w.media job.medium) room)))
          ∙ ap (λ (h : Header). noted (Backup (record { position = b.position; header = h }))) (b.is_header w shows ∙ sym (b.is_row w shows))

      base-done : (v : World) → IsDone v (Based d.name b.base) (based d.name b.header)
      base-done v = record { means = ap (based d.name) (b.is_header w shows ∙ sym (b.is_base w shows)); may = tt; draws = tt; unused = tt; from_end = tt; marked = tt; taken = tt }

      marked-done : IsDone made (Checkpointed d.name job.start b.kept) (logged d.name start_said d.transactions)
      marked-done = subst (λ (n : ℕ). IsDone made (Checkpointed d.name job.start n) (logged d.name start_said d.transactions)) (sym kept-same) start-done

      pub parts-done : AreParts w parts (outcome_by answer b.header).acts
      unfolding outcome_by
      parts-done =
          subst (λ (ps : List Part). AreParts w ps (outcome_by answer b.header).acts) (sym b.are)
          (drew.part, (marked-done, (finish-done, (sealed, (row-noted, (base-done _, tt))))))

    -- it only starts: its set is drawn now, so that no backup that runs has it
    module _ (set-is : job.set ≡ drawn w w.counter) (whole : job.left ≡ all_extents d.files) (may-begin : MayDo started_world (job_set d.name (Some job))) where
      new-set : AllByRecursion (IsOther job.set) made.databases
      new-set =
          subst (AllByRecursion (IsOther job.set)) (sym drew.databases)
          (subst (λ (set : Guid). AllByRecursion (IsOther set) w.databases) (sym set-is)
          (all_mapped (IsWholeDatabase w) (IsOther (drawn w w.counter)) (new-other w) w.databases sound.whole.databases))

      still-new : AllByRecursion (IsOther job.set) started_world.databases
      still-new =
          subst (λ (v : World). AllByRecursion (IsOther job.set) v.databases) (sym (done-says made d.name db start_said d.transactions made-named))
          (subst (AllByRecursion (IsOther job.set)) (sym (databases-said made db start_said d.transactions))
          (still-other job.set (gone_on (model (log_of made.history db)) start_said d.transactions) (λ o. refl) made.databases d.name new-set))

      pub starts-job : StartsJob started_world d.name job
      starts-job = record { db = started_db; found = start.named; none = its.idle; may = may-begin; whole = whole; apart = still-new }

      pub start-parts : (parts : List Part) → parts ≡ draws_part sets job.medium ∷ Stored (Checkpointed d.name job.start kept) ∷ JobBegun d.name job ∷ []
          → AreParts w parts (draws sets job.medium ∷ logged d.name start_said d.transactions ∷ job_set d.name (Some job) ∷ [])
      start-parts parts are =
          subst (λ (ps : List Part). AreParts w ps (draws sets job.medium ∷ logged d.name start_said d.transactions ∷ job_set d.name (Some job) ∷ [])) (sym are)
          (drew.part, (start-done, (record { is = refl; starts = starts-job }, tt)))

-- The outcome is the machine's.

module _ (d : KeptDatabase) (path : List ℕ) (sets : Option ℕ) (options : BackupOptions) (set : Guid) (time : ℕ) (w : World) (now : ℕ) (room : ShowsRoom (medium_at w.media path) (Ok sets)) (set-is : set ≡ drawn w w.counter)
    (time-is : time ≡ said_time w (database_of d) now) where
  abbrev job_of : Guid → ℕ → Job
  job_of s t = full_job (database_of d) options path s t

  abbrev last : ℕ
  last = d.shown.«end» + 2

  abbrev least : ℕ
  least = least_begin d.transactions d.shown.«end»

  pub is-outcome : (answer : Reply) (h : Header) → h ≡ full_header w (database_of d) options path set time → IsBackupReply d sets (full_job (database_of d) options path set time) answer
      → outcome_by d sets (full_job (database_of d) options path set time) answer h ≡ does_backup false w path options (drawn w w.counter) (said_time w (database_of d) now) (database_of d)
  unfolding full_header outcome_by
  is-outcome answer h is replies =
      ap (outcome_by d sets (job_of set time) answer) is
      ∙ ap (λ (r : Reply). record { acts = draws sets path ∷ full_parts (position_behind sets) (database_of d) path (full_header w (database_of d) options path set time); reply = r }) (replies (has-room sets (medium_at w.media path) room))
      ∙ ap (λ (a : Act). record { acts = a ∷ full_parts (position_behind sets) (database_of d) path (full_header w (database_of d) options path set time); reply = SetMade (position_behind sets) least d.shown.«end» last }) (draws-is path sets (medium_at w.media path) room)
      ∙ ap (λ (n : ℕ). record { acts = draws_set (medium_at w.media path) path ∷ full_parts n (database_of d) path (full_header w (database_of d) options path set time); reply = SetMade n least d.shown.«end» last }) (position-is sets (medium_at w.media path) room)
      ∙ ap (λ (s : Guid). backed_up (medium_at w.media path) (database_of d) path (full_header w (database_of d) options path s time)) set-is
      ∙ ap (λ (t : ℕ). backed_up (medium_at w.media path) (database_of d) path (full_header w (database_of d) options path (drawn w w.counter) t)) time-is

  pub is-start : start_outcome d sets (full_job (database_of d) options path set time) ≡ does_backup true w path options (drawn w w.counter) (said_time w (database_of d) now) (database_of d)
  unfolding start_outcome
  is-start =
      ap (λ (a : Act). record { acts = a ∷ logged d.name (alone (checkpointed time)) d.transactions ∷ job_set d.name (Some (job_of set time)) ∷ readied false ∷ []; reply = JobStarted }) (draws-is path sets (medium_at w.media path) room)
      ∙ ap (λ (s : Guid). started (medium_at w.media path) (database_of d) (job_of s time)) set-is
      ∙ ap (λ (t : ℕ). started (medium_at w.media path) (database_of d) (job_of (drawn w w.counter) t)) time-is

module _ (k : Kept) (line now : ℕ) (name : List ℕ) (units : List UnitName) (path : List ℕ) (options : BackupOptions) (room : Result (Option ℕ) Rule) where
  abbrev Known : World → Type 0
  Known w = ShowsRoom (medium_at w.media path) room

  abbrev drawn_set : Guid
  drawn_set = record { high = k.number; low = k.counter }

  abbrev entry : ScriptEntry
  entry = record { item = script.BackupDatabase name units path options; line = line }

  pub backup-refused : (refusal : Refusal) (plan : Plan) → IsRefusedBy refusal plan
      → ((w : World) → Sees w k → ShowsRoom (medium_at w.media path) room → IsRefused refusal (check_backup w line name units path options))
      → Plans k (λ w. ShowsRoom (medium_at w.media path) room) (record { item = script.BackupDatabase name units path options; line = line }) now plan
  unfolding May
  backup-refused refusal plan is refuses =
      plans-refusal k Known entry now (λ w. check_backup w line name units path options) refusal plan is
      (λ w sound sees known. refuses w sees known) (λ w rule e. comes-refused (check_backup w line name units path options) (DoesBackup w path options now) rule e)

  -- what is known where it is checked
  module _ (laws : Laws) (d : KeptDatabase) (sets : Option ℕ) (time : ℕ) (room-is : room ≡ Ok sets)
      (passes : (w : World) → Sees w k → ShowsRoom (medium_at w.media path) room → check_backup w line name units path options ≡ Ok (database_of d))
      (shows : (w : World) → Sees w k → ShowsLog w.history d) (time-is : (w : World) → ShowsLog w.history d → time ≡ said_time w (database_of d) now) where
    abbrev job : Job
    job = full_job (database_of d) options path drawn_set time

    its-room : (w : World) → Known w → ShowsRoom (medium_at w.media path) (Ok sets)
    its-room w known = subst (ShowsRoom (medium_at w.media path)) room-is known

    set-drawn : (w : World) → Sees w k → drawn_set ≡ drawn w w.counter
    set-drawn w sees = ap (λ (n : ℕ). record { high = n; low = k.counter }) (sym sees.number) ∙ ap (λ (n : ℕ). record { high = w.instance; low = n }) (sym sees.counter)

    -- it may come to what it does, as the session says
    may-back : (starts : Bool) (outcome : Outcome) (w : World) → Sees w k → Known w → starts ≡ (session_numbered w.sessions w.session).starts
        → outcome ≡ does_backup starts w path options (drawn w w.counter) (said_time w (database_of d) now) (database_of d) → May w entry now outcome
    unfolding May
    may-back starts outcome w sees known starts-is does =
        comes-found (check_backup w line name units path options) (DoesBackup w path options now) (database_of d) outcome (passes w sees known)
        (does ∙ ap (λ (s : Bool). does_backup s w path options (drawn w w.counter) (said_time w (database_of d) now) (database_of d)) starts-is)

    -- what may be done of it, up to its checkpoint
    its-checks : (w : World) → Sees w k → Known w → IsChecked w options (database_of d)
    its-checks w sees known = checked w line name units path options (database_of d) (passes w sees known)

    may-done : (answer : Reply) (h : Header) → ((w : World) → ShowsLog w.history d → h ≡ full_header w (database_of d) options path drawn_set time) → IsBackupReply d sets job answer
        → ((w : World) → Sees w k → false ≡ (session_numbered w.sessions w.session).starts) → (w : World) → Sees w k → Known w → May w entry now (outcome_by d sets job answer h)
    may-done answer h is replies starts-is w sees known =
        may-back false (outcome_by d sets job answer h) w sees known (starts-is w sees)
        (is-outcome d path sets options drawn_set time w now (its-room w known) (set-drawn w sees) (time-is w (shows w sees)) answer h (is w (shows w sees)) replies)

    is-full : (h : Header) → IsFullHeader d job h → (w : World) → ShowsLog w.history d → h ≡ full_header w (database_of d) options path drawn_set time
    unfolding full_header
    is-full h is w shown = is w shown

    done-replies : (answer : Reply) (h : Header) → (outcome_by d sets job answer h).reply ≡ answer
    unfolding outcome_by
    done-replies answer h = refl

    done-acts : (answer : Reply) (parts : List Part) (b : IsBackup d sets job parts) (w : World) → IsSound w → Sees w k → Known w → May w entry now (outcome_by d sets job answer b.header) → AreParts w parts (outcome_by d sets job answer b.header).acts
    unfolding outcome_by
    done-acts answer parts b w sound sees known may =
        let all : MayDoAll w (outcome_by d sets job answer b.header).acts = laws.may w entry now (outcome_by d sets job answer b.header) sound may in
        parts-done d sets job laws w sound (shows w sees) options (its-checks w sees known) (its-room w known) b.kept b.kept_is all.0 all.1.0 answer parts b refl all

    done-now : (plan : Plan) → ((w : World) → Sees w k → false ≡ (session_numbered w.sessions w.session).starts) → IsBackupPlan d sets job plan → Plans k Known entry now plan
    done-now (Parts parts answer) starts-is is = record {
      outcome = outcome_by d sets job answer is.0.header;
      replies = done-replies answer is.0.header;
      may = λ w sound sees known. may-done answer is.0.header (is-full is.0.header is.0.is_header) is.1 starts-is w sees known;
      acts = λ w sound sees known. done-acts answer parts.items is.0 w sound sees known (may-done answer is.0.header (is-full is.0.header is.0.is_header) is.1 starts-is w sees known);
    }
    done-now (Refused rule) starts-is is = absurd is
    done-now (Answered reply) starts-is is = absurd is
    done-now (Turned name) starts-is is = absurd is
    done-now (Seated session) starts-is is = absurd is
    done-now (Readied parts starts answer) starts-is is = absurd is

    may-begin : ((w : World) → Sees w k → true ≡ (session_numbered w.sessions w.session).starts) → (w : World) → Sees w k → Known w → May w entry now (start_outcome d sets job)
    may-begin starts-is w sees known =
        may-back true (start_outcome d sets job) w sees known (starts-is w sees) (is-start d path sets options drawn_set time w now (its-room w known) (set-drawn w sees) (time-is w (shows w sees)))

    begun-replies : (start_outcome d sets job).reply ≡ JobStarted
    unfolding start_outcome
    begun-replies = refl

    begun-acts : (parts : List Part) (starts : Bool) → IsStart d sets job parts → starts ≡ false → (w : World) → IsSound w → Sees w k → Known w → May w entry now (start_outcome d sets job)
        → AreReadying w parts starts (start_outcome d sets job).acts
    unfolding start_outcome
    begun-acts parts starts is off w sound sees known may =
        let all : MayDoAll w (start_outcome d sets job).acts = laws.may w entry now (start_outcome d sets job) sound may in
        record {
          front = draws sets path ∷ logged d.name (alone (checkpointed time)) d.transactions ∷ job_set d.name (Some job) ∷ [];
          parts_are = start-parts d sets job laws w sound (shows w sees) options (its-checks w sees known) (its-room w known) is.kept is.kept_is all.0 all.1.0 (set-drawn w sees) refl all.1.1.0 parts is.are;
          are = ap (λ (b : Bool). draws sets path ∷ logged d.name (alone (checkpointed time)) d.transactions ∷ job_set d.name (Some job) ∷ readied b ∷ []) (sym off);
        }

    begun-now : (plan : Plan) → ((w : World) → Sees w k → true ≡ (session_numbered w.sessions w.session).starts) → IsStartPlan d sets job plan → Plans k Known entry now plan
    begun-now (Readied parts starts answer) starts-is is = record {
      outcome = start_outcome d sets job;
      replies = begun-replies ∙ sym is.2;
      may = λ w sound sees known. may-begin starts-is w sees known;
      acts = λ w sound sees known. begun-acts parts.items starts is.0 is.1 w sound sees known (may-begin starts-is w sees known);
    }
    begun-now (Refused rule) starts-is is = absurd is
    begun-now (Answered reply) starts-is is = absurd is
    begun-now (Turned name) starts-is is = absurd is
    begun-now (Seated session) starts-is is = absurd is
    begun-now (Parts parts answer) starts-is is = absurd is

    pub backup-made : (plan : Plan) → PlansChecked k d sets (full_job (database_of d) options path (record { high = k.number; low = k.counter }) time) plan
        → Plans k (λ w. ShowsRoom (medium_at w.media path) room) (record { item = script.BackupDatabase name units path options; line = line }) now plan
    backup-made plan checked = by checked.starts checked.starts_is checked.plans
      where
        by : (starts : Bool) → ((w : World) → Sees w k → starts ≡ (session_numbered w.sessions w.session).starts) → PlansJob starts d sets job plan → Plans k Known entry now plan
        by true is plans = begun-now plan is plans
        by false is plans = done-now plan is plans
