-- BACKUP DATABASE seals a sound set.
use Rattle.std.proofs.Common.{◌≡◌, ◌≢◌, ◌<◌, ◌≤◌, ◌⊎◌, inl, inr, ℕ, ◌+◌, true, false, List, [], ◌∷◌, ◌++◌, length, map, Option, None, Some, refl, sym, ◌∙◌, ap, subst, arith, Bool}
use Rattle.std.specs.Prelude.{◌&&◌, ◌||◌, not, Ok}
use Rattle.std.specs.List.{AllByRecursion}
use Rattle.bk_ids.specs.declared.guid.Guid.{Guid}
use Rattle.bk_ids.specs.declared.path.Branch.{Branch}
use Rattle.bk_ids.specs.Path.{branch_at, last_branch}
use Rattle.bk_items.specs.declared.item.UnitName.{UnitName}
use Rattle.bk_items.specs.declared.options.BackupOptions.{BackupOptions}
use Rattle.bk_world.specs.declared.database.FileSpec.{FileSpec}
use Rattle.bk_world.specs.declared.database.Status.TheVariants.{Online}
use Rattle.bk_world.specs.declared.header.Header.{Header}
use Rattle.bk_world.specs.declared.rule.Limit.TheVariants.{Lsn}
use Rattle.bk_world.specs.declared.rule.Rule.TheVariants.{LimitReached, NoSuchDatabase, NotBuilt}
use Rattle.bk_world.specs.SaidLaws.{line_of-appended}
use Rattle.bk_world.specs.Lines.{MayGoOn, RecordLine, RecordLines, line_on, log_below, said_on_last}
use Rattle.bk_world.specs.Medium.{Reading, medium, medium_at, with_medium}
use Rattle.bk_world.specs.Pending.{pending}
use Rattle.bk_world.specs.Records.{Logged, Said, checkpointed, more, numbered, stamped}
use Rattle.bk_world.specs.Says.{alone}
use Rattle.bk_world.specs.Telling.{model, telling, time}
use Rattle.bk_ids.specs.Name.{lowered}
use Rattle.bk_lemmas.specs.Lists.{all_mapped}
use Rattle.bk_lemmas.specs.Tests.{first_false}
use Rattle.bk_machine.specs.declared.history_row.HistoryRow.{HistoryRow}
use Rattle.bk_machine.specs.declared.history_row.HistoryRow.TheVariants as kind
use Rattle.bk_machine.proofs.Keeping.{checkpoint-least}
use Rattle.bk_machine.proofs.statements.Firsts.{first-begins, first-checkpoint, first-some}
use Rattle.bk_machine.specs.ReadyLaws.{holds-of}
use Rattle.bk_machine.specs.Acts.{Act, latest, based, done, drawn, gone_on, logged, noted, said_time, says, set_sealed, job_set, readied}
use Rattle.bk_machine.specs.Built.{IsBuilt, IsBuiltLog, SayNoLoad, SaysNoLoad}
use Rattle.bk_machine.specs.Checks.{is_path, kept_numbers, last_number, limit, online, or_refuse, outside, refuse_if, used_up, without_job}
use Rattle.bk_machine.specs.FitLaws.{said-time}
use Rattle.bk_machine.specs.Fits.{FitsLog, FitsSet}
use Rattle.bk_machine.specs.JobLaws.{new-other}
use Rattle.bk_machine.specs.MayDo.{MayDo, MayDoAll, MayRun}
use Rattle.bk_machine.specs.Sound.{AreNumbered, IsHeld, IsLog, IsOther, IsPassed, IsReached, IsSound, IsSoundSet, IsWholeDatabase, files_of_set, storage_of}
use Rattle.bk_machine.specs.declared.job.Job.{Job}
use Rattle.bk_machine.specs.World.{World, Database, database_named, log_of, session_numbered, with_database}
use Rattle.bk_machine.specs.statements.Backup.{check_backup, check_medium, draws_set, full_header, full_parts, is_whole_backup, next_position, DoesBackup, check_unwritten, does_backup, full_job}
use Rattle.bk_machine.proofs.Acting.{act-sound}
use Rattle.bk_machine.proofs.ActsSays.{gone_on-is}
use Rattle.bk_machine.proofs.Cutting.{HasNumbers, IsOwn, OpensOwn}
use Rattle.bk_machine.proofs.Ends.{IsSteady}
use Rattle.bk_machine.proofs.Fitting.{fits-more}
use Rattle.bk_machine.proofs.LeftNumbers.{below-kept, numbers-there}
use Rattle.bk_machine.proofs.Loads.{BuiltIn, act-built}
use Rattle.bk_machine.specs.NamedLaws.{all-with, named-own, of-named}
use Rattle.bk_machine.specs.CheckLaws.{Up, not-refused, passed, was-found, was-online}
use Rattle.bk_machine.specs.Outcome.{Outcome}
use Rattle.bk_machine.proofs.statements.Checkpoint.{checkpoint-tells, tells-left, leaves-one}
use Rattle.bk_machine.proofs.statements.Facts.{Facts, WritesOnly, facts-of, opens-those, own-checkpoint, own-stamp}
use Rattle.bk_machine.proofs.statements.Numbering.{numbers-loud}
use Rattle.bk_machine.specs.UpLaws.{IsUp, is-up}
use Rattle.bk_machine.proofs.statements.Said.{MayTell, done-is, log-after, may-do, sound-after, up-after}
use Rattle.bk_machine.proofs.statements.Telling.{TellsOn, tells-checkpoint, tells-stamp}

-- ---- what was checked

-- a database that is online and has numbers, found by its own name
record IsFound (w : World) (db : Database) : Type 0 where
  named : database_named w.databases db.name ≡ Some db
  up : db.status ≡ Online
  low : used_up db.end ≡ false

checked : (w : World) (line : ℕ) (name : List ℕ) (units : List UnitName) (path : List ℕ) (options : BackupOptions) (db : Database) → check_backup w line name units path options ≡ Ok db → IsFound w db
unfolding check_backup
checked w line name units path options db e =
    let one = passed (refuse_if (not (is_whole_backup units options && is_path path)) (NotBuilt line)) _ db e in
    let out = passed (outside w) _ db one.then in
    let two = passed (or_refuse (database_named w.databases name) NoSuchDatabase) _ db out.then in
    let three = passed (online two.found) _ db two.then in
    let none = passed (without_job three.found) _ db three.then in
    let unwritten = passed (check_unwritten w.databases path) _ db none.then in
    let fits = passed (check_medium (medium_at w.media path)) _ db unwritten.then in
    let four = passed (limit (used_up three.found.end || used_up w.counter)) _ db fits.then in
    let up : Up two.found three.found = was-online two.found three.found three.is in
    let last = four.then in
    let same : three.found ≡ db = cc in
    let whole : two.found ≡ db = up.is ∙ same in
    record {
      named = named-own w.databases name db (was-found (database_named w.databases name) NoSuchDatabase two.found two.is ∙ ap (λ (d : Database). Some d) whole);
      up = subst (λ (d : Database). d.status ≡ Online) whole up.online;
      low = subst (λ (d : Database). used_up d.end ≡ false) same
          (first_false (used_up three.found.end) (used_up w.counter) (not-refused (used_up three.found.end || used_up w.counter) (LimitReached Lsn) four.found four.is));
    }

-- ---- the stamp changes nothing

stamp-tells : (w : World) (db : Database) (at : ℕ) (set : Guid) (r : IsUp w db) → at ≤ latest → db.end ≤ kept_numbers + 16 → MayTell w db (alone (stamped at set))
stamp-tells w db at set r timely low =
    let t = tells-stamp (log_of w.history db) db.end at set in
    let fits : FitsLog (length db.groups) (more (log_of w.history db) db.end (alone (stamped at set))) = fits-more (length db.groups) (log_of w.history db) db.end (alone (stamped at set)) r.whole.fits.log t.tables (timely, tt) in
    record { may = record { online = r.up; may = (tt, tt); tables = subst (AreNumbered 1) (sym t.tables) r.whole.log.tables; places = (tt, tt); fits = fits; marks = inl (tt, tt) }; none = (λ b. refl, tt); same = t.pending; left = tells-left w db r low; leaves = leaves-one w db (record { begin = 0; deed = stamped at set }) r t.pending low }

-- ---- what is held

-- an entry that comes last reaches each number up to its own
reached-last : (rs : List Logged) (r : Logged) (k : ℕ) → k ≤ r.lsn → telling r.deed ≢ None → IsReached (rs ++ r ∷ []) k
reached-last [] r k le told = inl (le, told)
reached-last (s ∷ rs) r k le told = inr (reached-last rs r k le told)

-- behind an entry that is said at the end of a path, its last branch passed each number up to it
pub passed-last : (h : RecordLines) (db : Database) (on : MayGoOn h db.path db.end) (s : Said) (k : ℕ) → k ≤ db.end → telling s.deed ≢ None → IsPassed (said_on_last h (last_branch db.path) (numbered db.end (s ∷ []))) (last_branch db.path) k
passed-last h db on s k le told =
    subst (λ (b : Option Guid). IsPassed (said_on_last h b (numbered db.end (s ∷ []))) b k) (sym on.last)
    (subst (λ (line : RecordLine). IsReached line.records k) (sym (line_of-appended h on.branch (numbered db.end (s ∷ [])) on.there)) (reached-last (line_on h on.branch).records _ k le told))

-- ---- the set

pub files-same : (h : Header) (files : List FileSpec) → files_of_set (record h { files = map (λ file. record { spec = file; in_set = true }) files }) ≡ files
files-same h [] = refl
files-same h (f ∷ files) = ap (λ (rest : List FileSpec). f ∷ rest) (files-same h files)

-- ---- the first part

-- a world in which a GUID is drawn, with these media
abbrev drawing : World → List (List ℕ × Reading) → World
drawing w media = record w { counter = w.counter + 1; media = media }

-- an act that draws the GUID of a set, and writes to no other medium
record Draws (w : World) (path : List ℕ) (act : Act) : Type 0 where
  media : List (List ℕ × Reading)
  does : done w act ≡ drawing w media
  may : MayDo w act
  writes : WritesOnly (λ at. at ≡ path) act
  opens : OpensOwn w act
  own : IsOwn w act
  numbers : HasNumbers w act
  steady : IsSteady act
  plain : SaysNoLoad w act

draws : (w : World) (path : List ℕ) (before : Option Reading) → Draws w path (draws_set before path)
unfolding done
draws w path None = record { media = with_medium w.media path (medium []); does = refl; may = tt; writes = refl; opens = tt; own = tt; numbers = tt; steady = tt; plain = tt }
draws w path (Some reading) = record { media = w.media; does = refl; may = tt; writes = tt; opens = tt; own = tt; numbers = tt; steady = tt; plain = tt }

-- ---- the set is new

-- behind what the database says no backup has it
new-apart : (w : World) (db : Database) (said : List Said) → IsSound w
    → AllByRecursion (λ (o : Database). lowered o.name ≢ lowered db.name → IsOther (drawn w w.counter) o) (with_database w.databases db.name (gone_on (model (log_of w.history db)) said db.transactions))
new-apart w db said sound =
    let change : Database → Database = gone_on (model (log_of w.history db)) said db.transactions in
    let stays : (o : Database) → (change o).job ≡ o.job = λ o. ap (λ (d : Database). d.job) (gone_on-is (model (log_of w.history db)) said db.transactions o).2 in
    all_mapped (IsOther (drawn w w.counter)) (λ (o : Database). lowered o.name ≢ lowered db.name → IsOther (drawn w w.counter) o) (λ o one other. one) (with_database w.databases db.name change)
    (all-with (IsWholeDatabase w) (IsOther (drawn w w.counter)) w.databases db.name change sound.whole.databases (λ o is k has. new-other w o is k (sym (stays o) ∙ has)) (λ o is. new-other w o is))

-- ---- the parts

module _ (w : World) (db : Database) (path : List ℕ) (options : BackupOptions) (now : ℕ) (sound : IsSound w) (r : IsUp w db) (low : db.end < kept_numbers) (act : Act) (draw : Draws w path act) (position : ℕ) where
  abbrev at : ℕ
  at = said_time w db now

  abbrev set : Guid
  set = drawn w w.counter

  abbrev header : Header
  header = full_header w db options path (drawn w w.counter) (said_time w db now)

  abbrev row : HistoryRow
  row = kind.Backup (record { position = position; header = full_header w db options path (drawn w w.counter) (said_time w db now) })

  timely : said_time w db now ≤ latest
  timely = said-time w db now (length db.groups) r.whole.fits.log

  -- behind the first part
  abbrev made : World
  made = drawing w draw.media

  made-sound : IsSound (drawing w draw.media)
  made-sound = subst IsSound draw.does (act-sound w act sound draw.may)

  made-up : IsUp (drawing w draw.media) db
  made-up = is-up (drawing w draw.media) db made-sound r.named r.up

  -- behind the checkpoint at its start
  abbrev start_said : List Said
  start_said = alone (checkpointed at)

  start-tells : MayTell made db start_said
  start-tells = checkpoint-tells made db at made-up timely (omega (arith, low))

  abbrev started : World
  started = says made db start_said db.transactions

  abbrev started_db : Database
  started_db = gone_on (model (log_of made.history db)) start_said db.transactions db

  started-sound : IsSound started
  started-sound = sound-after made db start_said made-sound made-up start-tells

  started-up : IsUp started started_db
  started-up = up-after made db start_said made-sound made-up start-tells refl r.up

  -- behind the stamp at its finish
  abbrev finish_said : List Said
  finish_said = alone (stamped at set)

  finish-tells : MayTell started started_db finish_said
  finish-tells = stamp-tells started started_db at set started-up timely (omega (arith, low))

  abbrev finished : World
  finished = says started started_db finish_said db.transactions

  abbrev finished_db : Database
  finished_db = gone_on (model (log_of started.history started_db)) finish_said db.transactions started_db

  finished-up : IsUp finished finished_db
  finished-up = up-after started started_db finish_said started-sound started-up finish-tells refl r.up

  finished-log : log_of finished.history finished_db ≡ more (more (log_of w.history db) db.end start_said) started_db.end finish_said
  unfolding done
  finished-log =
      log-after started started_db finish_said started-sound started-up finish-tells
      ∙ ap (λ rs. more rs started_db.end finish_said) (log-after made db start_said made-sound made-up start-tells)

  -- what it shows is held: its last branch passed the stamp
  finished-held : IsHeld finished.history db.path finished_db.end
  unfolding says
  finished-held k positive lt = by (finished-up.whole.held k positive lt)
    where
      by : ((finished_db.status ≡ Online) × (branch_at finished_db.path k ≡ last_branch finished_db.path)) ⊎ IsPassed finished.history (branch_at finished_db.path k) k → IsPassed finished.history (branch_at db.path k) k
      by (inl last) = subst (λ b. IsPassed finished.history b k) (sym last.1) (passed-last started.history started_db (started-up.whole.online r.up).goes_on _ k (omega (arith, lt)) (λ e. absurd cc))
      by (inr is) = is

  sealed : IsSoundSet finished header
  unfolding full_header log_of says done
  sealed =
      let end : finished_db.end ≡ db.end + 2 = omega arith in
      let left : finished_db.end + (length (pending (log_of finished.history finished_db)) + (length db.transactions + 16)) ≤ last_number =
      numbers-there (log_of finished.history finished_db) finished_db.end db.transactions finished-up.opens (omega (arith, low)) in
      let one : TellsOn (log_of w.history db) (more (log_of w.history db) db.end start_said) at = tells-checkpoint (log_of w.history db) db.end at in
      let two : TellsOn (more (log_of w.history db) db.end start_said) (more (more (log_of w.history db) db.end start_said) started_db.end finish_said) at = tells-stamp (more (log_of w.history db) db.end start_said) started_db.end at set in
      let log : log_below finished.history db.path (db.end + 2) ≡ more (more (log_of w.history db) db.end start_said) started_db.end finish_said = ap (log_below finished.history db.path) (sym end) ∙ finished-log in record {
        log = subst (λ files. IsLog files (log_below finished.history db.path (db.end + 2)) (db.end + 2)) (sym (files-same header db.files))
            (subst (λ n. IsLog db.files (log_below finished.history db.path n) n) end finished-up.whole.log);
        path = finished-up.whole.path;
        starts = subst (λ n. AllByRecursion (λ (b : Branch). b.start < n) db.path) end finished-up.whole.starts;
        drawn = finished-up.whole.drawn;
        set = λ own. omega arith;
        family = finished-up.whole.family;
        held = subst (IsHeld finished.history db.path) end finished-held;
        model = sym (ap model log ∙ two.model ∙ one.model);
        finish = sym (ap time log ∙ two.time);
        numbers = subst (λ n. n + (length (pending (log_below finished.history db.path n)) + 1) ≤ last_number) end (omega (arith, left));
        fits = subst (λ files. FitsSet (record { groups = db.groups; files = files; log_name = db.log_name; log_path = db.log_path }) db.path (log_below finished.history db.path (db.end + 2))) (sym (files-same header db.files))
            (subst (λ n. FitsSet (storage_of db) db.path (log_below finished.history db.path n)) end finished-up.whole.fits);
      }

  -- each part may be done
  backs-up : MayDoAll w (act ∷ full_parts position db path (full_header w db options path (drawn w w.counter) (said_time w db now)))
  unfolding full_header
  backs-up =
      let seal : MayDoAll finished (set_sealed path header ∷ noted row ∷ based db.name header ∷ []) = (sealed, (tt, (tt, tt))) in
      let stamp : MayDoAll started (logged db.name finish_said db.transactions ∷ set_sealed path header ∷ noted row ∷ based db.name header ∷ []) = (
        may-do started started_db finish_said started-sound started-up finish-tells,
        subst (λ v. MayDoAll v (set_sealed path header ∷ noted row ∷ based db.name header ∷ [])) (sym (done-is started started_db finish_said started-sound started-up finish-tells)) seal,
      ) in
      let start : MayDoAll made (full_parts position db path header) = (
        may-do made db start_said made-sound made-up start-tells,
        subst (λ v. MayDoAll v (logged db.name finish_said db.transactions ∷ set_sealed path header ∷ noted row ∷ based db.name header ∷ [])) (sym (done-is made db start_said made-sound made-up start-tells)) stamp,
      ) in
      (draw.may, subst (λ v. MayDoAll v (full_parts position db path header)) (sym draw.does) start)

  -- no part says a load, and the log of the set has none

  made-built : IsBuilt w → IsBuilt (drawing w draw.media)
  made-built built = subst IsBuilt draw.does (act-built w sound built act draw.may draw.plain)

  started-built : IsBuilt w → IsBuilt started
  started-built built =
      subst IsBuilt (done-is made db start_said made-sound made-up start-tells)
      (act-built made made-sound (made-built built) (logged db.name start_said db.transactions) (may-do made db start_said made-sound made-up start-tells) (tt, tt))

  finished-built : IsBuilt w → IsBuilt finished
  finished-built built =
      subst IsBuilt (done-is started started_db finish_said started-sound started-up finish-tells)
      (act-built started started-sound (started-built built) (logged db.name finish_said db.transactions) (may-do started started_db finish_said started-sound started-up finish-tells) (tt, tt))

  set-plain : IsBuilt w → IsBuiltLog (files_of_set header) (log_below finished.history header.path header.last)
  unfolding full_header log_of
  set-plain built =
      let end : finished_db.end ≡ db.end + 2 = omega arith in
      let own : IsBuiltLog finished_db.files (log_of finished.history finished_db) = of-named (BuiltIn finished.history) finished.databases finished_db.name finished_db (finished-built built).databases finished-up.named in
      subst (λ files. IsBuiltLog files (log_below finished.history db.path (db.end + 2))) (sym (files-same header db.files)) (subst (λ n. IsBuiltLog db.files (log_below finished.history db.path n)) end own)

  backs-no-load : IsBuilt w → SayNoLoad w (act ∷ full_parts position db path (full_header w db options path (drawn w w.counter) (said_time w db now)))
  unfolding full_header
  backs-no-load built =
      let seal : SayNoLoad finished (set_sealed path header ∷ noted row ∷ based db.name header ∷ []) = (set-plain built, (tt, (tt, tt))) in
      let stamp : SayNoLoad started (logged db.name finish_said db.transactions ∷ set_sealed path header ∷ noted row ∷ based db.name header ∷ []) = (
        (tt, tt),
        subst (λ v. SayNoLoad v (set_sealed path header ∷ noted row ∷ based db.name header ∷ [])) (sym (done-is started started_db finish_said started-sound started-up finish-tells)) seal,
      ) in
      let start : SayNoLoad made (full_parts position db path header) = (
        (tt, tt),
        subst (λ v. SayNoLoad v (logged db.name finish_said db.transactions ∷ set_sealed path header ∷ noted row ∷ based db.name header ∷ [])) (sym (done-is made db start_said made-sound made-up start-tells)) stamp,
      ) in
      (draw.plain, subst (λ v. SayNoLoad v (full_parts position db path header)) (sym draw.does) start)

  -- it only starts

  abbrev job : Job
  job = full_job db options path (drawn w w.counter) (said_time w db now)

  starts : MayRun started started_db job
  unfolding full_header says
  starts =
      let left : started_db.end + (length (pending (log_of started.history started_db)) + (length db.transactions + 16)) ≤ last_number =
      numbers-there (log_of started.history started_db) started_db.end db.transactions started-up.opens (omega (arith, low)) in record {
        online = started-up.up;
        fit = record {
          numbers = omega (arith, left);
          some = first-some w db options path (drawn w w.counter) (said_time w db now) r;
          first = first-checkpoint w db options path (drawn w w.counter) (said_time w db now);
          said = omega arith;
          begins = first-begins w db options path (drawn w w.counter) (said_time w db now);
        };
        drawn = λ own. omega arith;
        apart = new-apart w db start_said sound;
        keeps = checkpoint-least (model (log_of made.history db)) db made-up.whole.kept made-up.keeps.begins;
      }

  backup-starts : MayDoAll w (act ∷ logged db.name start_said db.transactions ∷ job_set db.name (Some job) ∷ readied false ∷ [])
  backup-starts =
      let run : MayDoAll started (job_set db.name (Some job) ∷ readied false ∷ []) = (holds-of (database_named started.databases db.name) started_db (λ (d : Database). MayRun started d job) started-up.named starts, (tt, tt)) in
      let start : MayDoAll made (logged db.name start_said db.transactions ∷ job_set db.name (Some job) ∷ readied false ∷ []) = (
        may-do made db start_said made-sound made-up start-tells,
        subst (λ v. MayDoAll v (job_set db.name (Some job) ∷ readied false ∷ [])) (sym (done-is made db start_said made-sound made-up start-tells)) run,
      ) in
      (draw.may, subst (λ v. MayDoAll v (logged db.name start_said db.transactions ∷ job_set db.name (Some job) ∷ readied false ∷ [])) (sym draw.does) start)

its-up : (w : World) (line : ℕ) (name : List ℕ) (units : List UnitName) (path : List ℕ) (options : BackupOptions) (db : Database) → IsSound w → check_backup w line name units path options ≡ Ok db → IsUp w db
its-up w line name units path options db sound e = let its : IsFound w db = checked w line name units path options db e in is-up w db sound its.named its.up

module _ (w : World) (db : Database) (path : List ℕ) (options : BackupOptions) (now : ℕ) (up : IsSound w → IsUp w db) (low : db.end < kept_numbers) where
  first_draws : Draws w path (draws_set (medium_at w.media path) path)
  first_draws = draws w path (medium_at w.media path)

  started-facts : Facts w (λ at. at ≡ path) (does_backup true w path options (drawn w w.counter) (said_time w db now) db)
  started-facts = record {
    writes = (first_draws.writes, (tt, (tt, (tt, tt))));
    refused = λ rule no. absurd cc;
    well = λ sound. let r : IsUp w db = up sound in record {
      may = backup-starts w db path options now sound r low (draws_set (medium_at w.media path) path) first_draws 0;
      opens = (first_draws.opens, (opens-those w db (alone (checkpointed (said_time w db now))) r.named, (tt, (tt, tt))));
      own = (first_draws.own, (own-checkpoint w db.name (said_time w db now) db.transactions, (tt, (tt, tt))));
      numbers = (first_draws.numbers, (numbers-loud (done w (draws_set (medium_at w.media path) path)) db.name (record { begin = 0; deed = checkpointed (said_time w db now) }) db.transactions (λ none. absurd cc), (tt, (tt, tt))));
      ends = inl (first_draws.steady, (tt, (tt, (tt, tt))));
      plain = λ built. (first_draws.plain, ((tt, tt), (tt, (tt, tt))));
    };
  }

  done-facts : Facts w (λ at. at ≡ path) (does_backup false w path options (drawn w w.counter) (said_time w db now) db)
  unfolding full_header
  done-facts = record {
    writes = (first_draws.writes, (tt, (tt, (refl, (tt, (tt, tt))))));
    refused = λ rule no. absurd cc;
    well = λ sound. let r : IsUp w db = up sound in record {
      may = backs-up w db path options now sound r low (draws_set (medium_at w.media path) path) first_draws (next_position (medium_at w.media path));
      opens = (first_draws.opens, (opens-those w db (alone (checkpointed (said_time w db now))) r.named, (opens-those w db (alone (stamped (said_time w db now) (drawn w w.counter))) r.named, (tt, (tt, (tt, tt))))));
      own = (first_draws.own, (own-checkpoint w db.name (said_time w db now) db.transactions, (own-stamp w db.name (said_time w db now) (drawn w w.counter) db.transactions, (tt, (tt, (tt, tt))))));
      numbers = (
        first_draws.numbers,
        (
          numbers-loud (done w (draws_set (medium_at w.media path) path)) db.name (record { begin = 0; deed = checkpointed (said_time w db now) }) db.transactions (λ none. absurd cc),
          (
            numbers-loud (done (done w (draws_set (medium_at w.media path) path)) (logged db.name (alone (checkpointed (said_time w db now))) db.transactions)) db.name
                (record { begin = 0; deed = stamped (said_time w db now) (drawn w w.counter) }) db.transactions (λ none. absurd cc),
            (tt, (tt, (tt, tt))),
          ),
        ),
      );
      ends = inl (first_draws.steady, (tt, (tt, (tt, (tt, (tt, tt))))));
      plain = λ built. backs-no-load w db path options now sound r low (draws_set (medium_at w.media path) path) first_draws (next_position (medium_at w.media path)) built;
    };
  }

  both-facts : (b : Bool) → Facts w (λ at. at ≡ path) (does_backup b w path options (drawn w w.counter) (said_time w db now) db)
  both-facts true = started-facts
  both-facts false = done-facts

pub facts : (w : World) (line : ℕ) (name : List ℕ) (units : List UnitName) (path : List ℕ) (options : BackupOptions) (now : ℕ) (db : Database) → check_backup w line name units path options ≡ Ok db
    → (outcome : Outcome) → DoesBackup w path options now db outcome → Facts w (λ at. at ≡ path) outcome
facts w line name units path options now db e outcome is =
    facts-of w _ outcome is (both-facts w db path options now (λ sound. its-up w line name units path options db sound e) (below-kept db.end (checked w line name units path options db e).low) (session_numbered w.sessions w.session).starts)
