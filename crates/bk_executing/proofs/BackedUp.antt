-- The set that a backup seals is one of its database as it is then.
use Rattle.std.proofs.Common.{◌≡◌, ◌||◌, ℕ, ◌+◌, Bool, true, false, List, [], ◌∷◌, ◌++◌, length, Option, Some, Ok, Err, refl, sym, ◌∙◌, ap, subst, arith}
use Rattle.std.specs.Prelude.{◌&&◌, None, not}
use Rattle.std.specs.List.{AllByRecursion}
use Rattle.bk_carried.specs.Copied.{IsHeaderOf, backed_up}
use Rattle.bk_ids.specs.declared.guid.Guid.{Guid}
use Rattle.bk_items.specs.declared.item.UnitName.{UnitName}
use Rattle.bk_items.specs.declared.options.BackupOptions.{BackupOptions}
use Rattle.bk_items.specs.declared.item.ScriptItem.TheVariants as script
use Rattle.bk_kept.specs.Jobs.{IsApart}
use Rattle.bk_lemmas.specs.Lists.{all_mapped}
use Rattle.bk_machine.specs.Acts.{Act, based, done, drawn, gone_on, logged, readied, said_time, says, set_drawn, set_sealed, where_found}
use Rattle.bk_machine.specs.CheckLaws.{Up, passed, was-found, was-online}
use Rattle.bk_machine.specs.Checks.{Checked, ◌>>=◌, is_path, limit, online, or_refuse, outside, refuse_if, used_up, without_job}
use Rattle.bk_machine.specs.Machine.{May}
use Rattle.bk_machine.specs.MayDo.{HoldsOf, MayDo, MayDoAll, MayLog, MaySay}
use Rattle.bk_machine.specs.declared.job.Job.{Job}
use Rattle.bk_machine.specs.JobLaws.{new-other}
use Rattle.bk_machine.specs.NamedLaws.{all-with, named-own, of-named}
use Rattle.bk_machine.specs.Outcome.{ComesTo, Outcome}
use Rattle.bk_machine.specs.Sound.{IsOther, IsSound, IsWhole, IsWholeDatabase}
use Rattle.bk_machine.specs.World.{Database, World, database_named, log_of, session_numbered}
use Rattle.bk_machine.specs.Writes.{IsTurn}
use Rattle.bk_machine.specs.statements.Backup.{DoesBackup, check_backup, check_medium, check_unwritten, does_backup, draws_set, full_backup, full_header, full_job, is_whole_backup, started}
use Rattle.bk_plans.specs.declared.parts.Part.{Part}
use Rattle.bk_plans.specs.declared.parts.Part.TheVariants.{JobBegun, JobStepped, MediumMade, Noted, SetDrawn, SetSealed, Stored}
use Rattle.bk_plans.specs.declared.parts.Plan.{Plan}
use Rattle.bk_plans.specs.declared.parts.Plan.TheVariants.{Answered, Parts, Readied, Refused, Seated, Turned}
use Rattle.bk_plans.specs.Planning.{AreActsOf, AreParts, IsPart}
use Rattle.bk_sealing.specs.Sealing.{IsSetNow}
use Rattle.bk_store.specs.Told.{Told, files_of}
use Rattle.bk_world.specs.Cut.{end_behind}
use Rattle.bk_world.specs.declared.database.Status.TheVariants.{Online}
use Rattle.bk_world.specs.declared.header.Header.{Header}
use Rattle.bk_world.specs.declared.rule.Rule.TheVariants.{NoSuchDatabase, NotBuilt}
use Rattle.bk_world.specs.declared.transaction.Open.{Open}
use Rattle.bk_world.specs.Medium.{Reading, medium_at}
use Rattle.bk_world.specs.Records.{Counts, Logged, Said, checkpointed, more, stamped}
use Rattle.bk_world.specs.Says.{alone}
use Rattle.bk_world.specs.Telling.{model}
use Rattle.bk_executing.specs.Parts.{SealsNow}
use Rattle.bk_executing.proofs.Planned.{PlanSets, SetsNow}

-- ---- what the laws of the crates below say

pub record SayLaws : Type 0 where
  pub sound : (w : World) (act : Act) → IsSound w → MayDo w act → IsSound (done w act)
  pub found : (w : World) (name : List ℕ) (db : Database) (said : List Said) (transactions : List Open) → IsWhole w → database_named w.databases name ≡ Some db → MaySay w db said
      → database_named (says w db said transactions).databases name ≡ Some (gone_on (model (log_of w.history db)) said transactions db)
  pub log : (w : World) (name : List ℕ) (db : Database) (said : List Said) (transactions : List Open) → IsWhole w → database_named w.databases name ≡ Some db → MaySay w db said
      → log_of (says w db said transactions).history (gone_on (model (log_of w.history db)) said transactions db) ≡ more (log_of w.history db) db.end said

pub record Laws : Type 0 where
  pub says : SayLaws
  pub header : (w : World) (db : Database) (options : BackupOptions) (path : List ℕ) (set : Guid) (time : ℕ) (told : Told) → IsSound w → database_named w.databases db.name ≡ Some db → db.status ≡ Online → files_of told ≡ db.files
      → told.records ≡ backed_up (log_of w.history db) (full_header w db options path set time) → IsHeaderOf told (full_header w db options path set time)

-- ---- a database says something

pub record SaidIn (w : World) (name : List ℕ) (db : Database) (said : List Said) (transactions : List Open) : Type 0 where
  pub sound : IsSound (done w (logged name said transactions))
  pub found : database_named (done w (logged name said transactions)).databases name ≡ Some (gone_on (model (log_of w.history db)) said transactions db)
  pub log : log_of (done w (logged name said transactions)).history (gone_on (model (log_of w.history db)) said transactions db) ≡ more (log_of w.history db) db.end said

pub said-in : SayLaws → (w : World) (name : List ℕ) (db : Database) (said : List Said) (transactions : List Open) → IsSound w → database_named w.databases name ≡ Some db → MayDo w (logged name said transactions) → SaidIn w name db said transactions
unfolding done
said-in laws w name db said transactions sound there may =
    let log : MayLog w db said transactions = subst (λ o. HoldsOf o (λ (d : Database). MayLog w d said transactions)) there may in
    let go : done w (logged name said transactions) ≡ says w db said transactions = ap (λ o. where_found w o (λ d. says w d said transactions)) there in
    record {
      sound = laws.sound w (logged name said transactions) sound may;
      found = ap (λ (v : World). database_named v.databases name) go ∙ laws.found w name db said transactions sound.whole there log.says;
      log = ap (λ (v : World). log_of v.history (gone_on (model (log_of w.history db)) said transactions db)) go ∙ laws.log w name db said transactions sound.whole there log.says;
    }

-- no backup has a set that none had before
said-apart : (w : World) (name : List ℕ) (db : Database) (said : List Said) (transactions : List Open) (set : Guid) → database_named w.databases name ≡ Some db → ((o : Database) → (gone_on (model (log_of w.history db)) said transactions o).job ≡ o.job)
    → IsApart w set → IsApart (done w (logged name said transactions)) set
unfolding done says
said-apart w name db said transactions set there keeps apart =
    let go : done w (logged name said transactions) ≡ says w db said transactions = ap (λ o. where_found w o (λ d. says w d said transactions)) there in
    subst (λ (v : World). IsApart v set) (sym go)
    (all-with (IsOther set) (IsOther set) w.databases db.name (gone_on (model (log_of w.history db)) said transactions) apart (λ o is job has. is job (sym (keeps o) ∙ has)) (λ o is. is))

-- one that is drawn next is that of none
pub drawn-apart : (w : World) → IsSound w → IsApart w (drawn w w.counter)
drawn-apart w sound = all_mapped (IsWholeDatabase w) (IsOther (drawn w w.counter)) (new-other w) w.databases sound.whole.databases

counts-end : (rs : List Logged) (m n : ℕ) → Counts m rs n → n ≡ m + length rs
counts-end [] m n is = omega (arith, is)
counts-end (r ∷ rs) m n is = let later = counts-end rs (m + 1) n is.1 in omega (arith, later)

pub end-of : (w : World) (name : List ℕ) (db : Database) → IsSound w → database_named w.databases name ≡ Some db → end_behind (log_of w.history db) ≡ db.end
end-of w name db sound there = let ends = counts-end (log_of w.history db) 1 db.end (of-named (IsWholeDatabase w) w.databases name db sound.whole.databases there).log.counts in omega (arith, ends)

-- ---- the set of a backup

-- the world in which it is sealed, behind the act that draws its GUID
abbrev sealing : World → Database → Act → Guid → ℕ → World
sealing w db act set time = done (done (done w act) (logged db.name (alone (checkpointed time)) db.transactions)) (logged db.name (alone (stamped time set)) db.transactions)

drawn-there : (w : World) (before : Option Reading) (path : List ℕ) → ((done w (draws_set before path)).databases ≡ w.databases) × ((done w (draws_set before path)).history ≡ w.history)
unfolding done
drawn-there w None path = (refl, refl)
drawn-there w (Some reading) path = (refl, refl)

pub set-now : Laws → (w : World) (db : Database) (before : Option Reading) (path : List ℕ) (options : BackupOptions) (set : Guid) (time : ℕ) → IsSound w → database_named w.databases db.name ≡ Some db → db.status ≡ Online → MayDoAll w (full_backup before db path (full_header w db options path set time))
    → IsSetNow (sealing w db (draws_set before path) set time) (full_header w db options path set time)
unfolding full_header
set-now laws w db before path options set time sound there online may =
    let w1 : World = done w (draws_set before path) in
    let s1 : IsSound w1 = laws.says.sound w (draws_set before path) sound may.0 in
    let there1 : database_named w1.databases db.name ≡ Some db = ap (λ (dbs : List Database). database_named dbs db.name) (drawn-there w before path).0 ∙ there in
    let said2 = said-in laws.says w1 db.name db (alone (checkpointed time)) db.transactions s1 there1 may.1.0 in
    let w2 : World = done w1 (logged db.name (alone (checkpointed time)) db.transactions) in
    let db2 : Database = gone_on (model (log_of w1.history db)) (alone (checkpointed time)) db.transactions db in
    let said3 = said-in laws.says w2 db.name db2 (alone (stamped time set)) db.transactions said2.sound said2.found may.1.1.0 in
    let w3 : World = sealing w db (draws_set before path) set time in
    let db3 : Database = gone_on (model (log_of w2.history db2)) (alone (stamped time set)) db.transactions db2 in
    let end1 = end-of w db.name db sound there in
    let end2 = end-of w2 db.name db2 said2.sound said2.found in
    let logs : log_of w3.history db3 ≡ backed_up (log_of w.history db) (full_header w db options path set time) =
    said3.log ∙ ap (λ (n : ℕ). more (log_of w2.history db2) n (alone (stamped time set))) (sym end2)
    ∙ ap (λ (rs : List Logged). more rs (end_behind rs) (alone (stamped time set))) said2.log
    ∙ ap (λ h. more (more (log_of h db) db.end (alone (checkpointed time))) (end_behind (more (log_of h db) db.end (alone (checkpointed time)))) (alone (stamped time set))) (drawn-there w before path).1
    ∙ ap (λ (n : ℕ). more (more (log_of w.history db) n (alone (checkpointed time))) (end_behind (more (log_of w.history db) n (alone (checkpointed time)))) (alone (stamped time set))) (sym end1) in
    record {
      db = db3;
      found = said3.found;
      online = online;
      path = refl;
      ends = omega arith;
      files = refl;
      of_it = λ told files records. laws.header w db options path set time told sound there online files (records ∙ logs);
      sound = may.1.1.1.0;
    }

-- and it is that of no backup that runs
set-apart : (w : World) (db : Database) (before : Option Reading) (path : List ℕ) (options : BackupOptions) (set : Guid) (time : ℕ) (laws : Laws) → IsSound w → database_named w.databases db.name ≡ Some db
    → MayDoAll w (full_backup before db path (full_header w db options path set time)) → IsApart w set → IsApart (sealing w db (draws_set before path) set time) set
unfolding full_header
set-apart w db before path options set time laws sound there may apart =
    let w1 : World = done w (draws_set before path) in
    let s1 : IsSound w1 = laws.says.sound w (draws_set before path) sound may.0 in
    let there1 : database_named w1.databases db.name ≡ Some db = ap (λ (dbs : List Database). database_named dbs db.name) (drawn-there w before path).0 ∙ there in
    let apart1 : IsApart w1 set = subst (AllByRecursion (IsOther set)) (sym (drawn-there w before path).0) apart in
    let said2 = said-in laws.says w1 db.name db (alone (checkpointed time)) db.transactions s1 there1 may.1.0 in
    let w2 : World = done w1 (logged db.name (alone (checkpointed time)) db.transactions) in
    let db2 : Database = gone_on (model (log_of w1.history db)) (alone (checkpointed time)) db.transactions db in
    let apart2 : IsApart w2 set = said-apart w1 db.name db (alone (checkpointed time)) db.transactions set there1 (λ o. refl) apart1 in
    said-apart w2 db.name db2 (alone (stamped time set)) db.transactions set said2.found (λ o. refl) apart2

-- ---- the parts

seals-by : (w : World) (part : Part) (act : Act) → IsPart w part act → ((path : List ℕ) (header : Header) → act ≡ set_sealed path header → IsSetNow w header × IsApart w header.set) → SealsNow w part
seals-by w (Stored stored) act is now = tt
seals-by w (MediumMade path) act is now = tt
seals-by w SetDrawn act is now = tt
seals-by w (Noted row) act is now = tt
seals-by w (JobBegun name job) act is now = tt
seals-by w (JobStepped name count) act is now = tt
seals-by w (SetSealed path header) act is now = now path header is.is

abbrev header_sealed : Act → Header → Type 0
header_sealed (set_sealed path header) other = other ≡ header
header_sealed _ other = ⊥

-- whether an act seals a set
abbrev Seals : Act → Type 0
Seals (set_sealed path header) = Unit {0}
Seals _ = ⊥

draws-alone : (before : Option Reading) (path : List ℕ) → Seals (draws_set before path) → ⊥
draws-alone None path seals = seals
draws-alone (Some reading) path seals = seals

backup-sets : Laws → (w : World) (db : Database) (before : Option Reading) (path : List ℕ) (options : BackupOptions) (set : Guid) (time : ℕ) (parts : List Part) → IsSound w → database_named w.databases db.name ≡ Some db → db.status ≡ Online → IsApart w set
    → MayDoAll w (full_backup before db path (full_header w db options path set time)) → AreParts w parts (full_backup before db path (full_header w db options path set time)) → SetsNow w parts (full_backup before db path (full_header w db options path set time))
unfolding full_header
backup-sets laws w db before path options set time (a ∷ b ∷ c ∷ d ∷ e ∷ f ∷ []) sound there online apart may are = (
  seals-by _ a _ are.0 (λ p h is. absurd (draws-alone before path (subst Seals (sym is) tt))),
  (
    seals-by _ b _ are.1.0 (λ p h is. absurd (subst Seals (sym is) tt)),
    (
      seals-by _ c _ are.1.1.0 (λ p h is. absurd (subst Seals (sym is) tt)),
      (
        seals-by _ d _ are.1.1.1.0 (λ p h is. subst (λ (x : Header). IsSetNow (sealing w db (draws_set before path) set time) x × IsApart (sealing w db (draws_set before path) set time) x.set) (sym (subst (λ act. header_sealed act h) (sym is) refl))
            (set-now laws w db before path options set time sound there online may, set-apart w db before path options set time laws sound there may apart)),
        (
          seals-by _ e _ are.1.1.1.1.0 (λ p h is. absurd (subst Seals (sym is) tt)),
          (
            seals-by _ f _ are.1.1.1.1.1.0 (λ p h is. absurd (subst Seals (sym is) tt)),
            tt,
          ),
        ),
      ),
    ),
  ),
)
backup-sets laws w db before path options set time [] sound there online apart may are = absurd are
backup-sets laws w db before path options set time (a ∷ []) sound there online apart may are = absurd are.1
backup-sets laws w db before path options set time (a ∷ b ∷ []) sound there online apart may are = absurd are.1.1
backup-sets laws w db before path options set time (a ∷ b ∷ c ∷ []) sound there online apart may are = absurd are.1.1.1
backup-sets laws w db before path options set time (a ∷ b ∷ c ∷ d ∷ []) sound there online apart may are = absurd are.1.1.1.1
backup-sets laws w db before path options set time (a ∷ b ∷ c ∷ d ∷ e ∷ []) sound there online apart may are = absurd are.1.1.1.1.1
backup-sets laws w db before path options set time (a ∷ b ∷ c ∷ d ∷ e ∷ f ∷ g ∷ rest) sound there online apart may are = absurd are.1.1.1.1.1.1

-- acts that seal none
abbrev SealNone : List Act → Type 0
SealNone acts = AllByRecursion (λ (act : Act). Seals act → ⊥) acts

unsealed : (w : World) (parts : List Part) (acts : List Act) → AreParts w parts acts → SealNone acts → SetsNow w parts acts
unsealed w [] acts are none = tt
unsealed w (part ∷ parts) [] are none = tt
unsealed w (part ∷ parts) (act ∷ acts) are none = (seals-by w part act are.0 (λ p h is. absurd (none.0 (subst Seals (sym is) tt))), unsealed (done w act) parts acts are.1 none.1)

unsealed-front : (front rest : List Act) → SealNone (front ++ rest) → SealNone front
unsealed-front [] rest none = tt
unsealed-front (act ∷ front) rest none = (none.0, unsealed-front front rest none.1)

-- those of a backup that only starts
start-none : (before : Option Reading) (db : Database) (job : Job) → SealNone (started before db job).acts
start-none before db job = (draws-alone before job.medium, ((λ seals. seals), ((λ seals. seals), ((λ seals. seals), tt))))

unsealed-plan : (w : World) (plan : Plan) (acts : List Act) → AreActsOf w plan acts → SealNone acts → PlanSets w plan acts
unsealed-plan w (Refused rule) acts are none = tt
unsealed-plan w (Answered answer) acts are none = tt
unsealed-plan w (Turned name) acts are none = tt
unsealed-plan w (Seated session) acts are none = tt
unsealed-plan w (Parts parts answer) acts are none = unsealed w parts.items acts are none
unsealed-plan w (Readied parts starts answer) acts are none = λ front parts_are is. unsealed w parts.items front parts_are (unsealed-front front (readied starts ∷ []) (subst SealNone is none))

-- ---- the last act

abbrev last_of : List Act → Act → Act
last_of [] act = act
last_of (act ∷ acts) other = last_of acts act

last-joined : (front : List Act) (act other : Act) → last_of (front ++ act ∷ []) other ≡ act
last-joined [] act other = refl
last-joined (first ∷ front) act other = last-joined front act first

-- ---- the statement

ok-same : (a b : Database) (x : Checked Database) → x ≡ Ok a → x ≡ Ok b → a ≡ b
ok-same a b x here there = cc

abbrev some_db : Database → Option Database
some_db d = Some d

-- the checks behind each other
abbrev last : World → Database → Unit {0} → Checked Database
last w db u = limit (used_up db.end || used_up w.counter) >>= (λ (u : Unit {0}). Ok db)

abbrev then_medium : World → List ℕ → Database → Unit {0} → Checked Database
then_medium w path db u = check_medium (medium_at w.media path) >>= last w db

abbrev then_unwritten : World → List ℕ → Database → Unit {0} → Checked Database
then_unwritten w path db u = check_unwritten w.databases path >>= then_medium w path db

abbrev then_idle : World → List ℕ → Database → Checked Database
then_idle w path db = without_job db >>= then_unwritten w path db

abbrev then_online : World → List ℕ → Database → Checked Database
then_online w path named = online named >>= then_idle w path

abbrev then_named : World → List ℕ → List ℕ → Unit {0} → Checked Database
then_named w name path u = or_refuse (database_named w.databases name) NoSuchDatabase >>= then_online w path

abbrev then_outside : World → List ℕ → List ℕ → Unit {0} → Checked Database
then_outside w name path u = outside w >>= then_named w name path

checked-there : (w : World) (line : ℕ) (name : List ℕ) (units : List UnitName) (path : List ℕ) (options : BackupOptions) (db : Database) → check_backup w line name units path options ≡ Ok db
    → (database_named w.databases db.name ≡ Some db) × (db.status ≡ Online)
unfolding check_backup
checked-there w line name units path options db is =
    let one = passed (refuse_if (not (is_whole_backup units options && is_path path)) (NotBuilt line)) (then_outside w name path) db is in
    let two = passed (outside w) (then_named w name path) db one.then in
    let three = passed (or_refuse (database_named w.databases name) NoSuchDatabase) (then_online w path) db two.then in
    let four = passed (online three.found) (then_idle w path) db three.then in
    let five = passed (without_job four.found) (then_unwritten w path four.found) db four.then in
    let six = passed (check_unwritten w.databases path) (then_medium w path four.found) db five.then in
    let seven = passed (check_medium (medium_at w.media path)) (last w four.found) db six.then in
    let eight = passed (limit (used_up four.found.end || used_up w.counter)) (λ (u : Unit {0}). Ok four.found) db seven.then in
    let same : four.found ≡ db = ok-same four.found db (Ok four.found) refl eight.then in
    let found : database_named w.databases name ≡ Some three.found = was-found (database_named w.databases name) NoSuchDatabase three.found three.is in
    let up : Up three.found four.found = was-online three.found four.found four.is in
    (named-own w.databases name db (found ∙ ap some_db (up.is ∙ same)), subst (λ (d : Database). d.status ≡ Online) same up.up)

pub plan-sets : Laws → (w : World) (line : ℕ) (name : List ℕ) (units : List UnitName) (path : List ℕ) (options : BackupOptions) (now : ℕ) (outcome : Outcome) (plan : Plan) → IsSound w
    → May w (record { item = script.BackupDatabase name units path options; line = line }) now outcome → MayDoAll w outcome.acts → AreActsOf w plan outcome.acts → PlanSets w plan outcome.acts
unfolding May
plan-sets laws w line name units path options now outcome plan sound may all are = by (check_backup w line name units path options) refl
  where
    of-plan : (db : Database) (before : Option Reading) (p : Plan) → database_named w.databases db.name ≡ Some db → db.status ≡ Online → MayDoAll w (full_backup before db path (full_header w db options path (drawn w w.counter) (said_time w db now)))
        → AreActsOf w p (full_backup before db path (full_header w db options path (drawn w w.counter) (said_time w db now))) → PlanSets w p (full_backup before db path (full_header w db options path (drawn w w.counter) (said_time w db now)))
    of-plan db before (Refused rule) there online may are = tt
    of-plan db before (Answered answer) there online may are = tt
    of-plan db before (Turned other) there online may are = tt
    of-plan db before (Seated session) there online may are = tt
    of-plan db before (Parts parts answer) there online may are = backup-sets laws w db before path options (drawn w w.counter) (said_time w db now) parts.items sound there online (drawn-apart w sound) may are
    of-plan db before (Readied parts starts answer) there online may are =
        let ends : based db.name (full_header w db options path (drawn w w.counter) (said_time w db now)) ≡ readied starts = ap (λ acts. last_of acts set_drawn) are.are ∙ last-joined are.front (readied starts) set_drawn in
        absurd (subst IsTurn (sym ends) tt)

    of-db : (db : Database) (starts : Bool) → database_named w.databases db.name ≡ Some db → db.status ≡ Online → MayDoAll w (does_backup starts w path options (drawn w w.counter) (said_time w db now) db).acts
        → AreActsOf w plan (does_backup starts w path options (drawn w w.counter) (said_time w db now) db).acts → PlanSets w plan (does_backup starts w path options (drawn w w.counter) (said_time w db now) db).acts
    of-db db false there online may are = of-plan db (medium_at w.media path) plan there online may are
    of-db db true there online may are = unsealed-plan w plan (started (medium_at w.media path) db (full_job db options path (drawn w w.counter) (said_time w db now))).acts are
        (start-none (medium_at w.media path) db (full_job db options path (drawn w w.counter) (said_time w db now)))

    by : (checked : Checked Database) → check_backup w line name units path options ≡ checked → PlanSets w plan outcome.acts
    by (Err rule) is =
        let refused = subst (λ c. ComesTo c (DoesBackup w path options now) outcome) is may in
        subst (λ (o : Outcome). PlanSets w plan o.acts) (sym refused) (unsealed-plan w plan [] (subst (λ (o : Outcome). AreActsOf w plan o.acts) refused are) tt)
    by (Ok db) is =
        let does = subst (λ c. ComesTo c (DoesBackup w path options now) outcome) is may in
        let there = checked-there w line name units path options db is in
        subst (λ (o : Outcome). PlanSets w plan o.acts) (sym does)
        (of-db db (session_numbered w.sessions w.session).starts there.0 there.1 (subst (λ (o : Outcome). MayDoAll w o.acts) does all) (subst (λ (o : Outcome). AreActsOf w plan o.acts) does are))
