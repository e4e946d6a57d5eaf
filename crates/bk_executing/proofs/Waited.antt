-- A backup that ran beside the sessions ends.
use Rattle.std.proofs.Common.{◌≡◌, ℕ, ◌+◌, inl, inr, List, [], ◌∷◌, ◌++◌, None, Some, Ok, refl, sym, ◌∙◌, ap, subst, arith}
use Rattle.bk_acts.specs.Meaning.{Spell}
use Rattle.bk_carried.specs.Copied.{IsHeaderOf, said_last}
use Rattle.bk_device.specs.Compose.{effect_then, effect_weaken}
use Rattle.bk_device.specs.Disk.{Disk, Files}
use Rattle.bk_device.specs.Effects.{Effect}
use Rattle.bk_engine.specs.Acts.{CutsAct}
use Rattle.bk_engine.specs.Copying.{HoldsFront}
use Rattle.bk_engine.specs.Jobs.{CutsEnding, EndsSet, Finishing, ending}
use Rattle.bk_engine.specs.Stands.{Covers, IsOurs, Kept, StandsFor}
use Rattle.bk_ids.specs.declared.record.Rec.{Rec}
use Rattle.bk_kept.specs.Jobs.{IsApart}
use Rattle.bk_machine.specs.Acts.{Act, based, done, done_all, gone_on, job_set, logged, noted, said_time, set_sealed, with_job}
use Rattle.bk_machine.specs.declared.history_row.HistoryRow.TheVariants as history
use Rattle.bk_machine.specs.MayDo.{MayDoAll, MayLog}
use Rattle.bk_machine.specs.NamedLaws.{named-changed}
use Rattle.bk_machine.specs.Sound.{IsSound}
use Rattle.bk_machine.specs.World.{Database, World, database_named, log_of}
use Rattle.bk_machine.specs.statements.Job.{Running, check_job, finishes, job_header}
use Rattle.bk_media_plans.specs.declared.wait_plan.Finish.{Finish}
use Rattle.bk_media_plans.specs.Waits.{AreFinishing}
use Rattle.bk_restarts.specs.Crashes.{CutIn}
use Rattle.bk_restarts.specs.CutLaws.{cut-act, cut-first, cut-later, cut-saying}
use Rattle.bk_sealing.specs.Sealing.{IsSetNow}
use Rattle.bk_shown.specs.Shown.{AreNext}
use Rattle.bk_store.specs.Told.{Told, files_of}
use Rattle.bk_world.specs.declared.header.Header.{Header}
use Rattle.bk_world.specs.declared.msdb.BackupRow.{BackupRow}
use Rattle.bk_world.specs.declared.transaction.Open.{Open}
use Rattle.bk_world.specs.Records.{Logged, Said, more, numbered, stamped}
use Rattle.bk_world.specs.Says.{alone}
use Rattle.bk_world.specs.Telling.{model}
use Rattle.bk_executing.specs.Waiting.{Ended, MayEnd, basing_row, ending_of, sealing_of, stamp_of}
use Rattle.bk_executing.proofs.BackedUp.{SayLaws, end-of, said-in}
use Rattle.bk_executing.proofs.PartByPart.{cut-before, cut-behind}
use Rattle.bk_executing.proofs.Stored.{holds-at}

-- ---- what the laws of the crates below say

pub record EndingLaws : Type 0 where
  pub says : SayLaws
  pub header : (w : World) (r : Running) (time : ℕ) (told : Told) → IsSound w → check_job w ≡ Ok r → files_of told ≡ r.database.files
      → told.records ≡ said_last (log_of w.history r.database) (stamped time r.job.set) → IsHeaderOf told (job_header w r time)

-- ---- its acts

abbrev built : Finish → List ℕ → List Open → List ℕ → BackupRow → Header → List Act
built finish name ts path row base = job_set name None ∷ logged name (alone (stamped finish.header.finish finish.header.set)) ts ∷ set_sealed path finish.header ∷ noted (history.Backup row) ∷ based name base ∷ []

-- those of a plan, in two parts
pub finish-acts : (w : World) (now sets : ℕ) (finish : Finish) (acts : List Act) → AreFinishing w now sets finish acts → acts ≡ sealing_of finish ++ basing_row finish.name finish.row finish.base
finish-acts w now sets finish acts f =
    let same : finishes (sets + 1) f.r finish.header ≡ built finish finish.name finish.transactions finish.path finish.row finish.base = λ i. built finish (sym f.name_is i) (sym f.transactions_are i) (sym f.path_is i) (sym f.row_is i) (sym f.base_is i) in
    f.are ∙ same

-- ---- it may end so

module _ (laws : EndingLaws) (w : World) (now sets : ℕ) (finish : Finish) (acts : List Act) (sound : IsSound w) (f : AreFinishing w now sets finish acts) where
  -- the world in which it runs no more
  abbrev stopped : World
  stopped = done w (job_set finish.name None)

  -- and its database there
  abbrev idle : Database
  idle = with_job None f.r.database

  stopped-found : database_named stopped.databases finish.name ≡ Some idle
  unfolding done
  stopped-found = named-changed w.databases finish.name f.r.database (with_job None) refl f.named

  stopped-sound : IsSound stopped
  stopped-sound = laws.says.sound w (job_set finish.name None) sound tt

  stopped-log : log_of stopped.history idle ≡ log_of w.history f.r.database
  unfolding done log_of
  stopped-log = refl

  abbrev stamp : List Said
  stamp = stamp_of finish ∷ []

  ends-set : EndsSet w finish.name f.r.job (stamp_of finish) finish.transactions finish.records
  ends-set = record {
    db = f.r.database;
    found = f.named;
    runs = f.job_is;
    says = record {
      db = idle;
      found = stopped-found;
      may = f.says.may;
      next = holds-at (λ (db : Database). AreNext db.files (log_of stopped.history db) (numbered db.end stamp)) (database_named stopped.databases finish.name) idle stopped-found f.says.can;
      spelled_are = sym (holds-at (λ (db : Database). Spell finish.records db.end stamp) (database_named stopped.databases finish.name) idle stopped-found f.says.spelled_is);
      plain = (refl, tt);
      waits = λ bad. absurd (cc);
    };
  }

  all-may : MayDoAll w (sealing_of finish ++ basing_row finish.name finish.row finish.base)
  all-may = subst (MayDoAll w) (finish-acts w now sets finish acts f) f.may

  -- its set is one of its database, once the stamp is said
  set-now : IsSetNow (done_all w (ending_of finish)) finish.header
  unfolding done job_header
  set-now =
      let r : Running = f.r in
      let time : ℕ = said_time w r.database now in
      let said = said-in laws.says stopped finish.name idle stamp finish.transactions stopped-sound stopped-found f.says.may in
      let log : MayLog stopped idle stamp finish.transactions = holds-at (λ (db : Database). MayLog stopped db stamp finish.transactions) (database_named stopped.databases finish.name) idle stopped-found f.says.may in
      let name : finish.header.database ≡ finish.name = ap (λ (h : Header). h.database) f.header_is ∙ sym f.name_is in
      let last : finish.header.last ≡ r.database.end + 1 = ap (λ (h : Header). h.last) f.header_is in
      let same : stamped finish.header.finish finish.header.set ≡ stamped time r.job.set = ap (λ (h : Header). stamped h.finish h.set) f.header_is in
      let logs : log_of (done_all w (ending_of finish)).history (gone_on (model (log_of stopped.history idle)) stamp finish.transactions idle) ≡ said_last (log_of w.history r.database) (stamped time r.job.set) =
      said.log ∙ ap (λ (rs : List Logged). more rs f.r.database.end stamp) stopped-log ∙ ap (λ (n : ℕ). more (log_of w.history r.database) n stamp) (sym (end-of w finish.name r.database sound f.named)) ∙ ap (λ deed. said_last (log_of w.history r.database) deed) same in
      record {
        db = gone_on (model (log_of stopped.history idle)) stamp finish.transactions idle;
        found = subst (λ (n : List ℕ). database_named (done_all w (ending_of finish)).databases n ≡ Some (gone_on (model (log_of stopped.history idle)) stamp finish.transactions idle)) (sym name) said.found;
        online = log.says.online;
        path = ap (λ (h : Header). h.path) f.header_is;
        ends = omega (arith, last);
        files = ap (λ (h : Header). h.files) f.header_is;
        of_it = λ told files records. subst (IsHeaderOf told) (sym f.header_is) (laws.header w r time told sound f.runs files (records ∙ logs));
        sound = all-may.1.1.0;
      }

  pub may-end : MayEnd w finish
  unfolding job_header
  may-end = record {
    job = f.r.job;
    ends = ends-set;
    is = set-now;
    database = ap (λ (h : Header). h.database) f.header_is ∙ sym f.name_is;
    since = ap (λ (h : Header). h.checkpoint) f.header_is;
  }

-- ---- it runs no more, its stamp is said, and its set is sealed

-- inside of its first two acts
ending-cut : (w : World) (finish : Finish) (acts : List Act) (image : Files) → CutsEnding w finish.name (stamp_of finish) finish.transactions image → CutIn w (ending_of finish ++ acts) image
ending-cut w finish acts image cut = by cut
  where
    by : CutsEnding w finish.name (stamp_of finish) finish.transactions image → CutIn w (ending_of finish ++ acts) image
    by (inl before) = cut-first w (ending_of finish ++ acts) image before
    by (inr saying) = cut-later w (job_set finish.name None) (logged finish.name (stamp_of finish ∷ []) finish.transactions ∷ acts) image (cut-saying (done w (job_set finish.name None)) finish.name (stamp_of finish ∷ []) finish.transactions acts image saying)

pub ended-cuts : (w : World) (finish : Finish) {a b : Disk} → Effect IsOurs (CutsEnding w finish.name (stamp_of finish) finish.transactions) a b → Effect IsOurs (CutIn w (sealing_of finish)) a b
ended-cuts w finish effect = effect_weaken (λ image cut. ending-cut w finish (set_sealed finish.path finish.header ∷ []) image cut) effect

module _ (w : World) (finish : Finish) (may : MayEnd w finish) (b c : Disk) (mid : Kept) (f : Finishing) (is : Ended w finish may b mid f) where
  abbrev behind : World
  behind = done_all w (ending_of finish)

  pub sealed-does : (new : Kept) → ((v : World) (now : IsSetNow v finish.header) → StandsFor b mid v → IsApart v f.set → HoldsFront v now.db finish.header.checkpoint f.rest b f.staged → StandsFor c new (done v (set_sealed finish.path finish.header)))
      → StandsFor c new (done_all w (sealing_of finish))
  sealed-does new does = does behind may.is is.stands is.apart is.holds

  pub sealed-cuts : {a : Disk} → Effect IsOurs (CutsEnding w finish.name (stamp_of finish) finish.transactions) a b
      → ((v : World) (now : IsSetNow v finish.header) → StandsFor b mid v → IsApart v f.set → HoldsFront v now.db finish.header.checkpoint f.rest b f.staged → Effect IsOurs (CutsAct v (set_sealed finish.path finish.header)) b c)
      → Effect IsOurs (CutIn w (sealing_of finish)) a c
  sealed-cuts first cuts =
      let seals : List Act = set_sealed finish.path finish.header ∷ [] in
      effect_then (ended-cuts w finish first)
      (effect_weaken (λ image cut. cut-behind w (ending_of finish) seals image (cut-act behind (set_sealed finish.path finish.header) [] image cut)) (cuts behind may.is is.stands is.apart is.holds))

-- the database of its name is that of its set
pub ended : (w : World) (finish : Finish) (may : MayEnd w finish) (b : Disk) (mid : Kept) (f : Finishing) → StandsFor b mid (done_all w (ending_of finish))
    → ((db : Database) → database_named (done_all w (ending_of finish)).databases finish.name ≡ Some db → (f.set ≡ may.job.set) × IsApart (done_all w (ending_of finish)) f.set × HoldsFront (done_all w (ending_of finish)) db may.job.checkpoint f.rest b f.staged)
    → Ended w finish may b mid f
ended w finish may b mid f stands holds =
    let found : database_named (done_all w (ending_of finish)).databases finish.name ≡ Some may.is.db = subst (λ (n : List ℕ). database_named (done_all w (ending_of finish)).databases n ≡ Some may.is.db) may.database may.is.found in
    let so = holds may.is.db found in
    record { stands = stands; apart = so.1; holds = subst (λ (n : ℕ). HoldsFront (done_all w (ending_of finish)) may.is.db n f.rest b f.staged) (sym may.since) so.2 }

-- the same, by other names of what it says
three : {A B C : Type 0} (P : A → B → C → Type 0) (a x : A) (b y : B) (c z : C) → a ≡ x → b ≡ y → c ≡ z → P a b c → P x y z
three P a x b y c z p q r holds = subst (λ u. P u y z) p (subst (λ u. P a u z) q (subst (λ u. P a b u) r holds))

module _ (w : World) (finish : Finish) (may : MayEnd w finish) (name : List ℕ) (ts : List Open) (records : List Rec) (n : name ≡ finish.name) (t : ts ≡ finish.transactions) (r : records ≡ finish.records) where
  named-so : EndsSet w name may.job (stamp_of finish) ts records
  named-so = three (λ (x : List ℕ) (y : List Open) (z : List Rec). EndsSet w x may.job (stamp_of finish) y z) finish.name name finish.transactions ts finish.records records (sym n) (sym t) (sym r) may.ends

  -- the calls that say it
  pub said-stamp : (b : Disk) (mid : Kept) (f : Finishing) → (EndsSet w name may.job (stamp_of finish) ts records → StandsFor b mid (done_all w (ending name (stamp_of finish) ts)))
      → ((db : Database) → EndsSet w name may.job (stamp_of finish) ts records → database_named (done_all w (ending name (stamp_of finish) ts)).databases name ≡ Some db
      → (f.set ≡ may.job.set) × IsApart (done_all w (ending name (stamp_of finish) ts)) f.set × HoldsFront (done_all w (ending name (stamp_of finish) ts)) db may.job.checkpoint f.rest b f.staged)
      → Ended w finish may b mid f
  said-stamp b mid f stands holds =
      ended w finish may b mid f
      (three (λ (x : List ℕ) (y : List Open) (z : List Rec). StandsFor b mid (done_all w (ending x (stamp_of finish) y))) name finish.name ts finish.transactions records finish.records n t r (stands named-so))
      (λ db found. three (λ (x : List ℕ) (y : List Open) (z : List Rec). database_named (done_all w (ending x (stamp_of finish) y)).databases x ≡ Some db
      → (f.set ≡ may.job.set) × IsApart (done_all w (ending x (stamp_of finish) y)) f.set × HoldsFront (done_all w (ending x (stamp_of finish) y)) db may.job.checkpoint f.rest b f.staged)
      name finish.name ts finish.transactions records finish.records n t r (λ there. holds db named-so there) found)

  pub said-cuts : {a b : Disk} → (EndsSet w name may.job (stamp_of finish) ts records → Effect IsOurs (CutsEnding w name (stamp_of finish) ts) a b) → Effect IsOurs (CutsEnding w finish.name (stamp_of finish) finish.transactions) a b
  said-cuts {a = a} {b = b} cuts = three (λ (x : List ℕ) (y : List Open) (z : List Rec). Effect IsOurs (CutsEnding w x (stamp_of finish) y) a b) name finish.name ts finish.transactions records finish.records n t r (cuts named-so)

-- nothing was said yet
pub none-said : (w : World) (finish : Finish) {a b : Disk} → Effect IsOurs (Covers w) a b → Effect IsOurs (CutsEnding w finish.name (stamp_of finish) finish.transactions) a b
none-said w finish effect = effect_weaken (λ image covers. inl covers) effect

-- ---- its row comes, and the database is based on it

pub noted-cut : (w : World) (name : List ℕ) (row : BackupRow) (base : Header) {a b : Disk} → Effect IsOurs (CutsAct w (noted (history.Backup row))) a b → Effect IsOurs (CutIn w (basing_row name row base)) a b
noted-cut w name row base effect = effect_weaken (λ image cut. cut-act w (noted (history.Backup row)) (based name base ∷ []) image cut) effect

pub based-cut : (w : World) (name : List ℕ) (row : BackupRow) (base : Header) {a b c : Disk} → Effect IsOurs (CutsAct w (noted (history.Backup row))) a b → Effect IsOurs (CutsAct (done w (noted (history.Backup row))) (based name base)) b c
    → Effect IsOurs (CutIn w (basing_row name row base)) a c
based-cut w name row base first second =
    effect_then (noted-cut w name row base first)
    (effect_weaken (λ image cut. cut-later w (noted (history.Backup row)) (based name base ∷ []) image (cut-act (done w (noted (history.Backup row))) (based name base) [] image cut)) second)

-- ---- all of it

module _ (w : World) (finish : Finish) (a b c : Disk) where
  abbrev rest : List Act
  rest = basing_row finish.name finish.row finish.base

  pub all-cut : Effect IsOurs (CutIn w (sealing_of finish)) a b → Effect IsOurs (CutIn (done_all w (sealing_of finish)) rest) b c → Effect IsOurs (CutIn w (sealing_of finish ++ rest)) a c
  all-cut first second = effect_then (effect_weaken (λ image cut. cut-before w (sealing_of finish) rest image cut) first) (effect_weaken (λ image cut. cut-behind w (sealing_of finish) rest image cut) second)

  pub front-cut : Effect IsOurs (CutIn w (sealing_of finish)) a b → Effect IsOurs (CutIn w (sealing_of finish ++ rest)) a b
  front-cut first = effect_weaken (λ image cut. cut-before w (sealing_of finish) rest image cut) first
