-- Acts that say no load leave worlds of logs without loads.
use Rattle.std.proofs.Common.{◌≡◌, ℕ, zero, suc, ◌+◌, ◌-◌, not, List, [], ◌∷◌, ◌++◌, take, Option, None, Some, refl, sym, ◌∙◌, ap, subst, arith, Bool}
use Rattle.std.specs.List.{AllByRecursion}
use Rattle.std.specs.Str.{bytes_eq}
use Rattle.bk_ids.specs.declared.guid.Guid.{Guid}
use Rattle.bk_world.specs.Lines.{Grew, RecordLines, log_below}
use Rattle.bk_lemmas.specs.Lists.{all_both, all_filter, all_front, all_joined}
use Rattle.bk_world.specs.Medium.{Reading, Slot, damaged, medium, medium_at, no_set, not_media, readable}
use Rattle.bk_world.specs.Records.{Deed, Logged, Said, begun, checkpointed, committed, database_made, loaded, model_set, more, numbered, recovered as recovery_deed, rolled_back, stamped, table_made, undone, written}
use Rattle.bk_world.specs.Telling.{model}
use Rattle.bk_world.specs.declared.database.Creation.{Creation}
use Rattle.bk_world.specs.declared.database.FileSpec.{FileSpec}
use Rattle.bk_world.specs.declared.header.Header.{Header}
use Rattle.bk_world.specs.GrowthLaws.{records-grown}
use Rattle.bk_machine.proofs.ActsJobs.{all-dropped}
use Rattle.bk_machine.specs.NewFileLaws.{apart-from}
use Rattle.bk_machine.specs.declared.history_row.HistoryRow.{HistoryRow}
use Rattle.bk_machine.specs.Acts.{Act, Recovery, based, based_on, created, creation_said, done, done_all, dropped, gone_on, gone_online, goes_online, logged, medium_made, set_drawn, noted, new_database, recovered, replaced, restored, says, seated, set_sealed, taken_over, turned, where_found, with_slot, readied, job_set, jobs_dropped, with_job}
use Rattle.bk_machine.specs.Built.{IsBuilt, IsBuiltLog, IsBuiltReading, IsBuiltSlot, IsNoLoad, SayNoLoad, SaysNoLoad}
use Rattle.bk_machine.specs.MayDo.{HoldsOf, MayDo, MayDoAll, MayLog, MayRecover}
use Rattle.bk_machine.specs.Sound.{IsSound, IsSoundReading, IsSoundSlot, IsWholeDatabase, files_of_set}
use Rattle.bk_world.specs.declared.transaction.Open.{Open}
use Rattle.bk_machine.specs.declared.job.Job.{Job}
use Rattle.bk_machine.specs.World.{Database, World, database_named, log_of, log_to}
use Rattle.bk_machine.specs.statements.Restore.{IsOfRecovery}
use Rattle.bk_machine.proofs.Acting.{act-follows, act-sound}
use Rattle.bk_machine.proofs.ActsBegin.{made-log, recovered-follows, recovered-log}
use Rattle.bk_machine.proofs.ActsSays.{gone_on-is, says-follows, says-log}
use Rattle.bk_machine.proofs.Happened.{of-medium}
use Rattle.bk_machine.proofs.Histories.{grew-same, log-front}
use Rattle.bk_machine.specs.NamedLaws.{all-changed, all-one_more, all-placed, all-with, all-without, named-own, of-named}

-- ---- records

pub numbered-no-load : (n : ℕ) (said : List Said) → AllByRecursion (λ (s : Said). IsNoLoad s.deed) said → AllByRecursion (λ (r : Logged). IsNoLoad r.deed) (numbered n said)
numbered-no-load n [] none = tt
numbered-no-load n (s ∷ said) none = (none.0, numbered-no-load (n + 1) said none.1)

recovery-no-load : (branch : Guid) (begin : ℕ) (deed : Deed) → IsOfRecovery branch begin deed → IsNoLoad deed
recovery-no-load branch begin (database_made time family other) is = tt
recovery-no-load branch begin (table_made time spec) is = tt
recovery-no-load branch begin begun is = tt
recovery-no-load branch begin (written at before c) is = tt
recovery-no-load branch begin (committed time mark) is = tt
recovery-no-load branch begin rolled_back is = tt
recovery-no-load branch begin (undone at c n) is = tt
recovery-no-load branch begin (checkpointed time) is = tt
recovery-no-load branch begin (stamped time set) is = tt
recovery-no-load branch begin (model_set time model) is = tt
recovery-no-load branch begin (loaded load) is = absurd is
recovery-no-load branch begin (recovery_deed other) is = tt

recovers-no-load : (branch : Guid) (said : List Said) → AllByRecursion (λ (s : Said). IsOfRecovery branch s.begin s.deed) said → AllByRecursion (λ (s : Said). IsNoLoad s.deed) said
recovers-no-load branch [] all = tt
recovers-no-load branch (s ∷ said) all = (recovery-no-load branch s.begin s.deed all.0, recovers-no-load branch said all.1)

-- ---- what stays as a history grows

-- the log of a database is such a log
abbrev pub BuiltIn : RecordLines → Database → Type 0
BuiltIn history db = IsBuiltLog db.files (log_of history db)

-- of another log that is the same, or goes on without a load
pub built-same : (files : List FileSpec) (rs new : List Logged) → new ≡ rs → IsBuiltLog files rs → IsBuiltLog files new
built-same files rs new same is = subst (IsBuiltLog files) (sym same) is

pub built-more : (files : List FileSpec) (rs : List Logged) (end : ℕ) (said : List Said) → IsBuiltLog files rs → AllByRecursion (λ (s : Said). IsNoLoad s.deed) said → IsBuiltLog files (more rs end said)
built-more files rs end said is none = record { apart = is.apart; loads = all_joined (λ (r : Logged). IsNoLoad r.deed) rs (numbered end said) is.loads (numbered-no-load end said none) }

module _ (old new : World) (grew : Grew old.history new.history) where
  pub database-built : (db : Database) → IsWholeDatabase old db → BuiltIn old.history db → BuiltIn new.history db
  unfolding log_of
  database-built db one is = built-same db.files (log_of old.history db) (log_of new.history db) (records-grown old.history new.history grew db.path db.end one.log.counts) is

  slot-built : (s : Slot) → IsSoundSlot old s → IsBuiltSlot old s → IsBuiltSlot new s
  slot-built (readable header) one is =
      built-same (files_of_set header) (log_below old.history header.path header.last) (log_below new.history header.path header.last) (records-grown old.history new.history grew header.path header.last one.log.counts) is
  slot-built (damaged stored found) one is = tt
  slot-built no_set one is = tt

  pub reading-built : (r : Reading) → IsSoundReading old r → IsBuiltReading old r → IsBuiltReading new r
  reading-built not_media one is = tt
  reading-built (medium slots) one is = all_both (IsSoundSlot old) (IsBuiltSlot old) (IsBuiltSlot new) slot-built slots one is

  pub media-built : (media : List (List ℕ × Reading)) → AllByRecursion (λ (m : List ℕ × Reading). IsSoundReading old m.1) media → AllByRecursion (λ (m : List ℕ × Reading). IsBuiltReading old m.1) media
      → AllByRecursion (λ (m : List ℕ × Reading). IsBuiltReading new m.1) media
  media-built media one is =
      all_both (λ (m : List ℕ × Reading). IsSoundReading old m.1) (λ (m : List ℕ × Reading). IsBuiltReading old m.1) (λ (m : List ℕ × Reading). IsBuiltReading new m.1) (λ m. reading-built m.1) media one is

  pub databases-built : (dbs : List Database) → AllByRecursion (IsWholeDatabase old) dbs → AllByRecursion (BuiltIn old.history) dbs → AllByRecursion (BuiltIn new.history) dbs
  databases-built dbs one is = all_both (IsWholeDatabase old) (BuiltIn old.history) (BuiltIn new.history) database-built dbs one is

-- where the history is the same, so are sets
pub media-there : (old new : World) → new.history ≡ old.history → (media : List (List ℕ × Reading)) → AllByRecursion (λ (m : List ℕ × Reading). IsSoundReading old m.1) media
    → AllByRecursion (λ (m : List ℕ × Reading). IsBuiltReading old m.1) media → AllByRecursion (λ (m : List ℕ × Reading). IsBuiltReading new m.1) media
media-there old new same media one is = media-built old new (subst (Grew old.history) (sym same) (grew-same old.history)) media one is

-- ---- acts

module _ (w : World) (sound : IsSound w) (built : IsBuilt w) where
  both : AllByRecursion (λ (db : Database). IsWholeDatabase w db × BuiltIn w.history db) w.databases
  both = all_both (IsWholeDatabase w) (BuiltIn w.history) (λ (db : Database). IsWholeDatabase w db × BuiltIn w.history db) (λ db one is. (one, is)) w.databases sound.whole.databases built.databases

  media-as-they-were : (new : World) → new.history ≡ w.history → AllByRecursion (λ (m : List ℕ × Reading). IsBuiltReading new m.1) w.media
  media-as-they-were new same = media-there w new same w.media sound.whole.media built.media

  turned-built : (name : Option (List ℕ)) → IsBuilt (done w (turned name))
  unfolding done
  turned-built name = record { databases = built.databases; media = media-as-they-were (done w (turned name)) refl }

  seated-built : (session : ℕ) → IsBuilt (done w (seated session))
  unfolding done
  seated-built session = record { databases = built.databases; media = media-as-they-were (done w (seated session)) refl }

  readied-built : (starts : Bool) → IsBuilt (done w (readied starts))
  unfolding done
  readied-built starts = record { databases = built.databases; media = media-as-they-were (done w (readied starts)) refl }

  job_set-built : (name : List ℕ) (job : Option Job) → IsBuilt (done w (job_set name job))
  unfolding done log_of
  job_set-built name job = record {
    databases = all-with (BuiltIn w.history) (BuiltIn w.history) w.databases name (with_job job) built.databases (λ db is. record { apart = is.apart; loads = is.loads }) (λ db is. is);
    media = media-as-they-were (done w (job_set name job)) refl;
  }

  jobs_dropped-built : IsBuilt (done w jobs_dropped)
  unfolding done log_of
  jobs_dropped-built = record {
    databases = all-dropped (BuiltIn w.history) (BuiltIn w.history) (λ db is. record { apart = is.apart; loads = is.loads }) w.databases built.databases;
    media = media-as-they-were (done w jobs_dropped) refl;
  }

  dropped-built : (name : List ℕ) → IsBuilt (done w (dropped name))
  unfolding done
  dropped-built name = record { databases = all-without (BuiltIn w.history) w.databases name built.databases; media = media-as-they-were (done w (dropped name)) refl }

  own-created : (c : Creation) → MayDo w (created c) → IsBuiltLog (new_database c).files (more (log_below w.history [] 1) 1 (creation_said c))
  unfolding new_database log_below
  own-created c may = record { apart = apart-from 1 c.storage.files may.fits.files.numbered; loads = (tt, tt) }

  made-built : (c : Creation) → MayDo w (created c) → BuiltIn (done w (created c)).history (new_database c)
  made-built c may = built-same (new_database c).files (more (log_below w.history [] 1) 1 (creation_said c)) (log_of (done w (created c)).history (new_database c)) (made-log w c sound may) (own-created c may)

  created-built : (c : Creation) → MayDo w (created c) → IsBuilt (done w (created c))
  unfolding done
  created-built c may =
      let new : World = done w (created c) in
      let grew : Grew w.history new.history = (act-follows w (created c) sound may).grew in record {
        databases = all-one_more (BuiltIn new.history) w.databases (new_database c) (databases-built w new grew w.databases sound.whole.databases built.databases) (made-built c may);
        media = media-built w new grew w.media sound.whole.media built.media;
      }

  medium_made-built : (path : List ℕ) → IsBuilt (done w (medium_made path))
  unfolding done
  medium_made-built path =
      let new : World = done w (medium_made path) in
      record { databases = built.databases; media = (tt, all_filter (λ (m : List ℕ × Reading). IsBuiltReading new m.1) (λ (m : List ℕ × Reading). not (bytes_eq m.0 path)) w.media (media-as-they-were new refl)) }

  set_drawn-built : IsBuilt (done w set_drawn)
  unfolding done
  set_drawn-built = record { databases = built.databases; media = media-as-they-were (done w set_drawn) refl }

  noted-built : (row : HistoryRow) → IsBuilt (done w (noted row))
  unfolding done
  noted-built row = record { databases = built.databases; media = media-as-they-were (done w (noted row)) refl }

  sealed-built : (path : List ℕ) (header : Header) → IsBuiltLog (files_of_set header) (log_below w.history header.path header.last) → IsBuilt (done w (set_sealed path header))
  unfolding done
  sealed-built path header set =
      let new : World = done w (set_sealed path header) in record {
        databases = built.databases;
        media = (
          slotted (medium_at w.media path) refl,
          all_filter (λ (m : List ℕ × Reading). IsBuiltReading new m.1) (λ (m : List ℕ × Reading). not (bytes_eq m.0 path)) w.media (media-as-they-were new refl),
        );
      }
    where
      slotted : (o : Option Reading) → medium_at w.media path ≡ o → IsBuiltReading (done w (set_sealed path header)) (with_slot o (readable header))
      slotted None is = (set, tt)
      slotted (Some not_media) is = (set, tt)
      slotted (Some (medium slots)) is =
          let new : World = done w (set_sealed path header) in
          all_joined (IsBuiltSlot new) slots (readable header ∷ []) (of-medium (IsBuiltReading new) w.media path (medium slots) (media-as-they-were new refl) is) (set, tt)

  based-built : (name : List ℕ) (header : Header) → IsBuilt (done w (based name header))
  unfolding done log_of
  based-built name header = record {
    databases = all-with (BuiltIn w.history) (BuiltIn w.history) w.databases name (based_on header) built.databases (λ db is. record { apart = is.apart; loads = is.loads }) (λ db is. is);
    media = media-as-they-were (done w (based name header)) refl;
  }

  taken-built : (name : List ℕ) (header : Header) → IsBuiltLog (files_of_set header) (log_below w.history header.path header.last) → BuiltIn w.history (taken_over name header)
  unfolding log_of
  taken-built name header set = set

  replaced-built : (name : List ℕ) (header : Header) → IsBuiltLog (files_of_set header) (log_below w.history header.path header.last) → IsBuilt (done w (replaced name header))
  unfolding done
  replaced-built name header set = record {
    databases = all-placed (BuiltIn w.history) (BuiltIn w.history) w.databases (taken_over name header) built.databases (taken-built name header set) (λ db is. is);
    media = media-as-they-were (done w (replaced name header)) refl;
  }

  restored-built : (name : List ℕ) (base : _) (redo : ℕ) → IsBuilt (done w (restored name base redo))
  unfolding done log_of
  restored-built name base redo = record {
    databases = all-with (BuiltIn w.history) (BuiltIn w.history) w.databases name _ built.databases (λ db is. record { apart = is.apart; loads = is.loads }) (λ db is. is);
    media = media-as-they-were (done w (restored name base redo)) refl;
  }

  -- a database says something
  module _ (db : Database) (said : List Said) (transactions : List Open) (there : database_named w.databases db.name ≡ Some db) (may : MayLog w db said transactions) (none : AllByRecursion (λ (s : Said). IsNoLoad s.deed) said) where
    says-grew : Grew w.history (says w db said transactions).history
    says-grew = (says-follows w db said transactions sound.whole there may.says).grew

    own-built : BuiltIn (says w db said transactions).history (gone_on (model (log_of w.history db)) said transactions db)
    own-built =
        let new : World = says w db said transactions in
        let points = gone_on-is (model (log_of w.history db)) said transactions db in
        let files : (gone_on (model (log_of w.history db)) said transactions db).files ≡ db.files = ap (λ (d : Database). d.files) points.2 in
        let is : BuiltIn w.history db = of-named (BuiltIn w.history) w.databases db.name db built.databases there in
        let log : IsBuiltLog db.files (log_of new.history (gone_on (model (log_of w.history db)) said transactions db)) =
        built-same db.files (more (log_of w.history db) db.end said) (log_of new.history (gone_on (model (log_of w.history db)) said transactions db)) (says-log w db said transactions sound.whole there may.says)
        (built-more db.files (log_of w.history db) db.end said is none) in
        subst (λ fs. IsBuiltLog fs (log_of new.history (gone_on (model (log_of w.history db)) said transactions db))) (sym files) log

    says-databases : AllByRecursion (BuiltIn (says w db said transactions).history) (says w db said transactions).databases
    unfolding says
    says-databases =
        let new : World = says w db said transactions in
        all-changed (λ (o : Database). IsWholeDatabase w o × BuiltIn w.history o) (BuiltIn new.history) w.databases db.name db (gone_on (model (log_of w.history db)) said transactions) both sound.whole.different there (λ is. own-built)
        (λ o is differ. database-built w new says-grew o is.0 is.1)

    says-built : IsBuilt (says w db said transactions)
    unfolding says
    says-built = record { databases = says-databases; media = media-built w (says w db said transactions) says-grew w.media sound.whole.media built.media }

  logged-built : (name : List ℕ) (said : List Said) (transactions : List Open) → MayDo w (logged name said transactions) → AllByRecursion (λ (s : Said). IsNoLoad s.deed) said → IsBuilt (done w (logged name said transactions))
  unfolding done
  logged-built name said transactions may none = by (database_named w.databases name) refl may
    where
      by : (o : Option Database) → database_named w.databases name ≡ o → HoldsOf o (λ db. MayLog w db said transactions) → IsBuilt (where_found w o (λ db. says w db said transactions))
      by None there holds = built
      by (Some db) there holds = says-built db said transactions (named-own w.databases name db there) holds none

  -- a database is recovered
  module _ (db : Database) (r : Recovery) (there : database_named w.databases db.name ≡ Some db) (may : MayRecover w db r) where
    recovered-grew : Grew w.history (goes_online w db r).history
    recovered-grew = (recovered-follows w db r sound there may).grew

    front-built : IsBuiltLog db.files (log_to w.history db r.at)
    unfolding log_of log_to
    front-built =
        let is : BuiltIn w.history db = of-named (BuiltIn w.history) w.databases db.name db built.databases there in
        let same : r.at + (db.end - r.at) ≡ db.end = omega (arith, may.within) in
        let split = log-front w.history db.path r.at (db.end - r.at) in
        let all : log_below w.history db.path db.end ≡ log_below w.history db.path r.at ++ split.0 = ap (log_below w.history db.path) (sym same) ∙ split.1 in
        let NoLoads : List Logged → Type 0 = AllByRecursion (λ (s : Logged). IsNoLoad s.deed) in
        record { apart = is.apart; loads = all_front (λ (s : Logged). IsNoLoad s.deed) (log_below w.history db.path r.at) split.0 (subst NoLoads all is.loads) }

    online-built : BuiltIn (goes_online w db r).history (gone_online (model (log_to w.history db r.at)) r db)
    online-built =
        built-same db.files (more (log_to w.history db r.at) r.at r.said) (log_of (goes_online w db r).history (gone_online (model (log_to w.history db r.at)) r db)) (recovered-log w db r sound there may)
        (built-more db.files (log_to w.history db r.at) r.at r.said front-built (recovers-no-load r.branch r.said may.recovers.each))

    online-databases : AllByRecursion (BuiltIn (goes_online w db r).history) (goes_online w db r).databases
    unfolding goes_online
    online-databases =
        let new : World = goes_online w db r in
        all-changed (λ (o : Database). IsWholeDatabase w o × BuiltIn w.history o) (BuiltIn new.history) w.databases db.name db (gone_online (model (log_to w.history db r.at)) r) both sound.whole.different there (λ is. online-built)
        (λ o is differ. database-built w new recovered-grew o is.0 is.1)

    goes-built : IsBuilt (goes_online w db r)
    unfolding goes_online
    goes-built = record { databases = online-databases; media = media-built w (goes_online w db r) recovered-grew w.media sound.whole.media built.media }

  recovered-built : (name : List ℕ) (r : Recovery) → MayDo w (recovered name r) → IsBuilt (done w (recovered name r))
  unfolding done
  recovered-built name r may = by (database_named w.databases name) refl may
    where
      by : (o : Option Database) → database_named w.databases name ≡ o → HoldsOf o (λ db. MayRecover w db r) → IsBuilt (where_found w o (λ db. goes_online w db r))
      by None there holds = built
      by (Some db) there holds = goes-built db r (named-own w.databases name db there) holds

  pub act-built : (act : Act) → MayDo w act → SaysNoLoad w act → IsBuilt (done w act)
  act-built (turned name) may none = turned-built name
  act-built (seated session) may none = seated-built session
  act-built (readied starts) may none = readied-built starts
  act-built (created c) may none = created-built c may
  act-built (dropped name) may none = dropped-built name
  act-built (logged name said transactions) may none = logged-built name said transactions may none
  act-built (medium_made path) may none = medium_made-built path
  act-built set_drawn may none = set_drawn-built
  act-built (set_sealed path header) may none = sealed-built path header none
  act-built (noted row) may none = noted-built row
  act-built (based name header) may none = based-built name header
  act-built (job_set name job) may none = job_set-built name job
  act-built jobs_dropped may none = jobs_dropped-built
  act-built (replaced name header) may none = replaced-built name header none
  act-built (restored name base redo) may none = restored-built name base redo
  act-built (recovered name r) may none = recovered-built name r may

pub acts-built : (w : World) (acts : List Act) → IsSound w → IsBuilt w → MayDoAll w acts → SayNoLoad w acts → IsBuilt (done_all w acts)
acts-built w [] sound built may none = built
acts-built w (act ∷ acts) sound built may none = acts-built (done w act) acts (act-sound w act sound may.0) (act-built w sound built act may.0 none.0) may.1 none.1

pub no-load-front : (w : World) (acts : List Act) (k : ℕ) → SayNoLoad w acts → SayNoLoad w (take k acts)
no-load-front w acts zero none = tt
no-load-front w [] (suc k) none = tt
no-load-front w (act ∷ acts) (suc k) none = (none.0, no-load-front (done w act) acts k none.1)
