-- Hosted databases behind acts of their world.
use Rattle.std.proofs.Common.{◌≡◌, ℕ, zero, suc, ◌<◌, List, [], ◌∷◌, ◌++◌, map, length, get_or, Bool, Option, None, Some, refl, sym, ◌∙◌, ap, subst}
use Rattle.std.specs.Prelude.{remove, set, slice_get}
use Rattle.std.specs.List.{AllByRecursion, position}
use Rattle.std.proofs.lemmas.List.{map-append}
use Rattle.std.proofs.lemmas.List.Quantifiers.{position-Some}
use Rattle.bk_ids.specs.declared.path.Branch.{Branch}
use Rattle.bk_lemmas.specs.Lists.{all_at, all_both, all_mapped}
use Rattle.bk_machine.specs.Acts.{Act, Recovery, based, based_on, created, done, dropped, goes_online, gone_on, job_set, jobs_dropped, readied, with_job, gone_online, logged, medium_made, new_database, noted, says, seated, set_drawn, set_sealed, turned}
use Rattle.bk_machine.specs.declared.history_row.HistoryRow.{HistoryRow}
use Rattle.bk_machine.specs.declared.job.Job.{Job}
use Rattle.bk_machine.specs.MayDo.{HoldsOf, MayDo, MayLog, MayRecover, MaySay}
use Rattle.bk_machine.specs.SaysLaws.{done-says}
use Rattle.bk_machine.specs.Sound.{IsSound, IsWhole, IsWholeDatabase}
use Rattle.bk_machine.specs.World.{World, Database, database_named, ended, log_of, log_to, opened, with_database, without_database}
use Rattle.bk_world.specs.declared.database.Creation.{Creation}
use Rattle.bk_world.specs.declared.header.Header.{Header}
use Rattle.bk_world.specs.declared.transaction.Open.{Open}
use Rattle.bk_world.specs.Cut.{end_behind}
use Rattle.bk_world.specs.Lines.{RecordLines, log_below}
use Rattle.bk_world.specs.Records.{Counts, Logged, Said, checkpointed, more}
use Rattle.bk_world.specs.SameLaws.{is_guid-refl}
use Rattle.bk_world.specs.Says.{alone}
use Rattle.bk_world.specs.Telling.{model}
use Rattle.bk_hosted.specs.Hosted.{Hosted, Hosts, IsHosted, SaysNoCheckpoint, basing, creating, database_of, folding, names, noting, running, saying}
use Rattle.bk_hosted.specs.PlaceLaws.{all-more, all-removed, all-set, got-or, named-at, own-position, with-at, without-at}
use Rattle.bk_hosted.specs.PointLaws.{checkpoint-is, folding-is, noting-is, saying-is}

-- ---- what the machine's laws say

-- a path that has each number once reads the same behind an act that may be done
abbrev pub StaysRead : Type 0
StaysRead = (w : World) (act : Act) → IsSound w → MayDo w act → (path : List Branch) (n : ℕ) → Counts 1 (log_below w.history path n) n → log_below (done w act).history path n ≡ log_below w.history path n

-- what a database says comes behind its log
abbrev pub SaidLast : Type 0
SaidLast = (w : World) (name : List ℕ) (db : Database) (said : List Said) (transactions : List Open) → IsWhole w → database_named w.databases name ≡ Some db → MaySay w db said
    → log_of (says w db said transactions).history (gone_on (model (log_of w.history db)) said transactions db) ≡ more (log_of w.history db) db.end said

-- what a recovery says comes behind the log up to there
abbrev pub RecoveredLast : Type 0
RecoveredLast = (w : World) (name : List ℕ) (db : Database) (r : Recovery) → IsSound w → database_named w.databases name ≡ Some db → MayRecover w db r
    → log_of (goes_online w db r).history (gone_online (model (log_to w.history db r.at)) r db) ≡ more (log_to w.history db r.at) r.at r.said

-- ---- lists

mapped-all : {A B : Type 0} (P : B → Type 0) (f : A → B) (xs : List A) → AllByRecursion P (map f xs) → AllByRecursion (λ (x : A). P (f x)) xs
mapped-all P f [] all = tt
mapped-all P f (x ∷ xs) all = (all.0, mapped-all P f xs all.1)

held : (P : Database → Type 0) (found : Option Database) (db : Database) → found ≡ Some db → HoldsOf found P → P db
held P found db is holds = subst (λ f. HoldsOf f P) is holds

-- ---- databases that stay

-- what is known of a hosted database of a sound world
abbrev pub Counted : RecordLines → Hosted → Type 0
Counted history h = Counts 1 (log_of history (database_of h)) (end_behind h.records)

pub counted : (w : World) (hosted : List Hosted) → IsSound w → Hosts w hosted → AllByRecursion (Counted w.history) hosted
counted w hosted sound hosts =
    let all : AllByRecursion (IsWholeDatabase w) (map database_of hosted) = subst (AllByRecursion (IsWholeDatabase w)) hosts.same sound.whole.databases in
    all_mapped (λ (h : Hosted). IsWholeDatabase w (database_of h)) (Counted w.history) (λ h whole. whole.log.counts) hosted (mapped-all (IsWholeDatabase w) database_of hosted all)

-- its records have each number once
records-counted : (history : RecordLines) (h : Hosted) → IsHosted history h → Counted history h → Counts 1 h.records (end_behind h.records)
records-counted history h is counts = subst (λ (rs : List Logged). Counts 1 rs (end_behind h.records)) is.log counts

hosted-still : StaysRead → (w : World) (act : Act) → IsSound w → MayDo w act → (h : Hosted) → IsHosted w.history h → Counted w.history h → IsHosted (done w act).history h
unfolding log_of
hosted-still reads w act sound may h is counts = record { log = reads w act sound may h.spec.path (end_behind h.records) counts ∙ is.log }

-- all stay hosted behind an act
pub all-still : StaysRead → (w : World) (act : Act) (hosted : List Hosted) → IsSound w → MayDo w act → Hosts w hosted → AllByRecursion (IsHosted (done w act).history) hosted
all-still reads w act hosted sound may hosts =
    all_both (IsHosted w.history) (Counted w.history) (IsHosted (done w act).history) (λ h is counts. hosted-still reads w act sound may h is counts) hosted hosts.each (counted w hosted sound hosts)

-- ---- one database

-- the one at the place of a name
pub record IsThere (w : World) (name : List ℕ) (hosted : List Hosted) (i : ℕ) (h : Hosted) : Type 0 where
  pub at : h ≡ get_or hosted i h
  pub inside : i < length hosted
  pub named : database_named w.databases name ≡ Some (database_of h)
  pub is : IsHosted w.history h
  pub counts : Counted w.history h

pub is-there : (w : World) (name : List ℕ) (hosted : List Hosted) (i : ℕ) (h : Hosted) → IsSound w → Hosts w hosted → position (names name) hosted ≡ Some i → slice_get hosted i ≡ Some h → IsThere w name hosted i h
is-there w name hosted i h sound hosts place there =
    let at : h ≡ get_or hosted i h = got-or hosted i h there in
    let inside : i < length hosted = (position-Some (names name) hosted i h place).0 in
    record {
      at = at;
      inside = inside;
      named = ap (λ dbs. database_named dbs name) hosts.same ∙ named-at name hosted i h place at;
      is = subst (IsHosted w.history) (sym at) (all_at (IsHosted w.history) hosted i h inside hosts.each);
      counts = subst (Counted w.history) (sym at) (all_at (Counted w.history) hosted i h inside (counted w hosted sound hosts));
    }

-- and it is whole
pub whole-there : (w : World) (name : List ℕ) (hosted : List Hosted) (i : ℕ) (h : Hosted) → IsSound w → Hosts w hosted → position (names name) hosted ≡ Some i → slice_get hosted i ≡ Some h → IsWholeDatabase w (database_of h)
whole-there w name hosted i h sound hosts place there =
    let all : AllByRecursion (IsWholeDatabase w) (map database_of hosted) = subst (AllByRecursion (IsWholeDatabase w)) hosts.same sound.whole.databases in
    subst (λ (g : Hosted). IsWholeDatabase w (database_of g)) (sym (got-or hosted i h there))
    (all_at (λ (g : Hosted). IsWholeDatabase w (database_of g)) hosted i h (position-Some (names name) hosted i h place).0 (mapped-all (IsWholeDatabase w) database_of hosted all))

-- one changes as in the world behind an act, and the others stay
pub changed : StaysRead → (w : World) (act : Act) (name : List ℕ) (hosted : List Hosted) (i : ℕ) (h new : Hosted) (change : Database → Database) → IsSound w → MayDo w act → Hosts w hosted
    → position (names name) hosted ≡ Some i → h ≡ get_or hosted i h → (done w act).databases ≡ with_database w.databases name change → database_of new ≡ change (database_of h)
    → IsHosted (done w act).history new → Hosts (done w act) (set hosted i new)
changed reads w act name hosted i h new change sound may hosts place at databases is its = record {
  same = databases ∙ ap (λ dbs. with_database dbs name change) hosts.same ∙ sym (with-at name change hosted i h new place at is);
  each = all-set (IsHosted (done w act).history) hosted i h new (position-Some (names name) hosted i h place).0 (λ _. its) (all-still reads w act hosted sound may hosts);
}

-- ---- a database says something

pub says-databases : (w : World) (db : Database) (said : List Said) (ts : List Open) → (says w db said ts).databases ≡ with_database w.databases db.name (gone_on (model (log_of w.history db)) said ts)
unfolding says
says-databases w db said ts = refl

-- what is hosted of it behind that
hosts-logged : StaysRead → SaidLast → (w : World) (name : List ℕ) (said : List Said) (ts : List Open) (hosted : List Hosted) (i : ℕ) (h new : Hosted) → IsSound w → Hosts w hosted
    → position (names name) hosted ≡ Some i → slice_get hosted i ≡ Some h → MayDo w (logged name said ts)
    → (Counts 1 h.records (end_behind h.records) → database_of new ≡ gone_on (model h.records) said ts (database_of h)) → new.records ≡ more h.records (end_behind h.records) said
    → Hosts (done w (logged name said ts)) (set hosted i new)
hosts-logged reads last w name said ts hosted i h new sound hosts place there may becomes records =
    let here = is-there w name hosted i h sound hosts place there in
    let db : Database = database_of h in
    let own : MayLog w db said ts = held (λ d. MayLog w d said ts) (database_named w.databases name) db here.named may in
    let same : done w (logged name said ts) ≡ says w db said ts = done-says w name db said ts here.named in
    let its : database_of new ≡ gone_on (model (log_of w.history db)) said ts db =
    becomes (records-counted w.history h here.is here.counts) ∙ ap (λ (rs : List Logged). gone_on (model rs) said ts db) (sym here.is.log) in
    let log : log_of (says w db said ts).history (database_of new) ≡ new.records =
    ap (λ (d : Database). log_of (says w db said ts).history d) its ∙ last w name db said ts sound.whole here.named own.says ∙ ap (λ (rs : List Logged). more rs db.end said) here.is.log ∙ sym records in
    let behind : IsHosted (done w (logged name said ts)).history new =
    record { log = ap (λ (v : World). log_of v.history (database_of new)) same ∙ log } in
    changed reads w (logged name said ts) h.spec.name hosted i h new (gone_on (model (log_of w.history db)) said ts) sound may hosts (own-position name hosted i h place here.at) here.at
    (ap (λ (v : World). v.databases) same ∙ says-databases w db said ts) its behind

pub hosts-said : StaysRead → SaidLast → (w : World) (name : List ℕ) (said : List Said) (ts : List Open) (hosted : List Hosted) (i : ℕ) (h : Hosted) → IsSound w → Hosts w hosted
    → position (names name) hosted ≡ Some i → slice_get hosted i ≡ Some h → MayDo w (logged name said ts) → SaysNoCheckpoint said → Hosts (done w (logged name said ts)) (set hosted i (saying said ts h))
hosts-said reads last w name said ts hosted i h sound hosts place there may none =
    hosts-logged reads last w name said ts hosted i h (saying said ts h) sound hosts place there may (λ counts. saying-is (model h.records) h said ts none) refl

pub hosts-checkpoint : StaysRead → SaidLast → (w : World) (name : List ℕ) (time : ℕ) (ts : List Open) (hosted : List Hosted) (i : ℕ) (h : Hosted) → IsSound w → Hosts w hosted
    → position (names name) hosted ≡ Some i → slice_get hosted i ≡ Some h → MayDo w (logged name (alone (checkpointed time)) ts)
    → Hosts (done w (logged name (alone (checkpointed time)) ts)) (set hosted i (saying (alone (checkpointed time)) ts (noting h)))
hosts-checkpoint reads last w name time ts hosted i h sound hosts place there may =
    hosts-logged reads last w name (alone (checkpointed time)) ts hosted i h (saying (alone (checkpointed time)) ts (noting h)) sound hosts place there may
    (λ counts. checkpoint-is h time ts counts) refl

-- another form of a database, which is the same in the world
hosts-same : (w : World) (name : List ℕ) (hosted : List Hosted) (i : ℕ) (h new : Hosted) → IsSound w → Hosts w hosted → position (names name) hosted ≡ Some i → slice_get hosted i ≡ Some h
    → (Counts 1 h.records (end_behind h.records) → database_of new ≡ database_of h) → new.records ≡ h.records → Hosts w (set hosted i new)
hosts-same w name hosted i h new sound hosts place there becomes records =
    let here = is-there w name hosted i h sound hosts place there in
    let its : database_of new ≡ database_of h = becomes (records-counted w.history h here.is here.counts) in
    record {
      same = hosts.same ∙ same-there hosted i h new here.at its;
      each = all-set (IsHosted w.history) hosted i h new here.inside (λ _. record { log = ap (log_of w.history) its ∙ here.is.log ∙ sym records }) hosts.each;
    }
  where
    same-there : (hs : List Hosted) (k : ℕ) (x put : Hosted) → x ≡ get_or hs k x → database_of put ≡ database_of x → map database_of hs ≡ map database_of (set hs k put)
    same-there [] k x put at is = refl
    same-there (y ∷ hs) zero x put at is = ap (λ (d : Database). d ∷ map database_of hs) (ap database_of (sym at) ∙ sym is)
    same-there (y ∷ hs) (suc k) x put at is = ap (λ (ds : List Database). database_of y ∷ ds) (same-there hs k x put at is)

-- the next checkpoint is noted: nothing is done to the world
pub hosts-noted : (w : World) (name : List ℕ) (hosted : List Hosted) (i : ℕ) (h : Hosted) → IsSound w → Hosts w hosted → position (names name) hosted ≡ Some i → slice_get hosted i ≡ Some h → Hosts w (set hosted i (noting h))
hosts-noted w name hosted i h sound hosts place there = hosts-same w name hosted i h (noting h) sound hosts place there (noting-is h) refl

pub hosts-folded : (w : World) (name : List ℕ) (hosted : List Hosted) (i : ℕ) (h : Hosted) → IsSound w → Hosts w hosted → position (names name) hosted ≡ Some i → slice_get hosted i ≡ Some h → Hosts w (set hosted i (folding h))
hosts-folded w name hosted i h sound hosts place there = hosts-same w name hosted i h (folding h) sound hosts place there (folding-is h) refl

-- ---- a database is based on a set

based-history : (w : World) (name : List ℕ) (header : Header) → (done w (based name header)).history ≡ w.history
unfolding done
based-history w name header = refl

based-databases : (w : World) (name : List ℕ) (header : Header) → (done w (based name header)).databases ≡ with_database w.databases name (based_on header)
unfolding done
based-databases w name header = refl

pub hosts-based : StaysRead → (w : World) (name : List ℕ) (header : Header) (hosted : List Hosted) (i : ℕ) (h : Hosted) → IsSound w → Hosts w hosted
    → position (names name) hosted ≡ Some i → slice_get hosted i ≡ Some h → Hosts (done w (based name header)) (set hosted i (basing header h))
unfolding log_of
hosts-based reads w name header hosted i h sound hosts place there =
    let here = is-there w name hosted i h sound hosts place there in
    changed reads w (based name header) name hosted i h (basing header h) (based_on header) sound tt hosts place here.at (based-databases w name header) refl
    (record { log = ap (λ (history : RecordLines). log_below history h.spec.path (end_behind h.records)) (based-history w name header) ∙ here.is.log })

-- ---- a backup of a database runs, or none does any more

-- that moves neither the log nor its path
hosted-running : (lines : RecordLines) (job : Option Job) (h : Hosted) → IsHosted lines h → IsHosted lines (running job h)
unfolding log_of
hosted-running lines job h is = record { log = is.log }

job-history : (w : World) (name : List ℕ) (job : Option Job) → (done w (job_set name job)).history ≡ w.history
unfolding done
job-history w name job = refl

job-databases : (w : World) (name : List ℕ) (job : Option Job) → (done w (job_set name job)).databases ≡ with_database w.databases name (with_job job)
unfolding done
job-databases w name job = refl

pub hosts-job_set : (w : World) (name : List ℕ) (job : Option Job) (hosted : List Hosted) (i : ℕ) (h : Hosted) → Hosts w hosted → position (names name) hosted ≡ Some i → slice_get hosted i ≡ Some h
    → Hosts (done w (job_set name job)) (set hosted i (running job h))
hosts-job_set w name job hosted i h hosts place there =
    let at : h ≡ get_or hosted i h = got-or hosted i h there in
    let inside : i < length hosted = (position-Some (names name) hosted i h place).0 in
    record {
      same = job-databases w name job ∙ ap (λ dbs. with_database dbs name (with_job job)) hosts.same ∙ sym (with-at name (with_job job) hosted i h (running job h) place at refl);
      each = subst (λ (lines : RecordLines). AllByRecursion (IsHosted lines) (set hosted i (running job h))) (sym (job-history w name job))
          (all-set (IsHosted w.history) hosted i h (running job h) inside (λ is. hosted-running w.history job h (subst (IsHosted w.history) (sym at) is)) hosts.each);
    }

none-databases : (hosted : List Hosted) → map (with_job None) (map database_of hosted) ≡ map database_of (map (running None) hosted)
none-databases [] = refl
none-databases (h ∷ hosted) = ap (λ (dbs : List Database). with_job None (database_of h) ∷ dbs) (none-databases hosted)

none-running : (lines : RecordLines) (hosted : List Hosted) → AllByRecursion (IsHosted lines) hosted → AllByRecursion (IsHosted lines) (map (running None) hosted)
none-running lines [] all = tt
none-running lines (h ∷ hosted) all = (hosted-running lines None h all.0, none-running lines hosted all.1)

dropped-history : (w : World) → (done w jobs_dropped).history ≡ w.history
unfolding done
dropped-history w = refl

without-jobs : (w : World) → (done w jobs_dropped).databases ≡ map (with_job None) w.databases
unfolding done
without-jobs w = refl

pub hosts-jobs_dropped : (w : World) (hosted : List Hosted) → Hosts w hosted → Hosts (done w jobs_dropped) (map (running None) hosted)
hosts-jobs_dropped w hosted hosts = record {
  same = without-jobs w ∙ ap (map (with_job None)) hosts.same ∙ none-databases hosted;
  each = subst (λ (lines : RecordLines). AllByRecursion (IsHosted lines) (map (running None) hosted)) (sym (dropped-history w)) (none-running w.history hosted hosts.each);
}

-- ---- databases come and go

dropped-databases : (w : World) (name : List ℕ) → (done w (dropped name)).databases ≡ without_database w.databases name
unfolding done
dropped-databases w name = refl

pub hosts-dropped : StaysRead → (w : World) (name : List ℕ) (hosted : List Hosted) (i : ℕ) (h : Hosted) → IsSound w → Hosts w hosted → position (names name) hosted ≡ Some i → slice_get hosted i ≡ Some h
    → Hosts (done w (dropped name)) (remove hosted i)
hosts-dropped reads w name hosted i h sound hosts place there = record {
  same = dropped-databases w name ∙ ap (λ dbs. without_database dbs name) hosts.same ∙ sym (without-at name hosted i h place);
  each = all-removed (IsHosted (done w (dropped name)).history) hosted i (all-still reads w (dropped name) hosted sound tt hosts);
}

created-databases : (w : World) (c : Creation) → (done w (created c)).databases ≡ w.databases ++ new_database c ∷ []
unfolding done
created-databases w c = refl

created-is : (c : Creation) → database_of (creating c) ≡ new_database c
unfolding new_database
created-is c = refl

created-log : (w : World) (c : Creation) → log_of (done w (created c)).history (database_of (creating c)) ≡ (creating c).records
unfolding done log_of log_below
created-log w c = rw (is_guid-refl c.branch) refl

pub hosts-created : StaysRead → (w : World) (c : Creation) (hosted : List Hosted) → IsSound w → MayDo w (created c) → Hosts w hosted → Hosts (done w (created c)) (hosted ++ creating c ∷ [])
hosts-created reads w c hosted sound may hosts = record {
  same = created-databases w c ∙ ap (λ dbs. dbs ++ new_database c ∷ []) hosts.same ∙ ap (λ db. map database_of hosted ++ db ∷ []) (sym (created-is c)) ∙ sym (map-append database_of hosted (creating c ∷ []));
  each = all-more (IsHosted (done w (created c)).history) hosted (creating c) (all-still reads w (created c) hosted sound may hosts) (record { log = created-log w c });
}

-- ---- acts that change no database

-- the same history and databases host the same
same-hosts : (w v : World) (hosted : List Hosted) → v.history ≡ w.history → v.databases ≡ w.databases → Hosts w hosted → Hosts v hosted
same-hosts w v hosted history databases hosts = record { same = databases ∙ hosts.same; each = subst (λ (lines : RecordLines). AllByRecursion (IsHosted lines) hosted) (sym history) hosts.each }

pub hosts-turned : (w : World) (name : Option (List ℕ)) (hosted : List Hosted) → Hosts w hosted → Hosts (done w (turned name)) hosted
unfolding done
hosts-turned w name hosted hosts = same-hosts w (done w (turned name)) hosted refl refl hosts

pub hosts-readied : (w : World) (starts : Bool) (hosted : List Hosted) → Hosts w hosted → Hosts (done w (readied starts)) hosted
unfolding done
hosts-readied w starts hosted hosts = same-hosts w (done w (readied starts)) hosted refl refl hosts

pub hosts-seated : (w : World) (session : ℕ) (hosted : List Hosted) → Hosts w hosted → Hosts (done w (seated session)) hosted
unfolding done
hosts-seated w session hosted hosts = same-hosts w (done w (seated session)) hosted refl refl hosts

pub hosts-medium : (w : World) (path : List ℕ) (hosted : List Hosted) → Hosts w hosted → Hosts (done w (medium_made path)) hosted
unfolding done
hosts-medium w path hosted hosts = same-hosts w (done w (medium_made path)) hosted refl refl hosts

pub hosts-drawn : (w : World) (hosted : List Hosted) → Hosts w hosted → Hosts (done w set_drawn) hosted
unfolding done
hosts-drawn w hosted hosts = same-hosts w (done w set_drawn) hosted refl refl hosts

pub hosts-row : (w : World) (row : HistoryRow) (hosted : List Hosted) → Hosts w hosted → Hosts (done w (noted row)) hosted
unfolding done
hosts-row w row hosted hosts = same-hosts w (done w (noted row)) hosted refl refl hosts

pub hosts-sealed : (w : World) (path : List ℕ) (header : Header) (hosted : List Hosted) → Hosts w hosted → Hosts (done w (set_sealed path header)) hosted
unfolding done
hosts-sealed w path header hosted hosts = same-hosts w (done w (set_sealed path header)) hosted refl refl hosts

pub hosts-opened : (w : World) (hosted : List Hosted) → Hosts w hosted → Hosts (opened w) hosted
unfolding opened
hosts-opened w hosted hosts = same-hosts w (opened w) hosted refl refl hosts

pub hosts-ended : (w : World) (hosted : List Hosted) → Hosts w hosted → Hosts (ended w) hosted
unfolding ended
hosts-ended w hosted hosts = same-hosts w (ended w) hosted refl refl hosts
