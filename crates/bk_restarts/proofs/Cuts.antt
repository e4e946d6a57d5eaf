-- Where acts are cut: what is open there, and that it is among records that tell no entry.
use Rattle.std.proofs.Common.{◌≡◌, ℕ, zero, suc, Bool, true, false, cond, List, [], ◌∷◌, drop, length, take, Option, None, Some, inl, inr, refl, sym, ap, subst, ◌∙◌}
use Rattle.std.proofs.lemmas.Bool.{cases_lt}
use Rattle.std.proofs.lemmas.List.{take_all}
use Rattle.std.specs.Prelude.{◌≢◌}
use Rattle.std.specs.List.{AllByRecursion}
use Rattle.bk_hosted.specs.Fronts.{TellsLast}
use Rattle.bk_ids.specs.Name.{same_name}
use Rattle.bk_ids.specs.declared.record.RecoveryModel.{RecoveryModel}
use Rattle.bk_lemmas.specs.Lists.{all_both}
use Rattle.bk_machine.specs.Acts.{Act, based, created, done, done_all, dropped, gone_on, job_set, jobs_dropped, logged, medium_made, noted, pointed, pointed_by, readied, recovered, replaced, restored, says, seated, set_drawn, set_sealed, turned, where_found}
use Rattle.bk_machine.specs.Crash.{IsQuiet, begins_in, front_of, open_begins}
use Rattle.bk_machine.specs.SaysLaws.{point-over}
use Rattle.bk_machine.specs.Sound.{IsSound, OpenBy}
use Rattle.bk_machine.specs.World.{Database, World, database_named, log_of, with_database}
use Rattle.bk_restarts.specs.Cuts.{cut_in}
use Rattle.bk_world.specs.declared.database.Status.{Status}
use Rattle.bk_world.specs.declared.database.Status.TheVariants.{Online}
use Rattle.bk_world.specs.declared.transaction.Open.{Open}
use Rattle.bk_world.specs.Cut.{is_among}
use Rattle.bk_world.specs.Records.{Logged, Said, numbered}
use Rattle.bk_world.specs.Telling.{model}

-- ---- what is open

-- what is open in a database was open before the statement, or is of the statement
abbrev pub OpenAmong : World → Database → Type 0
OpenAmong before db = AllByRecursion (λ (t : Open). is_among (open_begins before db) t.begin ≡ true) db.transactions

-- and nothing is in one that isn't online
pub record OpensAt (before : World) (db : Database) : Type 0 where
  pub among : OpenAmong before db
  pub idle : db.status ≢ Online → db.transactions ≡ []

-- the same of its name, its status and what is open
abbrev OpensBy : World → List ℕ → Status → List Open → Type 0
OpensBy before name status transactions =
    AllByRecursion (λ (t : Open). is_among (begins_in (database_named before.databases name)) t.begin ≡ true) transactions × (status ≢ Online → transactions ≡ [])

to-by : (before : World) (db : Database) → OpensAt before db → OpensBy before db.name db.status db.transactions
to-by before db opens = (opens.among, opens.idle)

of-by : (before : World) (db : Database) → OpensBy before db.name db.status db.transactions → OpensAt before db
of-by before db opens = record { among = opens.0; idle = opens.1 }

-- a world that is sound, in which what is open was open before
abbrev pub IsOpenIn : World → World → Type 0
IsOpenIn before w = IsSound w × AllByRecursion (OpenAmong before) w.databases

opens-at : (before w : World) → IsOpenIn before w → AllByRecursion (OpensAt before) w.databases
opens-at before w is =
    all_both (OpenAmong before) (OpenBy w.history) (OpensAt before) (λ db among opens. record { among = among; idle = λ down. (opens.offline down).transactions }) w.databases is.1 is.0.opens

-- ---- a database says less

-- a record moves no name and no status
name-stays : (m : RecoveryModel) (db : Database) (rs : List Logged) → (pointed m db rs).name ≡ db.name
name-stays m db [] = refl
name-stays m db (r ∷ rs) = name-stays m (pointed_by m db r.lsn r.deed) rs ∙ ap (λ (d : Database). d.name) (point-over m db r.lsn r.deed 0 0)

status-stays : (m : RecoveryModel) (db : Database) (rs : List Logged) → (pointed m db rs).status ≡ db.status
status-stays m db [] = refl
status-stays m db (r ∷ rs) = status-stays m (pointed_by m db r.lsn r.deed) rs ∙ ap (λ (d : Database). d.status) (point-over m db r.lsn r.deed 0 0)

gone-on : (before : World) (m : RecoveryModel) (said less : List Said) (transactions : List Open) (db : Database) → OpensAt before (gone_on m said transactions db) → OpensAt before (gone_on m less transactions db)
gone-on before m said less transactions db opens =
    let one : List Logged = numbered db.end said in
    let two : List Logged = numbered db.end less in
    of-by before (gone_on m less transactions db)
    (subst (λ (n : List ℕ). OpensBy before n (pointed m db two).status transactions) (name-stays m db one ∙ sym (name-stays m db two))
    (subst (λ (s : Status). OpensBy before (pointed m db one).name s transactions) (status-stays m db one ∙ sym (status-stays m db two)) (to-by before (gone_on m said transactions db) opens)))

all-gone : (before : World) (m : RecoveryModel) (said less : List Said) (transactions : List Open) (name : List ℕ) (dbs : List Database)
    → AllByRecursion (OpensAt before) (with_database dbs name (gone_on m said transactions)) → AllByRecursion (OpensAt before) (with_database dbs name (gone_on m less transactions))
all-gone before m said less transactions name [] opens = tt
all-gone before m said less transactions name (db ∷ dbs) opens = by (same_name db.name name) opens (all-gone before m said less transactions name dbs)
  where
    by : (t : Bool) → AllByRecursion (OpensAt before) (cond t (gone_on m said transactions db ∷ dbs) (db ∷ with_database dbs name (gone_on m said transactions)))
        → (AllByRecursion (OpensAt before) (with_database dbs name (gone_on m said transactions)) → AllByRecursion (OpensAt before) (with_database dbs name (gone_on m less transactions)))
        → AllByRecursion (OpensAt before) (cond t (gone_on m less transactions db ∷ dbs) (db ∷ with_database dbs name (gone_on m less transactions)))
    by true here later = (gone-on before m said less transactions db here.0, here.1)
    by false here later = (here.0, later here.1)

-- the same is open behind a front of what a database says as behind all of it
says-less : (before w : World) (name : List ℕ) (said less : List Said) (transactions : List Open)
    → AllByRecursion (OpensAt before) (done w (logged name said transactions)).databases → AllByRecursion (OpensAt before) (done w (logged name less transactions)).databases
unfolding done says
says-less before w name said less transactions opens = by (database_named w.databases name) opens
  where
    by : (o : Option Database) → AllByRecursion (OpensAt before) (where_found w o (λ db. says w db said transactions)).databases → AllByRecursion (OpensAt before) (where_found w o (λ db. says w db less transactions)).databases
    by None opens = opens
    by (Some db) opens = all-gone before (model (log_of w.history db)) said less transactions db.name w.databases opens

-- ---- what is open at a cut

-- inside of the first act
first-opens : (before w : World) (acts : List Act) → ((k : ℕ) → IsOpenIn before (done_all w (take k acts))) → (n : ℕ) → AllByRecursion (OpensAt before) (cut_in w acts 0 n).databases
first-opens before w acts good zero = opens-at before w (good 0)
first-opens before w [] good (suc n) = opens-at before w (good 0)
first-opens before w (logged name said transactions ∷ acts) good (suc n) =
    says-less before w name said (take (suc n) said) transactions (opens-at before (done w (logged name said transactions)) (good 1))
first-opens before w (turned name ∷ acts) good (suc n) = opens-at before w (good 0)
first-opens before w (seated session ∷ acts) good (suc n) = opens-at before w (good 0)
first-opens before w (readied starts ∷ acts) good (suc n) = opens-at before w (good 0)
first-opens before w (created c ∷ acts) good (suc n) = opens-at before w (good 0)
first-opens before w (dropped name ∷ acts) good (suc n) = opens-at before w (good 0)
first-opens before w (medium_made path ∷ acts) good (suc n) = opens-at before w (good 0)
first-opens before w (set_drawn ∷ acts) good (suc n) = opens-at before w (good 0)
first-opens before w (noted row ∷ acts) good (suc n) = opens-at before w (good 0)
first-opens before w (set_sealed path header ∷ acts) good (suc n) = opens-at before w (good 0)
first-opens before w (based name header ∷ acts) good (suc n) = opens-at before w (good 0)
first-opens before w (job_set name job ∷ acts) good (suc n) = opens-at before w (good 0)
first-opens before w (jobs_dropped ∷ acts) good (suc n) = opens-at before w (good 0)
first-opens before w (replaced name header ∷ acts) good (suc n) = opens-at before w (good 0)
first-opens before w (restored name base redo ∷ acts) good (suc n) = opens-at before w (good 0)
first-opens before w (recovered name r ∷ acts) good (suc n) = opens-at before w (good 0)

-- between any acts, or inside of one
pub cut-opens : (before w : World) (acts : List Act) → ((k : ℕ) → IsOpenIn before (done_all w (take k acts))) → (k n : ℕ) → AllByRecursion (OpensAt before) (cut_in w acts k n).databases
cut-opens before w acts good zero n = first-opens before w acts good n
cut-opens before w [] good (suc k) zero = opens-at before w (good 0)
cut-opens before w [] good (suc k) (suc n) = opens-at before w (good 0)
cut-opens before w (act ∷ acts) good (suc k) n = cut-opens before (done w act) acts (λ j. good (suc j)) k n

-- ---- cuts tell no entry

-- A world where acts are cut among records that tell no entry.
pub record CutAt (w : World) (acts : List Act) (cut : World) : Type 0 where
  pub done : ℕ
  pub records : ℕ
  pub quiet : AllByRecursion IsQuiet (front_of records (drop done acts))
  pub is : cut ≡ cut_in w acts done records

-- where nothing of an act is done, none is told
still : (w : World) (acts : List Act) (cut : World) → cut ≡ cut_in w acts 0 0 → CutAt w acts cut
still w acts cut is = record { done = 0; records = 0; quiet = tt; is = is }

-- what tells an entry is the last record of an act: then the act is done
first-cut : (w : World) (acts : List Act) → AllByRecursion TellsLast acts → (n : ℕ) → CutAt w acts (cut_in w acts 0 n)
first-cut w acts last zero = still w acts w refl
first-cut w [] last (suc n) = still w [] w refl
first-cut w (logged name said transactions ∷ acts) last (suc n) = elim (cases_lt (suc n) (length said)) [
  | inl less ↦ record { done = 0; records = suc n; quiet = (last.0 (suc n) less, tt); is = refl }
  | inr all ↦ record { done = 1; records = 0; quiet = tt; is = ap (λ (some : List Said). done w (logged name some transactions)) (take_all (suc n) said all) }
]
first-cut w (turned name ∷ acts) last (suc n) = still w (turned name ∷ acts) w refl
first-cut w (seated session ∷ acts) last (suc n) = still w (seated session ∷ acts) w refl
first-cut w (readied starts ∷ acts) last (suc n) = still w (readied starts ∷ acts) w refl
first-cut w (created c ∷ acts) last (suc n) = still w (created c ∷ acts) w refl
first-cut w (dropped name ∷ acts) last (suc n) = still w (dropped name ∷ acts) w refl
first-cut w (medium_made path ∷ acts) last (suc n) = still w (medium_made path ∷ acts) w refl
first-cut w (set_drawn ∷ acts) last (suc n) = still w (set_drawn ∷ acts) w refl
first-cut w (noted row ∷ acts) last (suc n) = still w (noted row ∷ acts) w refl
first-cut w (set_sealed path header ∷ acts) last (suc n) = still w (set_sealed path header ∷ acts) w refl
first-cut w (based name header ∷ acts) last (suc n) = still w (based name header ∷ acts) w refl
first-cut w (job_set name job ∷ acts) last (suc n) = still w (job_set name job ∷ acts) w refl
first-cut w (jobs_dropped ∷ acts) last (suc n) = still w (jobs_dropped ∷ acts) w refl
first-cut w (replaced name header ∷ acts) last (suc n) = still w (replaced name header ∷ acts) w refl
first-cut w (restored name base redo ∷ acts) last (suc n) = still w (restored name base redo ∷ acts) w refl
first-cut w (recovered name r ∷ acts) last (suc n) = still w (recovered name r ∷ acts) w refl

pub cut-at : (w : World) (acts : List Act) → AllByRecursion TellsLast acts → (k n : ℕ) → CutAt w acts (cut_in w acts k n)
cut-at w acts last zero n = first-cut w acts last n
cut-at w [] last (suc k) zero = still w [] w refl
cut-at w [] last (suc k) (suc n) = still w [] w refl
cut-at w (act ∷ acts) last (suc k) n =
    let rest : CutAt (done w act) acts (cut_in (done w act) acts k n) = cut-at (done w act) acts last.1 k n in
    record { done = suc rest.done; records = rest.records; quiet = rest.quiet; is = rest.is }
