-- Acts that may be done to a sound world leave a sound world, which follows it.
use Rattle.std.proofs.Common.{◌≡◌, ℕ, List, [], ◌∷◌, Option, Some, None, refl, sym, ◌∙◌, subst, arith, length, ◌+◌}
use Rattle.bk_ids.specs.declared.path.Branch.{Branch}
use Rattle.bk_world.specs.Lines.{log_below}
use Rattle.bk_world.specs.Records.{Counts, Said, more}
use Rattle.bk_world.specs.GrowthLaws.{records-grown}
use Rattle.bk_world.specs.Telling.{model}
use Rattle.bk_machine.proofs.Keeping.{keeps-said}
use Rattle.bk_machine.proofs.ActsJobs.{job_set-follows, job_set-sound, jobs_dropped-follows, jobs_dropped-sound}
use Rattle.bk_machine.specs.JobLaws.{fit-said}
use Rattle.bk_machine.specs.Acts.{Act, Recovery, turned, seated, created, dropped, logged, medium_made, set_drawn, noted, set_sealed, based, replaced, restored, recovered, done, done_all, goes_online, says, where_found, readied, job_set, jobs_dropped, gone_on}
use Rattle.bk_machine.specs.MayDo.{HoldsOf, MayDo, MayDoAll, MayLog, MayRecover}
use Rattle.bk_machine.specs.Sound.{IsSound, IsFitJob, JobIs, OpenBy, IsKept, IsWholeDatabase}
use Rattle.bk_world.specs.declared.transaction.Open.{Open}
use Rattle.bk_machine.specs.World.{World, Database, database_named, log_of}
use Rattle.bk_machine.proofs.ActsBegin.{created-follows, created-sound, recovered-follows, recovered-sound}
use Rattle.bk_machine.proofs.ActsPlain.{based-follows, based-sound, dropped-follows, dropped-sound, medium_made-follows, set_drawn-follows, noted-follows, medium_made-sound, set_drawn-sound, noted-sound, replaced-follows, replaced-sound, restored-follows, restored-sound, sealed-follows, sealed-sound, seated-follows, seated-sound, turned-follows, turned-sound, readied-follows, readied-sound}
use Rattle.bk_machine.proofs.ActsSays.{says-follows, says-opens, says-whole}
use Rattle.bk_machine.proofs.ActsStay.{Follows}
use Rattle.bk_machine.specs.NamedLaws.{named-own, of-named}

-- a sound world behind another
record Keeps (old new : World) : Type 0 where
  pub follows : Follows old new
  pub sound : IsSound new

logged-keeps : (w : World) (name : List ℕ) (said : List Said) (transactions : List Open) → IsSound w → MayDo w (logged name said transactions) → Keeps w (done w (logged name said transactions))
unfolding done says
logged-keeps w name said transactions is may = by (database_named w.databases name) refl may
  where
    by : (o : Option Database) → database_named w.databases name ≡ o → HoldsOf o (λ db. MayLog w db said transactions) → Keeps w (where_found w o (λ db. says w db said transactions))
    by None there holds = absurd holds
    by (Some db) there holds =
        let own : database_named w.databases db.name ≡ Some db = named-own w.databases name db there in
        let opens : OpenBy w.history db = of-named (OpenBy w.history) w.databases db.name db is.opens own in
        let fits : JobIs (IsFitJob (more (log_of w.history db) db.end said) (db.end + length said) transactions) db.job =
        fit-said (log_of w.history db) (more (log_of w.history db) db.end said) db (db.end + length said) transactions db.job opens.job holds.each (omega arith) holds.leaves in
        let whole : IsWholeDatabase w db = of-named (IsWholeDatabase w) w.databases db.name db is.whole.databases own in
        let keeps : IsKept (gone_on (model (log_of w.history db)) said transactions db).kept transactions db.job =
        keeps-said (model (log_of w.history db)) db said transactions holds.says.marks whole.kept opens.keeps holds.each in record {
          follows = says-follows w db said transactions is.whole own holds.says;
          sound = record { whole = says-whole w db said transactions is.whole own holds.says; opens = says-opens w db said transactions is.whole own holds.says is.opens holds.opens fits keeps; seat = is.seat };
        }

recovered-keeps : (w : World) (name : List ℕ) (r : Recovery) → IsSound w → MayDo w (recovered name r) → Keeps w (done w (recovered name r))
unfolding done
recovered-keeps w name r is may = by (database_named w.databases name) refl may
  where
    by : (o : Option Database) → database_named w.databases name ≡ o → HoldsOf o (λ db. MayRecover w db r) → Keeps w (where_found w o (λ db. goes_online w db r))
    by None there holds = absurd holds
    by (Some db) there holds =
        let own : database_named w.databases db.name ≡ Some db = named-own w.databases name db there in
        record { follows = recovered-follows w db r is own holds; sound = recovered-sound w db r is own holds }

act-keeps : (w : World) (act : Act) → IsSound w → MayDo w act → Keeps w (done w act)
act-keeps w (turned name) is may = record { follows = turned-follows w is name; sound = turned-sound w is name }
act-keeps w (seated session) is may = record { follows = seated-follows w is session may; sound = seated-sound w is session may }
act-keeps w (readied starts) is may = record { follows = readied-follows w is starts; sound = readied-sound w is starts }
act-keeps w (created c) is may = record { follows = created-follows w c is may; sound = created-sound w c is may }
act-keeps w (dropped name) is may = record { follows = dropped-follows w is name; sound = dropped-sound w is name }
act-keeps w (logged name said transactions) is may = logged-keeps w name said transactions is may
act-keeps w (medium_made path) is may = record { follows = medium_made-follows w is path; sound = medium_made-sound w is path }
act-keeps w set_drawn is may = record { follows = set_drawn-follows w is; sound = set_drawn-sound w is }
act-keeps w (set_sealed path header) is may = record { follows = sealed-follows w is path header may; sound = sealed-sound w is path header may }
act-keeps w (noted row) is may = record { follows = noted-follows w is row; sound = noted-sound w is row }
act-keeps w (based name header) is may = record { follows = based-follows w is name header; sound = based-sound w is name header }
act-keeps w (job_set name job) is may = record { follows = job_set-follows w is name job may; sound = job_set-sound w is name job may }
act-keeps w jobs_dropped is may = record { follows = jobs_dropped-follows w is; sound = jobs_dropped-sound w is }
act-keeps w (replaced name header) is may = record { follows = replaced-follows w is name header may; sound = replaced-sound w is name header may }
act-keeps w (restored name base redo) is may = record { follows = restored-follows w is name base redo; sound = restored-sound w is name base redo }
act-keeps w (recovered name r) is may = recovered-keeps w name r is may

pub act-follows : (w : World) (act : Act) → IsSound w → MayDo w act → Follows w (done w act)
act-follows w act is may = (act-keeps w act is may).follows

pub act-sound : (w : World) (act : Act) → IsSound w → MayDo w act → IsSound (done w act)
act-sound w act is may = (act-keeps w act is may).sound

pub acts-sound : (w : World) (acts : List Act) → IsSound w → MayDoAll w acts → IsSound (done_all w acts)
acts-sound w [] is may = is
acts-sound w (act ∷ acts) is may = acts-sound (done w act) acts (act-sound w act is may.0) may.1

-- a path that has each number once reads the same
pub act-reads : (w : World) (act : Act) → IsSound w → MayDo w act → (path : List Branch) (n : ℕ) → Counts 1 (log_below w.history path n) n → log_below (done w act).history path n ≡ log_below w.history path n
act-reads w act is may path n counts = records-grown w.history (done w act).history (act-follows w act is may).grew path n counts

pub acts-read : (w : World) (acts : List Act) → IsSound w → MayDoAll w acts → (path : List Branch) (n : ℕ) → Counts 1 (log_below w.history path n) n → log_below (done_all w acts).history path n ≡ log_below w.history path n
acts-read w [] is may path n counts = refl
acts-read w (act ∷ acts) is may path n counts =
    let one : log_below (done w act).history path n ≡ log_below w.history path n = act-reads w act is may.0 path n counts in
    acts-read (done w act) acts (act-sound w act is may.0) may.1 path n (subst (λ rs. Counts 1 rs n) (sym one) counts) ∙ one
