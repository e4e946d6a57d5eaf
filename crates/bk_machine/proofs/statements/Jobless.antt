-- What closes a run starts no backup.
use Rattle.std.proofs.Common.{◌≡◌, inl, inr, ℕ, List, [], ◌∷◌, map, Option, None, Some, refl, sym, ◌∙◌, ap, subst}
use Rattle.std.specs.List.{AllByRecursion}
use Rattle.bk_lemmas.specs.Lists.{all_both}
use Rattle.bk_world.specs.Records.{Said}
use Rattle.bk_world.specs.Telling.{model}
use Rattle.bk_world.specs.declared.transaction.Open.{Open}
use Rattle.bk_machine.specs.Acts.{Act, done, done_all, gone_on, jobs_dropped, logged, says, where_found, with_job}
use Rattle.bk_machine.specs.Closing.{Closes, HasNoJobs, IsClosingFront, count_open}
use Rattle.bk_machine.specs.ClosingLaws.{none-open}
use Rattle.bk_machine.specs.NamedLaws.{all-with}
use Rattle.bk_machine.specs.Sound.{AreIdle, IsIdle}
use Rattle.bk_machine.specs.World.{Database, World, database_named, log_of}
use Rattle.bk_machine.proofs.ActsSays.{gone_on-is}

none-runs : (dbs : List Database) → AllByRecursion (λ (db : Database). db.job ≡ None) (map (with_job None) dbs)
none-runs [] = tt
none-runs (db ∷ dbs) = (refl, none-runs dbs)

pub dropped-jobless : (w : World) → HasNoJobs (done w jobs_dropped)
unfolding done
dropped-jobless w = none-runs w.databases

says-jobless : (w : World) (db : Database) (said : List Said) (ts : List Open) → HasNoJobs w → HasNoJobs (says w db said ts)
unfolding says
says-jobless w db said ts none =
    let change : Database → Database = gone_on (model (log_of w.history db)) said ts in
    all-with (λ (o : Database). o.job ≡ None) (λ (o : Database). o.job ≡ None) w.databases db.name change none
    (λ o is. ap (λ (d : Database). d.job) (gone_on-is (model (log_of w.history db)) said ts o).2 ∙ is) (λ o is. is)

found-jobless : (w : World) (o : Option Database) (said : List Said) (ts : List Open) → HasNoJobs w → HasNoJobs (where_found w o (λ db. says w db said ts))
found-jobless w None said ts none = none
found-jobless w (Some db) said ts none = says-jobless w db said ts none

logged-jobless : (w : World) (name : List ℕ) (said : List Said) (ts : List Open) → HasNoJobs w → HasNoJobs (done w (logged name said ts))
unfolding done
logged-jobless w name said ts none = found-jobless w (database_named w.databases name) said ts none

closes-jobless : (w : World) (act : Act) → Closes w act → HasNoJobs w → HasNoJobs (done w act)
closes-jobless w act (inl is) none = subst (λ (a : Act). HasNoJobs (done w a)) (sym is) (dropped-jobless w)
closes-jobless w act (inr (held, first, is)) none = subst (λ (a : Act). HasNoJobs (done w a)) (sym is) (logged-jobless w _ _ _ none)

pub front-jobless : (w : World) (acts : List Act) → IsClosingFront w acts → HasNoJobs w → HasNoJobs (done_all w acts)
front-jobless w [] front none = none
front-jobless w (act ∷ acts) (closes, front) none = front-jobless (done w act) acts front (closes-jobless w act closes none)

-- where nothing is open either, the run is closed
pub jobless-idle : (w : World) → count_open w.databases ≡ 0 → HasNoJobs w → AreIdle w
jobless-idle w closed none =
    all_both (λ (db : Database). db.transactions ≡ []) (λ (db : Database). db.job ≡ None) IsIdle (λ db ended idle. record { job = idle; transactions = ended }) w.databases (none-open w.databases closed) none
