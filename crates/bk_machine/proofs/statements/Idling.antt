-- Where nothing is open, nothing is open behind acts that open nothing.
use Rattle.std.proofs.Common.{◌≡◌, ℕ, List, [], ◌∷◌, Option, Some, None, refl, ◌∙◌}
use Rattle.std.specs.List.{AllByRecursion}
use Rattle.bk_ids.specs.declared.record.RecoveryModel.{RecoveryModel}
use Rattle.bk_lemmas.specs.Lists.{all_joined}
use Rattle.bk_world.specs.Telling.{model}
use Rattle.bk_world.specs.Records.{Deed, Logged, numbered, database_made, table_made, begun, written, committed, rolled_back, undone, checkpointed, stamped, model_set, loaded, recovered as recovery}
use Rattle.bk_machine.proofs.ActsJobs.{all-dropped}
use Rattle.bk_machine.specs.NamedLaws.{all-placed, all-with, all-without}
use Rattle.bk_machine.specs.Acts.{Act, turned, seated, created, dropped, logged, medium_made, set_drawn, noted, set_sealed, based, replaced, restored, recovered, done, done_all, pointed, pointed_by, says, gone_on, gone_online, goes_online, new_database, taken_over, where_found, readied, job_set, jobs_dropped}
use Rattle.bk_machine.specs.MayDo.{LeavesIdle}
use Rattle.bk_machine.specs.Sound.{AreIdle, IsIdle}
use Rattle.bk_machine.specs.World.{World, Database, log_of, log_to, database_named}

-- a record moves no job
same-job : (model : RecoveryModel) (db : Database) (n : ℕ) (deed : Deed) → (pointed_by model db n deed).job ≡ db.job
same-job model db n (database_made time family branch) = refl
same-job model db n (table_made time spec) = refl
same-job model db n begun = refl
same-job model db n (written at before c) = refl
same-job model db n (committed time mark) = refl
same-job model db n rolled_back = refl
same-job model db n (undone at c k) = refl
same-job model db n (checkpointed time) = refl
same-job model db n (stamped time set) = refl
same-job model db n (model_set time new) = refl
same-job model db n (loaded load) = refl
same-job model db n (recovery branch) = refl

job-stays : (model : RecoveryModel) (db : Database) (rs : List Logged) → (pointed model db rs).job ≡ db.job
job-stays model db [] = refl
job-stays model db (r ∷ rs) = job-stays model (pointed_by model db r.lsn r.deed) rs ∙ same-job model db r.lsn r.deed

pub idle-done : (w : World) (act : Act) → AreIdle w → LeavesIdle act → AreIdle (done w act)
unfolding done says goes_online new_database
idle-done w (turned name) idle none = idle
idle-done w (seated session) idle none = idle
idle-done w (readied starts) idle none = idle
idle-done w (created c) idle none = all_joined IsIdle w.databases (new_database c ∷ []) idle (record { job = refl; transactions = refl }, tt)
idle-done w (dropped name) idle none = all-without IsIdle w.databases name idle
idle-done w (logged name said transactions) idle none = by (database_named w.databases name)
  where
    by : (found : Option Database) → AreIdle (where_found w found (λ db. says w db said transactions))
    by None = idle
    by (Some db) =
        all-with IsIdle IsIdle w.databases db.name (gone_on (model (log_of w.history db)) said transactions) idle (λ d was. record { job = job-stays (model (log_of w.history db)) d (numbered d.end said) ∙ was.job; transactions = none }) (λ d was. was)
idle-done w (medium_made path) idle none = idle
idle-done w set_drawn idle none = idle
idle-done w (set_sealed path header) idle none = idle
idle-done w (noted row) idle none = idle
idle-done w (based name header) idle none = all-with IsIdle IsIdle w.databases name _ idle (λ d was. record { job = was.job; transactions = was.transactions }) (λ d was. was)
idle-done w (job_set name job) idle none = all-with IsIdle IsIdle w.databases name _ idle (λ d was. record { job = none; transactions = was.transactions }) (λ d was. was)
idle-done w jobs_dropped idle none = all-dropped IsIdle IsIdle (λ d was. record { job = refl; transactions = was.transactions }) w.databases idle
idle-done w (replaced name header) idle none = all-placed IsIdle IsIdle w.databases (taken_over name header) idle (record { job = refl; transactions = refl }) (λ d was. was)
idle-done w (restored name base redo) idle none = all-with IsIdle IsIdle w.databases name _ idle (λ d was. record { job = was.job; transactions = was.transactions }) (λ d was. was)
idle-done w (recovered name r) idle none = by (database_named w.databases name)
  where
    by : (found : Option Database) → AreIdle (where_found w found (λ db. goes_online w db r))
    by None = idle
    by (Some db) = all-with IsIdle IsIdle w.databases db.name (gone_online (model (log_to w.history db r.at)) r) idle (λ d was. record { job = was.job; transactions = was.transactions }) (λ d was. was)

pub idle-done-all : (w : World) (acts : List Act) → AreIdle w → AllByRecursion LeavesIdle acts → AreIdle (done_all w acts)
idle-done-all w [] idle none = idle
idle-done-all w (act ∷ acts) idle none = idle-done-all (done w act) acts (idle-done w act idle none.0) none.1
