-- The current database and the backup of it that runs.
use Rattle.std.proofs.Common.{◌≡◌, ◌≢◌, ℕ, List, Option, None, Some, Ok, refl, sym, ◌∙◌, ap, subst}
use Rattle.std.specs.Prelude.{option_and_then}
use Rattle.bk_machine.specs.CheckLaws.{passed, was-found}
use Rattle.bk_machine.specs.Checks.{or_refuse}
use Rattle.bk_machine.specs.FindingLaws.{current-found}
use Rattle.bk_machine.specs.NamedLaws.{of-named}
use Rattle.bk_machine.specs.Sound.{IsFitJob, IsSound, JobIs, OpenBy}
use Rattle.bk_machine.specs.World.{World, Database, current_database, database_named, log_of}
use Rattle.bk_machine.specs.Writes.{current_job}
use Rattle.bk_machine.specs.declared.job.Job.{Job}
use Rattle.bk_machine.specs.statements.Job.{Running, check_job}
use Rattle.bk_world.specs.declared.database.Status.{Status}
use Rattle.bk_world.specs.declared.database.Status.TheVariants.{Online, Standby, Down}
use Rattle.bk_world.specs.declared.rule.Rule.TheVariants.{NoJob, NoSuchDatabase}

-- the current database, in which the backup runs
pub record IsRunning (w : World) (r : Running) : Type 0 where
  pub is : current_database w ≡ Some r.database
  pub runs : r.database.job ≡ Some r.job
  pub named : database_named w.databases r.database.name ≡ Some r.database
  pub current : current_job w ≡ Some r.job

pub was-running : (w : World) (r : Running) → check_job w ≡ Ok r → IsRunning w r
unfolding check_job
was-running w r e =
    let one = passed (or_refuse (current_database w) NoSuchDatabase) _ r e in
    let two = passed (or_refuse one.found.job NoJob) _ r one.then in
    let last = two.then in
    let its : Running = record { database = one.found; job = two.found } in
    let same : its ≡ r = cc in
    let is : current_database w ≡ Some one.found = was-found (current_database w) NoSuchDatabase one.found one.is in
    let runs : one.found.job ≡ Some two.found = was-found one.found.job NoJob two.found two.is in
    subst (IsRunning w) same (record { is = is; runs = runs; named = current-found w one.found is; current = ap (option_and_then (λ (db : Database). db.job)) is ∙ runs })

-- none runs in a database that isn't online
pub runs-online : (w : World) (db : Database) (job : Job) → IsSound w → database_named w.databases db.name ≡ Some db → db.job ≡ Some job → db.status ≡ Online
runs-online w db job sound named runs = by db.status refl
  where
    opens : OpenBy w.history db
    opens = of-named (OpenBy w.history) w.databases db.name db sound.opens named

    idle : db.status ≢ Online → db.status ≡ Online
    idle off = let none : db.job ≡ None = (opens.offline off).job in let wrong : None ≡ Some job = sym none ∙ runs in absurd cc

    by : (s : Status) → db.status ≡ s → db.status ≡ Online
    by Online is = is
    by (Standby file) is = idle (λ up. let wrong : Standby file ≡ Online = sym is ∙ up in absurd cc)
    by Down is = idle (λ up. let wrong : Down ≡ Online = sym is ∙ up in absurd cc)

-- it fits its database
pub runs-fit : (w : World) (db : Database) (job : Job) → IsSound w → database_named w.databases db.name ≡ Some db → db.job ≡ Some job → IsFitJob (log_of w.history db) db.end db.transactions job
runs-fit w db job sound named runs =
    let opens : OpenBy w.history db = of-named (OpenBy w.history) w.databases db.name db sound.opens named in
    subst (JobIs (IsFitJob (log_of w.history db) db.end db.transactions)) runs opens.job
