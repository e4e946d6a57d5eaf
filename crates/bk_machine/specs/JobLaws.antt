-- What holds of a backup that runs, if there is one.
use Rattle.std.proofs.Common.{◌≡◌, ◌≢◌, ◌≤◌, inl, inr, ℕ, ◌+◌, length, Option, None, Some, List, [], ◌∷◌, sym, ◌∙◌, ap, subst, arith}
use Rattle.std.specs.List.{AllByRecursion}
use Rattle.bk_world.specs.Pending.{Pending, pending}
use Rattle.bk_world.specs.Records.{Logged}
use Rattle.bk_ids.specs.declared.guid.Guid.{Guid}
use Rattle.bk_ids.specs.Name.{lowered}
use Rattle.bk_lemmas.specs.Lists.{all_mapped}
use Rattle.bk_machine.specs.Acts.{drawn}
use Rattle.bk_machine.specs.BeginLaws.{of-begin}
use Rattle.bk_machine.specs.Checks.{last_number}
use Rattle.bk_machine.specs.MayDo.{IsOpenOrNew}
use Rattle.bk_machine.specs.NamedLaws.{differs-named}
use Rattle.bk_machine.specs.Sound.{AreDifferent, Differ, IsFitJob, IsNotToCome, IsOther, IsWholeDatabase, JobIs, LeavesStamp}
use Rattle.bk_world.specs.declared.transaction.Open.{Open}
use Rattle.bk_machine.specs.declared.job.Job.{Job}
use Rattle.bk_machine.specs.World.{World, Database, database_named}

-- what holds without one
pub job-any : {P : Type 0} (o : Option Job) → P → JobIs (λ (job : Job). P) o
job-any None holds = tt
job-any (Some job) holds = holds

pub job-none : (P : Job → Type 0) (o : Option Job) → o ≡ None → JobIs P o
job-none P o none = subst (JobIs P) (sym none) tt

pub job-on : (P Q : Job → Type 0) → ((job : Job) → P job → Q job) → (o : Option Job) → JobIs P o → JobIs Q o
job-on P Q leads None is = tt
job-on P Q leads (Some job) is = leads job is

pub without-one : {P : Type 0} (o : Option Job) (job : Job) → o ≡ None → o ≡ Some job → P
without-one o job none some = let wrong : None ≡ Some job = sym none ∙ some in absurd cc

-- a set that is drawn now is that of none
pub new-other : (w : World) (db : Database) → IsWholeDatabase w db → IsOther (drawn w w.counter) db
new-other w db is job has same =
    let before : IsNotToCome w job.set = subst (JobIs (λ (job : Job). IsNotToCome w job.set)) has is.job in
    let low : w.counter ≡ job.set.low = ap (λ (g : Guid). g.low) same in
    omega (arith, before (ap (λ (g : Guid). g.high) (sym same)), low)

-- that of one that runs is that of no other database's
pub others-apart : (dbs : List Database) (db : Database) (job : Job) → AreDifferent dbs → database_named dbs db.name ≡ Some db → db.job ≡ Some job
    → AllByRecursion (λ (o : Database). lowered o.name ≢ lowered db.name → IsOther job.set o) dbs
others-apart dbs db job different named runs =
    all_mapped (λ (o : Database). lowered o.name ≢ lowered db.name → Differ db o) (λ (o : Database). lowered o.name ≢ lowered db.name → IsOther job.set o)
    (λ o differs other. (differs other).sets job runs) dbs (differs-named dbs db.name db different named)

-- numbers are left for any, where the same is pending
pub leaves-same : (rs after : List Logged) (end : ℕ) (ts : List Open) (o : Option Job) → pending after ≡ pending rs → end + (length (pending rs) + (length ts + 2)) ≤ last_number → JobIs (λ (job : Job). LeavesStamp after end ts) o
leaves-same rs after end ts o same left = job-any o (subst (λ (ws : List Pending). end + (length ws + (length ts + 2)) ≤ last_number) (sym same) left)

-- a job still fits behind what a database says, where numbers are left
pub fit-said : (rs after : List Logged) (db : Database) (end : ℕ) (ts : List Open) (o : Option Job) → JobIs (IsFitJob rs db.end db.transactions) o → AllByRecursion (IsOpenOrNew db) ts → db.end ≤ end
    → JobIs (λ (job : Job). LeavesStamp after end ts) o → JobIs (IsFitJob after end ts) o
fit-said rs after db end ts None fit each le leaves = tt
fit-said rs after db end ts (Some job) fit each le leaves = record { numbers = leaves; some = fit.some; first = fit.first; said = omega (arith, fit.said, le); begins = begins ts each }
  where
    begin : (t : Open) → IsOpenOrNew db t → job.first ≤ t.begin
    begin t (inl there) = of-begin db.transactions job.first t.begin fit.begins there
    begin t (inr new) = omega (arith, new, fit.said, fit.first)

    begins : (us : List Open) → AllByRecursion (IsOpenOrNew db) us → AllByRecursion (λ (t : Open). job.first ≤ t.begin) us
    begins [] all = tt
    begins (t ∷ us) all = (begin t all.0, begins us all.1)
