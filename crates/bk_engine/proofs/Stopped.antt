-- A world in which the backup of a database stops, to go on behind what is copied meanwhile.
use Rattle.std.proofs.Common.{◌≡◌, ◌≢◌, ◌≤◌, ◌+◌, ◌-◌, ◌∙◌, ℕ, zero, suc, Bool, true, false, cond, List, [], ◌∷◌, length, Option, Some, None, refl, sym, ap, subst, arith}
use Rattle.std.proofs.lemmas.Option.{same_Some}
use Rattle.std.specs.Prelude.{drop}
use Rattle.bk_device.specs.Disk.{Disk}
use Rattle.bk_ids.specs.Name.{lowered, same_name}
use Rattle.bk_kept.specs.Jobs.{IsApart}
use Rattle.bk_machine.specs.Acts.{done, job_set, with_job}
use Rattle.bk_machine.specs.declared.job.Job.{Job}
use Rattle.bk_machine.specs.MayDo.{HoldsOf, MayDo, MayRun}
use Rattle.bk_machine.specs.NamedLaws.{all-with, named-changed, of-named}
use Rattle.bk_machine.specs.Sound.{IsFitJob, IsOther, IsSound, IsWholeDatabase, JobIs, OpenBy}
use Rattle.bk_machine.specs.World.{Database, World, database_named, log_of, with_database}
use Rattle.bk_world.specs.declared.database.Status.TheVariants.{Online}
use Rattle.bk_world.specs.Records.{Counts, Logged}
use Rattle.bk_engine.specs.Copying.{IsCopiedOf}
use Rattle.bk_engine.proofs.Ended.{stopped-apart}

-- ---- lists

fewer : {X : Type 0} (n : ℕ) (xs : List X) → length (drop n xs) ≤ length xs
fewer zero xs = omega arith
fewer (suc n) [] = omega arith
fewer (suc n) (x ∷ xs) = let less = fewer n xs in omega (arith, less)

-- so many are dropped as make the length that is left
pub drop-rest : {X : Type 0} (n : ℕ) (xs : List X) → drop (length xs - length (drop n xs)) xs ≡ drop n xs
drop-rest zero xs = let none : length xs - length xs ≡ 0 = omega arith in ap (λ m. drop m xs) none
drop-rest (suc n) [] = refl
drop-rest (suc n) (x ∷ xs) =
    let less = fewer n xs in
    let same : suc (length xs) - length (drop n xs) ≡ suc (length xs - length (drop n xs)) = omega (arith, less) in
    ap (λ m. drop m (x ∷ xs)) same ∙ drop-rest n xs

twice : (dbs : List Database) (name : List ℕ) (a b : Option Job) → with_database (with_database dbs name (with_job a)) name (with_job b) ≡ with_database dbs name (with_job b)
twice [] name a b = refl
twice (d ∷ dbs) name a b = by (same_name d.name name) refl (twice dbs name a b)
  where
    by : (t : Bool) → same_name d.name name ≡ t → with_database (with_database dbs name (with_job a)) name (with_job b) ≡ with_database dbs name (with_job b)
        → with_database (cond t (with_job a d ∷ dbs) (d ∷ with_database dbs name (with_job a))) name (with_job b) ≡ cond t (with_job b d ∷ dbs) (d ∷ with_database dbs name (with_job b))
    by true own later = ap (λ t. cond t (with_job b (with_job a d) ∷ dbs) (with_job a d ∷ with_database dbs name (with_job b))) own
    by false own later = ap (λ t. cond t (with_job b d ∷ with_database dbs name (with_job a)) (d ∷ with_database (with_database dbs name (with_job a)) name (with_job b))) own ∙ ap (λ (ds : List Database). d ∷ ds) later

counts-end : (rs : List Logged) (m n : ℕ) → Counts m rs n → n ≡ m + length rs
counts-end [] m n is = omega (arith, is)
counts-end (r ∷ rs) m n is = let later = counts-end rs (m + 1) n is.1 in omega (arith, later)

-- ---- the world

module _ (w : World) (name : List ℕ) (db : Database) (found : database_named w.databases name ≡ Some db) where
  -- it goes on as if it hadn't stopped
  pub again-is : (job : Option Job) → done (done w (job_set name None)) (job_set name job) ≡ done w (job_set name job)
  unfolding done
  again-is job = ap (λ (dbs : List Database). record w { databases = dbs }) (twice w.databases name None job)

  pub found-then : database_named (done w (job_set name None)).databases name ≡ Some (with_job None db)
  unfolding done
  found-then = named-changed w.databases name db (with_job None) refl found

  runs-then : (next : Job) → MayRun w db next → MayRun (done w (job_set name None)) (with_job None db) next
  unfolding done log_of
  runs-then next may = record {
    online = may.online;
    fit = may.fit;
    drawn = may.drawn;
    apart = all-with (λ (o : Database). lowered o.name ≢ lowered db.name → IsOther next.set o) (λ (o : Database). lowered o.name ≢ lowered db.name → IsOther next.set o) w.databases name (with_job None) may.apart
        (λ o one apart job has. let wrong : None ≡ Some job = has in absurd cc) (λ o one. one);
    keeps = may.keeps;
  }

  pub run-is : (next : Job) → MayDo w (job_set name (Some next)) → MayRun w db next
  run-is next may = subst (λ (o : Option Database). HoldsOf o (λ (d : Database). MayRun w d next)) found may

  pub may-again : (next : Job) → MayDo w (job_set name (Some next)) → MayDo (done w (job_set name None)) (job_set name (Some next))
  may-again next may = subst (λ (o : Option Database). HoldsOf o (λ (d : Database). MayRun (done w (job_set name None)) d next)) (sym found-then) (runs-then next (run-is next may))

  -- no other one has its set
  pub apart-then : (job : Job) → IsSound w → db.job ≡ Some job → IsApart (done w (job_set name None)) job.set
  unfolding done
  apart-then job sound runs = stopped-apart w.databases name db job sound.whole.different found runs

  -- what was copied of it is
  pub of-then : (disk : Disk) (job : Job) → (of : IsCopiedOf w name disk job) → IsCopiedOf (done w (job_set name None)) name disk job
  unfolding done log_of
  of-then disk job of = record {
    guid = of.guid;
    db = with_job None of.db;
    found = named-changed w.databases name of.db (with_job None) refl of.found;
    count = of.count;
    holds = record { extents = of.holds.extents; order = of.holds.order; read = of.holds.read; parts = of.holds.parts };
  }

  -- its checkpoint was said
  pub late-enough : (job : Job) → IsSound w → db.job ≡ Some job → job.checkpoint ≤ length (log_of w.history db)
  late-enough job sound runs =
      let opened : OpenBy w.history db = of-named (OpenBy w.history) w.databases name db sound.opens found in
      let fit : IsFitJob (log_of w.history db) db.end db.transactions job = subst (JobIs (IsFitJob (log_of w.history db) db.end db.transactions)) runs opened.job in
      let whole : IsWholeDatabase w db = of-named (IsWholeDatabase w) w.databases name db sound.whole.databases found in
      let ends = counts-end (log_of w.history db) 1 db.end whole.log.counts in
      let said = fit.said in
      omega (arith, ends, said)

  module _ (disk : Disk) (job : Job) (of : IsCopiedOf (done w (job_set name None)) name disk job) where
    of-is : of.db ≡ with_job None db
    of-is = same_Some of.db (with_job None db) (sym of.found ∙ found-then)

    pub online-then : db.status ≡ Online → of.db.status ≡ Online
    online-then online = ap (λ (d : Database). d.status) of-is ∙ online

    log-then : length (log_of (done w (job_set name None)).history (with_job None db)) ≡ length (log_of w.history db)
    unfolding done log_of
    log-then = refl

    pub late-then : IsSound w → db.job ≡ Some job → job.checkpoint ≤ length (log_of (done w (job_set name None)).history of.db)
    late-then sound runs =
        let same : length (log_of (done w (job_set name None)).history of.db) ≡ length (log_of w.history db) = ap (λ (d : Database). length (log_of (done w (job_set name None)).history d)) of-is ∙ log-then in
        subst (λ (n : ℕ). job.checkpoint ≤ n) (sym same) (late-enough job sound runs)
