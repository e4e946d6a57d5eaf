-- Where a statement is cut, the ends of databases lie within those before and behind it.
use Rattle.std.proofs.Common.{◌≡◌, ◌≤◌, ℕ, zero, suc, ◌+◌, Bool, true, false, cond, List, [], ◌∷◌, length, take, Option, None, Some, refl, sym, ◌∙◌, ap, arith, map}
use Rattle.std.specs.List.{AllByRecursion, AllZip}
use Rattle.std.proofs.Math.Nat.{le-max_left, le-max_right}
use Rattle.bk_ids.specs.Name.{same_name}
use Rattle.bk_ids.specs.declared.record.RecoveryModel.{RecoveryModel}
use Rattle.bk_lemmas.specs.Lists.{all_mapped}
use Rattle.bk_world.specs.Records.{Said}
use Rattle.bk_world.specs.Telling.{model}
use Rattle.bk_world.specs.declared.database.Status.TheVariants.{Online, Down}
use Rattle.bk_world.specs.declared.header.Header.{Header}
use Rattle.bk_machine.specs.Acts.{Act, turned, seated, created, dropped, logged, medium_made, set_drawn, noted, set_sealed, based, replaced, restored, recovered, done, done_all, gone_on, says, taken_over, where_found, readied, job_set, jobs_dropped, with_job}
use Rattle.bk_machine.specs.Crash.{end_in, front_of, greatest_end}
use Rattle.bk_machine.specs.Sound.{AreDifferent}
use Rattle.bk_world.specs.declared.transaction.Open.{Open}
use Rattle.bk_machine.specs.World.{Database, World, database_named, log_of, with_database}
use Rattle.bk_machine.proofs.ActsSays.{gone_on-is}
use Rattle.bk_machine.specs.NamedLaws.{all-placed, all-with, named-each}

-- ---- ends that rise

pub record Rose (old new : Database) : Type 0 where
  pub name : new.name ≡ old.name
  pub end : old.end ≤ new.end

rose-itself : (dbs : List Database) → AllZip Rose dbs dbs
rose-itself [] = tt
rose-itself (db ∷ dbs) = (record { name = refl; end = omega arith }, rose-itself dbs)

rose-on : (xs ys zs : List Database) → AllZip Rose xs ys → AllZip Rose ys zs → AllZip Rose xs zs
rose-on [] [] [] first second = tt
rose-on [] [] (z ∷ zs) first second = absurd second
rose-on [] (y ∷ ys) zs first second = absurd first
rose-on (x ∷ xs) [] zs first second = absurd first
rose-on (x ∷ xs) (y ∷ ys) [] first second = absurd second
rose-on (x ∷ xs) (y ∷ ys) (z ∷ zs) first second = (record { name = second.0.name ∙ first.0.name; end = omega (arith, first.0.end, second.0.end) }, rose-on xs ys zs first.1 second.1)

-- the database of a name, changed in two ways
rose-with : (dbs : List Database) (name : List ℕ) (f g : Database → Database) → ((d : Database) → Rose (f d) (g d)) → AllZip Rose (with_database dbs name f) (with_database dbs name g)
rose-with [] name f g one = tt
rose-with (d ∷ ds) name f g one = by (same_name d.name name) (rose-with ds name f g one)
  where
    by : (t : Bool) → AllZip Rose (with_database ds name f) (with_database ds name g) → AllZip Rose (cond t (f d ∷ ds) (d ∷ with_database ds name f)) (cond t (g d ∷ ds) (d ∷ with_database ds name g))
    by true later = (one d, rose-itself ds)
    by false later = (record { name = refl; end = omega arith }, later)

-- or changed and not
rose-changed : (dbs : List Database) (name : List ℕ) (g : Database → Database) → ((d : Database) → Rose d (g d)) → AllZip Rose dbs (with_database dbs name g)
rose-changed [] name g one = tt
rose-changed (d ∷ ds) name g one = by (same_name d.name name) (rose-changed ds name g one)
  where
    by : (t : Bool) → AllZip Rose ds (with_database ds name g) → AllZip Rose (d ∷ ds) (cond t (g d ∷ ds) (d ∷ with_database ds name g))
    by true later = (one d, rose-itself ds)
    by false later = (record { name = refl; end = omega arith }, later)

rose-dropped : (ds : List Database) → AllZip Rose ds (map (with_job None) ds)
rose-dropped [] = tt
rose-dropped (d ∷ ds) = (record { name = refl; end = omega arith }, rose-dropped ds)

-- ---- acts by which ends rise

abbrev pub IsSteady : Act → Type 0
IsSteady (turned name) = Unit {0}
IsSteady (seated session) = Unit {0}
IsSteady (readied starts) = Unit {0}
IsSteady (created c) = ⊥
IsSteady (dropped name) = ⊥
IsSteady (logged name said transactions) = Unit {0}
IsSteady (medium_made path) = Unit {0}
IsSteady set_drawn = Unit {0}
IsSteady (set_sealed path header) = Unit {0}
IsSteady (noted row) = Unit {0}
IsSteady (based name header) = Unit {0}
IsSteady (job_set name job) = Unit {0}
IsSteady jobs_dropped = Unit {0}
IsSteady (replaced name header) = ⊥
IsSteady (restored name base redo) = ⊥
IsSteady (recovered name r) = ⊥

said-end : (m : RecoveryModel) (said : List Said) (transactions : List Open) (db : Database) → ((gone_on m said transactions db).name ≡ db.name) × ((gone_on m said transactions db).end ≡ db.end + length said)
said-end m said transactions db = let points = gone_on-is m said transactions db in (ap (λ (d : Database). d.name) points.2, ap (λ (d : Database). d.end) points.2)

shorter : {X : Type 0} (n : ℕ) (xs : List X) → length (take n xs) ≤ length xs
shorter zero xs = omega arith
shorter (suc n) [] = omega arith
shorter (suc n) (x ∷ xs) = let rest : length (take n xs) ≤ length xs = shorter n xs in omega (arith, rest)

rose-done : (w : World) (act : Act) → IsSteady act → AllZip Rose w.databases (done w act).databases
unfolding done says
rose-done w (turned name) steady = rose-itself w.databases
rose-done w (seated session) steady = rose-itself w.databases
rose-done w (readied starts) steady = rose-itself w.databases
rose-done w (created c) steady = absurd steady
rose-done w (dropped name) steady = absurd steady
rose-done w (logged name said transactions) steady = by (database_named w.databases name)
  where
    by : (o : Option Database) → AllZip Rose w.databases (where_found w o (λ db. says w db said transactions)).databases
    by None = rose-itself w.databases
    by (Some db) =
        rose-changed w.databases db.name (gone_on (model (log_of w.history db)) said transactions)
        (λ d. let one = said-end (model (log_of w.history db)) said transactions d in record { name = one.0; end = omega (arith, one.1) })
rose-done w (medium_made path) steady = rose-itself w.databases
rose-done w set_drawn steady = rose-itself w.databases
rose-done w (set_sealed path header) steady = rose-itself w.databases
rose-done w (noted row) steady = rose-itself w.databases
rose-done w (based name header) steady = rose-changed w.databases name _ (λ d. record { name = refl; end = omega arith })
rose-done w (job_set name job) steady = rose-changed w.databases name _ (λ d. record { name = refl; end = omega arith })
rose-done w jobs_dropped steady = rose-dropped w.databases
rose-done w (replaced name header) steady = absurd steady
rose-done w (restored name base redo) steady = absurd steady
rose-done w (recovered name r) steady = absurd steady

rose-all : (w : World) (acts : List Act) → AllByRecursion IsSteady acts → AllZip Rose w.databases (done_all w acts).databases
rose-all w [] steady = rose-itself w.databases
rose-all w (act ∷ acts) steady = rose-on w.databases (done w act).databases (done_all (done w act) acts).databases (rose-done w act steady.0) (rose-all (done w act) acts steady.1)

-- a front of what is said ends no higher
rose-front : (w : World) (name : List ℕ) (said : List Said) (transactions : List Open) (n : ℕ) → AllZip Rose (done w (logged name (take n said) transactions)).databases (done w (logged name said transactions)).databases
unfolding done says
rose-front w name said transactions n = by (database_named w.databases name)
  where
    by : (o : Option Database) → AllZip Rose (where_found w o (λ db. says w db (take n said) transactions)).databases (where_found w o (λ db. says w db said transactions)).databases
    by None = rose-itself w.databases
    by (Some db) =
        rose-with w.databases db.name (gone_on (model (log_of w.history db)) (take n said) transactions) (gone_on (model (log_of w.history db)) said transactions)
        (λ d.
        let one = said-end (model (log_of w.history db)) (take n said) transactions d in
        let two = said-end (model (log_of w.history db)) said transactions d in
        let le : length (take n said) ≤ length said = shorter n said in
        record { name = two.0 ∙ sym one.0; end = omega (arith, one.1, two.1, le) })

-- so where steady acts are cut, ends rise from there to behind them
pub rose-cut : (w : World) (acts : List Act) (n : ℕ) → AllByRecursion IsSteady acts → AllZip Rose (done_all w (front_of n acts)).databases (done_all w acts).databases
rose-cut w acts zero steady = rose-all w acts steady
rose-cut w [] (suc n) steady = rose-itself w.databases
rose-cut w (logged name said transactions ∷ acts) (suc n) steady =
    rose-on (done w (logged name (take (suc n) said) transactions)).databases (done w (logged name said transactions)).databases (done_all (done w (logged name said transactions)) acts).databases
    (rose-front w name said transactions (suc n)) (rose-all (done w (logged name said transactions)) acts steady.1)
rose-cut w (turned name ∷ acts) (suc n) steady = rose-all w (turned name ∷ acts) steady
rose-cut w (seated session ∷ acts) (suc n) steady = rose-all w (seated session ∷ acts) steady
rose-cut w (readied starts ∷ acts) (suc n) steady = rose-all w (readied starts ∷ acts) steady
rose-cut w (created c ∷ acts) (suc n) steady = absurd steady.0
rose-cut w (dropped name ∷ acts) (suc n) steady = absurd steady.0
rose-cut w (medium_made path ∷ acts) (suc n) steady = rose-all w (medium_made path ∷ acts) steady
rose-cut w (set_drawn ∷ acts) (suc n) steady = rose-all w (set_drawn ∷ acts) steady
rose-cut w (set_sealed path header ∷ acts) (suc n) steady = rose-all w (set_sealed path header ∷ acts) steady
rose-cut w (noted row ∷ acts) (suc n) steady = rose-all w (noted row ∷ acts) steady
rose-cut w (based name header ∷ acts) (suc n) steady = rose-all w (based name header ∷ acts) steady
rose-cut w (job_set name job ∷ acts) (suc n) steady = rose-all w (job_set name job ∷ acts) steady
rose-cut w (jobs_dropped ∷ acts) (suc n) steady = rose-all w (jobs_dropped ∷ acts) steady
rose-cut w (replaced name header ∷ acts) (suc n) steady = absurd steady.0
rose-cut w (restored name base redo ∷ acts) (suc n) steady = absurd steady.0
rose-cut w (recovered name r ∷ acts) (suc n) steady = absurd steady.0

-- ---- within the ends

module _ (before whole : World) where
  -- no database that is online ends beyond its ends before and behind the statement
  abbrev pub IsWithin : Database → Type 0
  IsWithin db = db.status ≡ Online → db.end ≤ greatest_end before whole db

  pub within-before : AreDifferent before.databases → AllByRecursion IsWithin before.databases
  within-before different =
      all_mapped (λ (db : Database). database_named before.databases db.name ≡ Some db) IsWithin
      (λ db is up.
      let own : end_in (database_named before.databases db.name) ≡ db.end = ap end_in is in
      let most : end_in (database_named before.databases db.name) ≤ greatest_end before whole db = le-max_left _ _ in
      omega (arith, own, most))
      before.databases (named-each before.databases different)

  -- of databases that rise to those behind it
  pub within-rose : (dbs : List Database) → AllZip Rose dbs whole.databases → AreDifferent whole.databases → AllByRecursion IsWithin dbs
  within-rose dbs rose different = by dbs whole.databases rose (named-each whole.databases different)
    where
      by : (xs ys : List Database) → AllZip Rose xs ys → AllByRecursion (λ (db : Database). database_named whole.databases db.name ≡ Some db) ys → AllByRecursion IsWithin xs
      by [] [] each all = tt
      by [] (y ∷ ys) each all = absurd each
      by (x ∷ xs) [] each all = absurd each
      by (x ∷ xs) (y ∷ ys) each all = (
        λ up.
            let found : end_in (database_named whole.databases x.name) ≡ y.end = ap end_in (ap (database_named whole.databases) (sym each.0.name) ∙ all.0) in
            let most : end_in (database_named whole.databases x.name) ≤ greatest_end before whole x = le-max_right _ _ in
            let rose : x.end ≤ y.end = each.0.end in
            omega (arith, found, most, rose),
        by xs ys each.1 all.1,
      )

  pub within-whole : AreDifferent whole.databases → AllByRecursion IsWithin whole.databases
  within-whole different = within-rose whole.databases (rose-itself whole.databases) different

  -- where a set takes a database's place, and its files are restored
  pub within-replaced : (w : World) (name : List ℕ) (header : Header) → AllByRecursion IsWithin w.databases → AllByRecursion IsWithin (done w (replaced name header)).databases
  unfolding done
  within-replaced w name header all = all-placed IsWithin IsWithin w.databases (taken_over name header) all (λ up. let wrong : Down ≡ Online = up in absurd (cc)) (λ db is. is)

  pub within-restored : (w : World) (name : List ℕ) (base : _) (redo : ℕ) → AllByRecursion IsWithin w.databases → AllByRecursion IsWithin (done w (restored name base redo)).databases
  unfolding done
  within-restored w name base redo all = all-with IsWithin IsWithin w.databases name _ all (λ db is. is) (λ db is. is)
