-- The backups that run are dropped, one behind the other.
use Rattle.std.proofs.Common.{◌≡◌, ◌<◌, ◌+◌, ◌∙◌, ℕ, zero, suc, Bool, true, false, List, [], ◌∷◌, ◌++◌, drop, get_or, length, map, set, take, Option, None, Some, refl, sym, ap, add-one, arith}
use Rattle.std.specs.Prelude.{is_some, ◌||◌}
use Rattle.std.specs.List.{AllByRecursion, list_any}
use Rattle.bk_hosted.specs.Hosted.{Hosted, is_up, running}
use Rattle.bk_machine.specs.declared.job.Job.{Job}
use Rattle.bk_hosting.specs.declared.hosting.State.{State}
use Rattle.bk_hosting.specs.Hosting.{known_by, points_by, state_of}
use Rattle.bk_hosting.specs.Jobs.{has_job, without_job}

-- so many of some databases have none
abbrev pub partly : List State → ℕ → List State
partly xs i = map without_job (take i xs) ++ drop i xs

pub item-is : (xs : List State) (i : ℕ) (d : State) → i < length xs → get_or (partly xs i) i d ≡ get_or xs i d
item-is [] i d lt = absurd (omega (arith, lt))
item-is (x ∷ xs) zero d lt = refl
item-is (x ∷ xs) (suc i) d lt = let less : i < length xs = omega (arith, lt) in item-is xs i d less

set-suc : (xs : List State) (i : ℕ) (d : State) → i < length xs → set (partly xs i) i (without_job (get_or xs i d)) ≡ partly xs (suc i)
set-suc [] i d lt = absurd (omega (arith, lt))
set-suc (x ∷ xs) zero d lt = refl
set-suc (x ∷ xs) (suc i) d lt = let less : i < length xs = omega (arith, lt) in ap (λ (ys : List State). without_job x ∷ ys) (set-suc xs i d less)

pub set-next : (xs : List State) (i : ℕ) (d : State) → i < length xs → set (partly xs i) i (without_job (get_or xs i d)) ≡ partly xs (i + 1)
set-next xs i d lt = set-suc xs i d lt ∙ ap (partly xs) (sym (add-one i))

-- ---- hosted databases

-- what is kept of one that can be used or not, with this backup
abbrev kept-by : Option Job → Bool → Hosted → State
kept-by job up h = record { points = points_by up h; job = job; transactions = h.transactions; known = known_by up h }

-- what is kept of one of which another backup runs, or none
pub state-running : (job : Option Job) (h : Hosted) → kept-by job (is_up h) h ≡ state_of (running job h)
state-running job h = by (is_up h)
  where
    by : (up : Bool) → kept-by job up h ≡ kept-by job up (running job h)
    by true = refl
    by false = refl

pub dropped-states : (hosted : List Hosted) → map without_job (map state_of hosted) ≡ map state_of (map (running None) hosted)
dropped-states [] = refl
dropped-states (h ∷ hosted) =
    ap (λ (st : State). st ∷ map without_job (map state_of hosted)) (state-running None h) ∙ ap (λ (sts : List State). state_of (running None h) ∷ sts) (dropped-states hosted)

none-one : (o : Option Job) → is_some o ≡ false → o ≡ None
none-one None lacks = refl
none-one (Some job) lacks = absurd cc

-- where no backup runs, none of a database does
pub none-runs : (hosted : List Hosted) → list_any has_job (map state_of hosted) ≡ false → AllByRecursion (λ (h : Hosted). h.job ≡ None) hosted
none-runs [] lacks = tt
none-runs (h ∷ hosted) lacks = by (none-runs hosted) (is_some h.job) refl lacks
  where
    by : (list_any has_job (map state_of hosted) ≡ false → AllByRecursion (λ (g : Hosted). g.job ≡ None) hosted) → (t : Bool) → is_some h.job ≡ t → (t || list_any has_job (map state_of hosted)) ≡ false
        → AllByRecursion (λ (g : Hosted). g.job ≡ None) (h ∷ hosted)
    by later true same lacks = absurd cc
    by later false same lacks = (none-one h.job same, later lacks)

-- then there is nothing to drop
pub none-dropped : (hosted : List Hosted) → AllByRecursion (λ (h : Hosted). h.job ≡ None) hosted → map (running None) hosted ≡ hosted
none-dropped [] none = refl
none-dropped (h ∷ hosted) none =
    ap (λ (o : Option Job). running o h ∷ map (running None) hosted) (sym none.0) ∙ ap (λ (hs : List Hosted). h ∷ hs) (none-dropped hosted none.1)
