-- Databases that were settled in part settle to the same.
use Rattle.std.proofs.Common.{◌≡◌, ◌≤◌, ℕ, zero, suc, ◌+◌, ◌-◌, Bool, true, false, List, [], ◌∷◌, ◌++◌, drop, length, map, None, reverse, take, refl, sym, ap, subst, ◌∙◌, append_assoc, arith}
use Rattle.std.proofs.lemmas.List.{append-nil, take-append-drop, take-map, take_all}
use Rattle.std.specs.List.{AllByRecursion, AllZip}
use Rattle.bk_hosted.specs.Fronts.{settled_by, settling}
use Rattle.bk_hosted.specs.Hosted.{Hosted, is_up, running}
use Rattle.bk_hosting.specs.Loading.{IsUndoing}
use Rattle.bk_world.specs.Cut.{end_behind, settled}
use Rattle.bk_world.specs.Pending.{Pending, PendingRise, pending}
use Rattle.bk_world.specs.Records.{Logged, Said, more, numbered}
use Rattle.bk_world.specs.Says.{undoing}
use Rattle.bk_world.specs.AgainLaws.{rise-one, undone-one}
use Rattle.bk_world.specs.SettledLaws.{settled-once}
use Rattle.bk_engine.specs.Loading.{PendsInOrder}

-- ---- fronts of lists

take-past : (k : ℕ) (xs ys : List Logged) → length xs ≤ k → take k (xs ++ ys) ≡ xs ++ take (k - length xs) ys
take-past k [] ys le = ap (λ (n : ℕ). take n ys) (let same : k ≡ k - 0 = omega arith in same)
take-past zero (x ∷ xs) ys le = absurd (omega (arith, le))
take-past (suc k) (x ∷ xs) ys le =
    let same : k - length xs ≡ suc k - length (x ∷ xs) = omega arith in
    ap (λ (zs : List Logged). x ∷ zs) (take-past k xs ys (omega (arith, le))) ∙ ap (λ (n : ℕ). x ∷ (xs ++ take n ys)) same

take-numbered : (k n : ℕ) (said : List Said) → take k (numbered n said) ≡ numbered n (take k said)
take-numbered zero n said = refl
take-numbered (suc k) n [] = refl
take-numbered (suc k) n (s ∷ said) = ap (λ (rs : List Logged). (record { lsn = n; begin = s.begin; deed = s.deed }) ∷ rs) (take-numbered k (n + 1) said)

take-undoing : (k : ℕ) (ws : List Pending) → take k (undoing ws) ≡ undoing (take k ws)
take-undoing k ws = take-map _ k ws

-- ---- logs

-- a front of a settled log that has all of the log undoes some of what is pending
front-undoes : (rs : List Logged) (k : ℕ) → length rs ≤ k → take k (settled rs) ≡ more rs (end_behind rs) (undoing (take (k - length rs) (reverse (pending rs))))
unfolding settled
front-undoes rs k enough =
    let n : ℕ = k - length rs in
    let ws : List Pending = reverse (pending rs) in
    take-past k rs (numbered (end_behind rs) (undoing ws)) enough ∙ ap (λ (xs : List Logged). rs ++ xs) (take-numbered n (end_behind rs) (undoing ws) ∙ ap (numbered (end_behind rs)) (take-undoing n ws))

-- and settles to the same
pub settled-front : (rs : List Logged) (k : ℕ) → PendingRise (pending rs) → length rs ≤ k → settled (take k (settled rs)) ≡ settled rs
settled-front rs k rise enough =
    let n : ℕ = k - length rs in
    let ws : List Pending = reverse (pending rs) in
    ap settled (front-undoes rs k enough) ∙ settled-once rs (take n ws) (drop n ws) rise (sym (take-append-drop n ws))

-- where some of what is pending is undone, the last write first, the rest comes in order still
rise-undone : (rs : List Logged) (n : ℕ) (vs us : List Pending) → PendingRise (pending rs) → reverse (pending rs) ≡ vs ++ us → PendingRise (pending (more rs n (undoing vs)))
rise-undone rs n [] us rise is = subst (λ (xs : List Logged). PendingRise (pending xs)) (sym (append-nil rs)) rise
rise-undone rs n (v ∷ vs) us rise is =
    let one : List Logged = more rs n (undoing (v ∷ [])) in
    let same : more one (n + 1) (undoing vs) ≡ more rs n (undoing (v ∷ vs)) = append_assoc rs (numbered n (undoing (v ∷ []))) (numbered (n + 1) (undoing vs)) in
    subst (λ (xs : List Logged). PendingRise (pending xs)) same (rise-undone one (n + 1) vs us (rise-one rs n (vs ++ us) v rise is) (undone-one rs n (vs ++ us) v rise is))

rise-front : (rs : List Logged) (k : ℕ) → PendingRise (pending rs) → length rs ≤ k → PendingRise (pending (take k (settled rs)))
rise-front rs k rise enough =
    let n : ℕ = k - length rs in
    let ws : List Pending = reverse (pending rs) in
    subst (λ (xs : List Logged). PendingRise (pending xs)) (sym (front-undoes rs k enough)) (rise-undone rs (end_behind rs) (take n ws) (drop n ws) rise (sym (take-append-drop n ws)))

-- ---- databases

pub undoing-settles : (h front : Hosted) → PendsInOrder h → IsUndoing h front → settling front ≡ settling h
undoing-settles h front rise is = ap settling is.same ∙ by (is_up h) refl
  where
    by : (up : Bool) → is_up h ≡ up → record h { records = settled_by up (take is.k (settled_by up h.records)); job = None; transactions = [] } ≡ record h { records = settled_by up h.records; job = None; transactions = [] }
    by true up = ap (λ (rs : List Logged). record h { records = rs; job = None; transactions = [] }) (settled-front h.records is.k (rise up) is.enough)
    by false up = ap (λ (rs : List Logged). record h { records = rs; job = None; transactions = [] }) (take_all is.k h.records is.enough)

pub all-settle : (hosted fronts : List Hosted) → AllByRecursion PendsInOrder hosted → AllZip IsUndoing hosted fronts → map settling fronts ≡ map settling hosted
all-settle [] [] rise is = refl
all-settle [] (front ∷ fronts) rise is = absurd is
all-settle (h ∷ hosted) [] rise is = absurd is
all-settle (h ∷ hosted) (front ∷ fronts) rise is =
    ap (λ (x : Hosted). x ∷ map settling fronts) (undoing-settles h front rise.0 is.0) ∙ ap (λ (xs : List Hosted). settling h ∷ xs) (all-settle hosted fronts rise.1 is.1)

-- ---- what is pending still

undoing-pends : (h front : Hosted) → PendsInOrder h → IsUndoing h front → PendsInOrder front
undoing-pends h front rise is = subst (λ (x : Hosted). PendsInOrder x) (sym is.same)
    (λ up. subst (λ (b : Bool). PendingRise (pending (take is.k (settled_by b h.records)))) (sym up) (rise-front h.records is.k (rise up) is.enough))

pub all-pend : (hosted fronts : List Hosted) → AllByRecursion PendsInOrder hosted → AllZip IsUndoing hosted fronts → AllByRecursion PendsInOrder fronts
all-pend [] [] rise is = tt
all-pend [] (front ∷ fronts) rise is = absurd is
all-pend (h ∷ hosted) [] rise is = absurd is
all-pend (h ∷ hosted) (front ∷ fronts) rise is = (undoing-pends h front rise.0 is.0, all-pend hosted fronts rise.1 is.1)

-- ---- all is undone

-- a database in which all is undone, once no backup of it runs
settling-undoes : (h : Hosted) → IsUndoing (running None h) (settling h)
settling-undoes h = record {
  k = k;
  enough = let some : length h.records ≤ k = omega arith in some;
  same = ap (λ (rs : List Logged). record h { records = rs; job = None; transactions = [] }) (sym (take_all k (settled_by (is_up h) h.records) (omega arith)));
}
  where
    k : ℕ
    k = length h.records + length (settled_by (is_up h) h.records)

all-undone : (hosted : List Hosted) → AllZip IsUndoing (map (running None) hosted) (map settling hosted)
all-undone [] = tt
all-undone (h ∷ hosted) = (settling-undoes h, all-undone hosted)

-- a backup that runs is no matter
jobless-settle : (hosted : List Hosted) → map settling (map (running None) hosted) ≡ map settling hosted
jobless-settle [] = refl
jobless-settle (h ∷ hosted) = ap (λ (xs : List Hosted). settling h ∷ xs) (jobless-settle hosted)

jobless-pend : (hosted : List Hosted) → AllByRecursion PendsInOrder hosted → AllByRecursion PendsInOrder (map (running None) hosted)
jobless-pend [] rise = tt
jobless-pend (h ∷ hosted) rise = (rise.0, jobless-pend hosted rise.1)

-- settles to itself, and in it what is pending comes in order
pub settled-settle : (hosted : List Hosted) → AllByRecursion PendsInOrder hosted → map settling (map settling hosted) ≡ map settling hosted
settled-settle hosted rise = all-settle (map (running None) hosted) (map settling hosted) (jobless-pend hosted rise) (all-undone hosted) ∙ jobless-settle hosted

pub settled-pend : (hosted : List Hosted) → AllByRecursion PendsInOrder hosted → AllByRecursion PendsInOrder (map settling hosted)
settled-pend hosted rise = all-pend (map (running None) hosted) (map settling hosted) (jobless-pend hosted rise) (all-undone hosted)
