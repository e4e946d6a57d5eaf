-- Lines of which only what lies below a number stays.
use Rattle.std.proofs.Common.{◌≡◌, ◌<◌, ◌≤◌, ℕ, Bool, true, false, cond, not, List, [], ◌∷◌, ◌++◌, length, refl, sym, ◌∙◌, ap, eqb, ltb, filter, arith}
use Rattle.std.specs.List.{AllByRecursion}
use Rattle.std.proofs.lemmas.Bool.Decides.{nat_tests}
use Rattle.bk_lemmas.specs.Lists.{all_mapped}
use Rattle.bk_world.specs.Records.{Logged}
use Rattle.bk_machine.specs.JoinLaws.{rise-all}
use Rattle.bk_machine.specs.Sound.{RiseFrom}

-- what lies below a number, and what doesn't
abbrev pub below : ℕ → List Logged → List Logged
below m rs = filter (λ (r : Logged). ltb r.lsn m) rs

abbrev pub from : ℕ → List Logged → List Logged
from m rs = filter (λ (r : Logged). not (ltb r.lsn m)) rs

pub all-below : (m : ℕ) (rs : List Logged) → AllByRecursion (λ r. r.lsn < m) (below m rs)
all-below m [] = tt
all-below m (r ∷ rs) = by (ltb r.lsn m) refl (all-below m rs)
  where
    by : (t : Bool) → ltb r.lsn m ≡ t → AllByRecursion (λ s. s.lsn < m) (below m rs) → AllByRecursion (λ s. s.lsn < m) (cond t (r ∷ below m rs) (below m rs))
    by true is later = (grind (arith, nat_tests, is), later)
    by false is later = later

rise-weaker : (n k : ℕ) (rs : List Logged) → n ≤ k → RiseFrom k rs → RiseFrom n rs
rise-weaker n k [] le rise = tt
rise-weaker n k (r ∷ rs) le rise = (omega (arith, le, rise.0), rise.1)

pub rise-filter : (p : Logged → Bool) (n : ℕ) (rs : List Logged) → RiseFrom n rs → RiseFrom n (filter p rs)
rise-filter p n [] rise = tt
rise-filter p n (r ∷ rs) rise = by (p r) (rise-filter p r.lsn rs rise.1)
  where
    by : (t : Bool) → RiseFrom r.lsn (filter p rs) → RiseFrom n (cond t (r ∷ filter p rs) (filter p rs))
    by true later = (rise.0, later)
    by false later = rise-weaker n r.lsn (filter p rs) (omega (arith, rise.0)) later

-- above all of some records nothing lies below the number
none-below : (m : ℕ) (rs : List Logged) → AllByRecursion (λ r. m ≤ r.lsn) rs → (below m rs ≡ []) × (from m rs ≡ rs)
none-below m [] all = (refl, refl)
none-below m (r ∷ rs) all =
    let later = none-below m rs all.1 in
    let no : ltb r.lsn m ≡ false = grind (arith, nat_tests, all.0) in
    (ap (λ t. cond t (r ∷ below m rs) (below m rs)) no ∙ later.0, ap (λ t. cond (not t) (r ∷ from m rs) (from m rs)) no ∙ ap (λ rest. r ∷ rest) later.1)

-- records that rise are those below it, and then the others
pub rise-splits : (m n : ℕ) (rs : List Logged) → RiseFrom n rs → rs ≡ below m rs ++ from m rs
rise-splits m n [] rise = refl
rise-splits m n (r ∷ rs) rise = by (ltb r.lsn m) refl (rise-splits m r.lsn rs rise.1)
  where
    by : (t : Bool) → ltb r.lsn m ≡ t → rs ≡ below m rs ++ from m rs → r ∷ rs ≡ cond t (r ∷ below m rs) (below m rs) ++ cond (not t) (r ∷ from m rs) (from m rs)
    by true is later = ap (λ rest. r ∷ rest) later
    by false is later =
        let le : m ≤ r.lsn = grind (arith, nat_tests, is) in
        let none = none-below m rs (all_mapped (λ (s : Logged). r.lsn < s.lsn) (λ (s : Logged). m ≤ s.lsn) (λ s lt. omega (arith, lt, le)) rs (rise-all r.lsn rs rise.1)) in
        sym (ap (λ front. front ++ r ∷ from m rs) none.0 ∙ ap (λ back. r ∷ back) none.1)

-- at a number below it lies what lay there
pub at-below : (m k : ℕ) (rs : List Logged) → k < m → filter (λ r. eqb r.lsn k) (below m rs) ≡ filter (λ r. eqb r.lsn k) rs
at-below m k [] lt = refl
at-below m k (r ∷ rs) lt = by (ltb r.lsn m) refl (eqb r.lsn k) refl (at-below m k rs lt)
  where
    by : (t : Bool) → ltb r.lsn m ≡ t → (s : Bool) → eqb r.lsn k ≡ s → filter (λ x. eqb x.lsn k) (below m rs) ≡ filter (λ x. eqb x.lsn k) rs
        → filter (λ x. eqb x.lsn k) (cond t (r ∷ below m rs) (below m rs)) ≡ cond s (r ∷ filter (λ x. eqb x.lsn k) rs) (filter (λ x. eqb x.lsn k) rs)
    by true is true e later = rw e (ap (λ rest. r ∷ rest) later)
    by true is false e later = rw e later
    by false is true e later = absurd (grind (arith, nat_tests, is, e, lt))
    by false is false e later = later

-- what holds of all at each number from m on holds of all from m on
pub from-each : (P : Logged → Type 0) (m end : ℕ) (rs : List Logged) → AllByRecursion (λ r. r.lsn < end) rs → ((k : ℕ) → m ≤ k → k < end → AllByRecursion P (filter (λ r. eqb r.lsn k) rs))
    → AllByRecursion P (from m rs)
from-each P m end [] lies each = tt
from-each P m end (r ∷ rs) lies each = by (ltb r.lsn m) refl (from-each P m end rs lies.1 (λ k le lt. rest k (eqb r.lsn k) (each k le lt)))
  where
    rest : (k : ℕ) (t : Bool) → AllByRecursion P (cond t (r ∷ filter (λ s. eqb s.lsn k) rs) (filter (λ s. eqb s.lsn k) rs)) → AllByRecursion P (filter (λ s. eqb s.lsn k) rs)
    rest k true all = all.1
    rest k false all = all

    first : (t : Bool) → t ≡ true → AllByRecursion P (cond t (r ∷ filter (λ s. eqb s.lsn r.lsn) rs) (filter (λ s. eqb s.lsn r.lsn) rs)) → P r
    first true is all = all.0
    first false is all = absurd (cc)

    by : (t : Bool) → ltb r.lsn m ≡ t → AllByRecursion P (from m rs) → AllByRecursion P (cond (not t) (r ∷ from m rs) (from m rs))
    by true is later = later
    by false is later = (first (eqb r.lsn r.lsn) (grind (arith, nat_tests)) (each r.lsn (grind (arith, nat_tests, is)) lies.0), later)

-- of two fronts of a list that are as long, one is the other
pub same-front : (a b c d : List Logged) → a ++ b ≡ c ++ d → length a ≡ length c → (a ≡ c) × (b ≡ d)
same-front [] b [] d same long = (refl, same)
same-front [] b (y ∷ c) d same long = absurd (omega (arith, long))
same-front (x ∷ a) b [] d same long = absurd (omega (arith, long))
same-front (x ∷ a) b (y ∷ c) d same long =
    let head : x ≡ y = cc in
    let tail : a ++ b ≡ c ++ d = cc in
    let shorter : length a ≡ length c = omega (arith, long) in
    let rest = same-front a b c d tail shorter in
    (ap (λ z. z ∷ a) head ∙ ap (λ zs. y ∷ zs) rest.0, rest.1)
