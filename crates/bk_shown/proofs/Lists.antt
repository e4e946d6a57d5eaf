-- Plain facts on lists.
use Rattle.std.proofs.Common.{◌≡◌, ◌<◌, ℕ, zero, suc, ◌+◌, Bool, true, false, cond, List, [], ◌∷◌, ◌++◌, length, map, take, get_or, refl, ◌∙◌, ap, subst, arith, add-one}
use Rattle.std.specs.List.{filter, AllByRecursion}
use Rattle.std.proofs.lemmas.Bool.Decides.{nat_tests}
use Rattle.bk_lemmas.specs.Lists.{all_mapped}
use Rattle.bk_world.specs.Pending.{Pending, PendingRise}

-- what holds at each place of a list holds of all
pub all-each : {X : Type 0} (P : X → Type 0) (xs : List X) → ((front : List X) (x : X) (back : List X) → xs ≡ front ++ x ∷ back → P x) → AllByRecursion P xs
all-each P [] at = tt
all-each {X} P (x ∷ xs) at = (at [] x xs refl, all-each P xs (λ front y back e. at (x ∷ front) y back (ap (λ (rest : List X). x ∷ rest) e)))

pub filter-mapped : {X Y : Type 0} (f : X → Y) (p : Y → Bool) (xs : List X) → map f (filter (λ x. p (f x)) xs) ≡ filter p (map f xs)
filter-mapped f p [] = refl
filter-mapped {X} {Y} f p (x ∷ xs) = by (p (f x)) ∙ ap (λ (rest : List Y). cond (p (f x)) (f x ∷ rest) rest) (filter-mapped f p xs)
  where
    by : (t : Bool) → map f (cond t (x ∷ filter (λ y. p (f y)) xs) (filter (λ y. p (f y)) xs)) ≡ cond t (f x ∷ map f (filter (λ y. p (f y)) xs)) (map f (filter (λ y. p (f y)) xs))
    by true = refl
    by false = refl

pub filter-same : {X : Type 0} (p q : X → Bool) (xs : List X) → AllByRecursion (λ x. p x ≡ q x) xs → filter p xs ≡ filter q xs
filter-same p q [] all = refl
filter-same {X} p q (x ∷ xs) all = ap (λ (t : Bool). cond t (x ∷ filter p xs) (filter p xs)) all.0 ∙ ap (λ (rest : List X). cond (q x) (x ∷ rest) rest) (filter-same p q xs all.1)

-- what passes a test stands in the list
pub filter-there : {X : Type 0} (p : X → Bool) (xs before : List X) (y : X) (after : List X) → filter p xs ≡ before ++ y ∷ after → (front back : List X) × (xs ≡ front ++ y ∷ back)
filter-there p [] [] y after e = absurd (cc)
filter-there p [] (b ∷ before) y after e = absurd (cc)
filter-there {X} p (x ∷ xs) before y after e = by (p x) before e (λ front e2. filter-there p xs front y after e2)
  where
    longer : (front back : List X) × (xs ≡ front ++ y ∷ back) → (front back : List X) × (x ∷ xs ≡ front ++ y ∷ back)
    longer found = (x ∷ found.0, found.1, ap (λ (rest : List X). x ∷ rest) found.2)

    by : (t : Bool) (before : List X) → cond t (x ∷ filter p xs) (filter p xs) ≡ before ++ y ∷ after
        → ((before : List X) → filter p xs ≡ before ++ y ∷ after → (front back : List X) × (xs ≡ front ++ y ∷ back)) → (front back : List X) × (x ∷ xs ≡ front ++ y ∷ back)
    by false before e rest = longer (rest before e)
    by true [] e rest = let same : x ≡ y = cc in ([], xs, ap (λ (z : X). z ∷ xs) same)
    by true (b ∷ before) e rest = let less : filter p xs ≡ before ++ y ∷ after = cc in longer (rest before less)

-- of writes with rising numbers one alone has the number
pub one-numbered : (ws front : List Pending) (w : Pending) (back : List Pending) → PendingRise ws → ws ≡ front ++ w ∷ back → AllByRecursion (λ v. v.lsn ≡ w.lsn → v ≡ w) ws
one-numbered [] [] w back rise e = absurd (cc)
one-numbered [] (f ∷ front) w back rise e = absurd (cc)
one-numbered (v ∷ ws) [] w back rise e =
    let same : v ≡ w = cc in
    let above : AllByRecursion (λ u. w.lsn < u.lsn) ws = subst (λ (x : Pending). AllByRecursion (λ u. x.lsn < u.lsn) ws) same rise.0 in
    (λ number. same, all_mapped (λ u. w.lsn < u.lsn) (λ u. u.lsn ≡ w.lsn → u ≡ w) (λ u lt number. absurd (grind (arith, nat_tests, lt, number))) ws above)
one-numbered (v ∷ ws) (f ∷ front) w back rise e =
    let rest : ws ≡ front ++ w ∷ back = cc in
    let below : v.lsn < w.lsn = middle front (subst (AllByRecursion (λ u. v.lsn < u.lsn)) rest rise.0) in
    (λ number. absurd (grind (arith, nat_tests, below, number)), one-numbered ws front w back rise.1 rest)
  where
    middle : (front : List Pending) → AllByRecursion (λ u. v.lsn < u.lsn) (front ++ w ∷ back) → v.lsn < w.lsn
    middle [] all = all.0
    middle (f ∷ front) all = middle front all.1

-- a part of a list
take-suc : {X : Type 0} (xs : List X) (i : ℕ) (d : X) → i < length xs → take (suc i) xs ≡ take i xs ++ get_or xs i d ∷ []
take-suc [] i d lt = absurd (omega (arith, lt))
take-suc (x ∷ xs) zero d lt = refl
take-suc {X} (x ∷ xs) (suc i) d lt = let less : i < length xs = omega (arith, lt) in ap (λ (ys : List X). x ∷ ys) (take-suc xs i d less)

pub take-next : {X : Type 0} (xs : List X) (i : ℕ) (d : X) → i < length xs → take (i + 1) xs ≡ take i xs ++ get_or xs i d ∷ []
take-next {X} xs i d lt = ap (λ (k : ℕ). take k xs) (add-one i) ∙ take-suc xs i d lt

pub filter-joined : {X : Type 0} (p : X → Bool) (xs ys : List X) → filter p (xs ++ ys) ≡ filter p xs ++ filter p ys
filter-joined p [] ys = refl
filter-joined {X} p (x ∷ xs) ys = ap (λ (rest : List X). cond (p x) (x ∷ rest) rest) (filter-joined p xs ys) ∙ by (p x)
  where
    by : (t : Bool) → cond t (x ∷ (filter p xs ++ filter p ys)) (filter p xs ++ filter p ys) ≡ cond t (x ∷ filter p xs) (filter p xs) ++ filter p ys
    by true = refl
    by false = refl
