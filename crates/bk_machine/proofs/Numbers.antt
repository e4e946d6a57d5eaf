-- Different numbers below a bound: no more than it, and where they are fewer, one is missing. And rows, each once.
use Rattle.std.proofs.Common.{◌≡◌, ◌<◌, ◌≤◌, ℕ, zero, suc, ◌+◌, Bool, true, false, not, cond, List, [], ◌∷◌, length, refl, sym, ◌∙◌, ap, subst, arith}
use Rattle.std.specs.Prelude.{◌==◌, ◌||◌}
use Rattle.std.specs.List.{filter, list_any, AllByRecursion}
use Rattle.std.proofs.lemmas.Bool.Decides.{nat_tests}
use Rattle.bk_lemmas.specs.Lists.{all_filter}
use Rattle.bk_world.specs.Records.{RowId, is_row}
use Rattle.bk_world.specs.RowLaws.{row-same, row-itself}
use Rattle.bk_machine.specs.Room.{AreOnce, each_once, has_row}

-- ---- rows

pub row-true : (a b : RowId) → a ≡ b → is_row a b ≡ true
row-true a b e = let Is : RowId → Type 0 = λ c. is_row a c ≡ true in subst Is e (row-itself a)

-- ---- different numbers

abbrev pub AllApart : List ℕ → Type 0
AllApart [] = Unit {0}
AllApart (x ∷ xs) = AllByRecursion (λ y. (y == x) ≡ false) xs × AllApart xs

without : ℕ → List ℕ → List ℕ
without n xs = filter (λ x. not (x == n)) xs

has_number : ℕ → List ℕ → Bool
has_number n xs = list_any (λ x. x == n) xs

without-apart : (n : ℕ) (xs : List ℕ) → AllApart xs → AllApart (without n xs)
unfolding without
without-apart n [] apart = tt
without-apart n (x ∷ xs) apart = by (x == n) (without-apart n xs apart.1)
  where
    by : (t : Bool) → AllApart (filter (λ y. not (y == n)) xs) → AllApart (cond (not t) (x ∷ filter (λ y. not (y == n)) xs) (filter (λ y. not (y == n)) xs))
    by true rest = rest
    by false rest = (all_filter (λ y. (y == x) ≡ false) (λ y. not (y == n)) xs apart.0, rest)

-- at most one of them is a number
one-goes : (n : ℕ) (xs : List ℕ) → AllApart xs → length xs ≤ length (without n xs) + 1
unfolding without
one-goes n [] apart = omega arith
one-goes n (x ∷ xs) apart = by (x == n) refl (one-goes n xs apart.1)
  where
    all-stay : (ys : List ℕ) → (x == n) ≡ true → AllByRecursion (λ y. (y == x) ≡ false) ys → length (filter (λ y. not (y == n)) ys) ≡ length ys
    all-stay [] is all = refl
    all-stay (y ∷ ys) is all =
        let stays : (y == n) ≡ false = grind (arith, nat_tests, is, all.0) in
        let rest : length (filter (λ z. not (z == n)) ys) ≡ length ys = all-stay ys is all.1 in
        rw stays (omega (arith, rest))

    by : (t : Bool) → (x == n) ≡ t → length xs ≤ length (filter (λ y. not (y == n)) xs) + 1 → length (x ∷ xs) ≤ length (cond (not t) (x ∷ filter (λ y. not (y == n)) xs) (filter (λ y. not (y == n)) xs)) + 1
    by true is le = let same : length (filter (λ y. not (y == n)) xs) ≡ length xs = all-stay xs is apart.0 in omega (arith, same)
    by false isnt le = omega (arith, le)

-- and where one is, one goes
some-go : (n : ℕ) (xs : List ℕ) → has_number n xs ≡ true → length (without n xs) + 1 ≤ length xs
unfolding without has_number
some-go n [] e = absurd (cc)
some-go n (x ∷ xs) e = by (x == n) e (some-go n xs)
  where
    fewer : (ys : List ℕ) → length (filter (λ y. not (y == n)) ys) ≤ length ys
    fewer [] = omega arith
    fewer (y ∷ ys) = here (y == n) (fewer ys)
      where
        here : (t : Bool) → length (filter (λ z. not (z == n)) ys) ≤ length ys → length (cond (not t) (y ∷ filter (λ z. not (z == n)) ys) (filter (λ z. not (z == n)) ys)) ≤ length (y ∷ ys)
        here true le = omega (arith, le)
        here false le = omega (arith, le)

    by : (t : Bool) → (t || list_any (λ y. y == n) xs) ≡ true → (list_any (λ y. y == n) xs ≡ true → length (filter (λ y. not (y == n)) xs) + 1 ≤ length xs)
        → length (cond (not t) (x ∷ filter (λ y. not (y == n)) xs) (filter (λ y. not (y == n)) xs)) + 1 ≤ length (x ∷ xs)
    by true there rest = let le : length (filter (λ y. not (y == n)) xs) ≤ length xs = fewer xs in omega (arith, le)
    by false there rest = let le : length (filter (λ y. not (y == n)) xs) + 1 ≤ length xs = rest there in omega (arith, le)

lower : (n : ℕ) (xs : List ℕ) → AllByRecursion (λ x. x < suc n) xs → AllByRecursion (λ x. x < n) (without n xs)
unfolding without
lower n [] all = tt
lower n (x ∷ xs) all = by (x == n) refl (lower n xs all.1)
  where
    by : (t : Bool) → (x == n) ≡ t → AllByRecursion (λ y. y < n) (filter (λ y. not (y == n)) xs) → AllByRecursion (λ y. y < n) (cond (not t) (x ∷ filter (λ y. not (y == n)) xs) (filter (λ y. not (y == n)) xs))
    by true is rest = rest
    by false isnt rest = (grind (arith, nat_tests, isnt, all.0), rest)

-- different numbers below n are n at most
pub at-most : (n : ℕ) (xs : List ℕ) → AllApart xs → AllByRecursion (λ x. x < n) xs → length xs ≤ n
at-most n [] apart all = omega arith
at-most zero (x ∷ xs) apart all = absurd (omega (arith, all.0))
at-most (suc n) (x ∷ xs) apart all =
    let rest : length (without n (x ∷ xs)) ≤ n = at-most n (without n (x ∷ xs)) (without-apart n (x ∷ xs) apart) (lower n (x ∷ xs) all) in
    let most : length (x ∷ xs) ≤ length (without n (x ∷ xs)) + 1 = one-goes n (x ∷ xs) apart in
    omega (arith, rest, most)

-- a number below n that is none of some
pub record Missing (n : ℕ) (xs : List ℕ) : Type 0 where
  pub number : ℕ
  pub below : number < n
  pub none : list_any (λ x. x == number) xs ≡ false

-- of n numbers one is missing among fewer
pub one-missing : (n : ℕ) (xs : List ℕ) → length xs < n → Missing n xs
unfolding without has_number
one-missing zero xs less = absurd (omega (arith, less))
one-missing (suc n) xs less = by (has_number n xs) refl (one-missing n (without n xs))
  where
    same : (m : ℕ) (ys : List ℕ) → m < n → list_any (λ x. x == m) (filter (λ x. not (x == n)) ys) ≡ list_any (λ x. x == m) ys
    same m [] lt = refl
    same m (y ∷ ys) lt = here (y == n) refl (same m ys lt)
      where
        here : (t : Bool) → (y == n) ≡ t → list_any (λ x. x == m) (filter (λ x. not (x == n)) ys) ≡ list_any (λ x. x == m) ys
            → list_any (λ x. x == m) (cond (not t) (y ∷ filter (λ x. not (x == n)) ys) (filter (λ x. not (x == n)) ys)) ≡ (y == m || list_any (λ x. x == m) ys)
        here true is rest = let other : (y == m) ≡ false = grind (arith, nat_tests, is, lt) in rw other rest
        here false isnt rest = ap (λ b. y == m || b) rest

    by : (t : Bool) → has_number n xs ≡ t → (length (without n xs) < n → Missing n (without n xs)) → Missing (suc n) xs
    by false isnt rest = record { number = n; below = omega arith; none = isnt }
    by true is rest =
        let fewer : length (without n xs) + 1 ≤ length xs = some-go n xs is in
        let found : Missing n (without n xs) = rest (omega (arith, fewer, less)) in
        record { number = found.number; below = omega (arith, found.below); none = sym (same found.number xs found.below) ∙ found.none }

-- ---- rows, each once

pub once-has : (id : RowId) (ids : List RowId) → has_row id (each_once ids) ≡ has_row id ids
once-has id [] = refl
once-has id (x ∷ ids) = by (has_row x ids) refl (once-has id ids)
  where
    or-same : (b : Bool) → (b ≡ true → has_row id ids ≡ true) → has_row id ids ≡ (b || has_row id ids)
    or-same true leads = leads refl
    or-same false leads = refl

    by : (t : Bool) → has_row x ids ≡ t → has_row id (each_once ids) ≡ has_row id ids → has_row id (cond t (each_once ids) (x ∷ each_once ids)) ≡ (is_row id x || has_row id ids)
    by true there same = same ∙ or-same (is_row id x) (λ is. ap (λ y. has_row y ids) (row-same id x is) ∙ there)
    by false isnt same = ap (λ b. is_row id x || b) same

pub once-apart : (ids : List RowId) → AreOnce (each_once ids)
once-apart [] = tt
once-apart (x ∷ ids) = by (has_row x ids) refl (once-apart ids)
  where
    by : (t : Bool) → has_row x ids ≡ t → AreOnce (each_once ids) → AreOnce (cond t (each_once ids) (x ∷ each_once ids))
    by true there rest = rest
    by false isnt rest = (once-has x ids ∙ isnt, rest)
