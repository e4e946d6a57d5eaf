-- Elements of lists by their places.
use Rattle.std.proofs.Common.{◌≡◌, ◌<◌, ◌⊎◌, ℕ, zero, suc, List, [], ◌∷◌, ◌++◌, length, set, Some, refl, inl, inr, sym, ap, ◌∙◌, arith, map, remove}
use Rattle.std.specs.Prelude.{slice_get}

-- a place of an element is inside
pub got-inside : {X : Type 0} (xs : List X) (i : ℕ) (x : X) → slice_get xs i ≡ Some x → i < length xs
got-inside [] i x is = absurd cc
got-inside (y ∷ xs) zero x is = omega arith
got-inside (y ∷ xs) (suc i) x is = let less = got-inside xs i x is in omega (arith, less)

-- an empty list has none
pub got-none : {X : Type 0} (i : ℕ) (x : X) → slice_get [] i ≡ Some x → ⊥
got-none i x is = absurd cc

-- a list of one has that one
pub got-only : {X : Type 0} (x : X) (i : ℕ) (y : X) → slice_get (x ∷ []) i ≡ Some y → x ≡ y
got-only x zero y is = cc
got-only x (suc i) y is = absurd cc

-- each place inside has one
pub got : {X : Type 0} (xs : List X) (i : ℕ) → i < length xs → (x : X) × (slice_get xs i ≡ Some x)
got [] i less = absurd (omega (arith, less))
got (x ∷ xs) zero less = (x, refl)
got (x ∷ xs) (suc i) less = got xs i (omega (arith, less))

pub got-set : {X : Type 0} (xs : List X) (i : ℕ) (x : X) → i < length xs → slice_get (set xs i x) i ≡ Some x
got-set [] i x less = absurd (omega (arith, less))
got-set (y ∷ xs) zero x less = refl
got-set (y ∷ xs) (suc i) x less = got-set xs i x (omega (arith, less))

pub got-other : {X : Type 0} (xs : List X) (i j : ℕ) (x : X) → (i ≡ j → ⊥) → slice_get (set xs i x) j ≡ slice_get xs j
got-other [] i j x differ = refl
got-other (y ∷ xs) zero zero x differ = absurd (differ refl)
got-other (y ∷ xs) zero (suc j) x differ = refl
got-other (y ∷ xs) (suc i) zero x differ = refl
got-other (y ∷ xs) (suc i) (suc j) x differ = got-other xs i j x (λ same. differ (ap suc same))

-- to put what is there changes nothing
pub set-same : {X : Type 0} (xs : List X) (i : ℕ) (x : X) → slice_get xs i ≡ Some x → set xs i x ≡ xs
set-same [] i x is = absurd cc
set-same (y ∷ xs) zero x is = cc
set-same (y ∷ xs) (suc i) x is = ap (λ (zs : List _). y ∷ zs) (set-same xs i x is)

-- what is there where it was set
pub set-there : {X : Type 0} (xs : List X) (i : ℕ) (x y : X) → slice_get (set xs i x) i ≡ Some y → x ≡ y
set-there [] i x y is = absurd cc
set-there (z ∷ xs) zero x y is = cc
set-there (z ∷ xs) (suc i) x y is = set-there xs i x y is

pub got-before : {X : Type 0} (xs ys : List X) (i : ℕ) (x : X) → slice_get xs i ≡ Some x → slice_get (xs ++ ys) i ≡ Some x
got-before [] ys i x is = absurd cc
got-before (y ∷ xs) ys zero x is = is
got-before (y ∷ xs) ys (suc i) x is = got-before xs ys i x is

-- an element of a list with one more is one of the list, or that one
pub got-more : {X : Type 0} (xs : List X) (x y : X) (i : ℕ) → slice_get (xs ++ x ∷ []) i ≡ Some y → (slice_get xs i ≡ Some y) ⊎ ((i ≡ length xs) × (x ≡ y))
got-more [] x y zero is = inr (refl, cc)
got-more [] x y (suc i) is = absurd cc
got-more (z ∷ xs) x y zero is = inl is
got-more (z ∷ xs) x y (suc i) is = elim (got-more xs x y i is) [ inl there ↦ inl there | inr last ↦ inr (ap suc last.0, last.1) ]

-- the one more is the last
pub got-last : {X : Type 0} (xs : List X) (x : X) → slice_get (xs ++ x ∷ []) (length xs) ≡ Some x
got-last [] x = refl
got-last (y ∷ xs) x = got-last xs x

-- one element at a place
pub got-one : {X : Type 0} (xs : List X) (i : ℕ) (x y : X) → slice_get xs i ≡ Some x → slice_get xs i ≡ Some y → x ≡ y
got-one xs i x y first second = let same : Some x ≡ Some y = sym first ∙ second in cc

-- two places are one or differ
pub same-place : (i j : ℕ) → (i ≡ j) ⊎ (i ≡ j → ⊥)
same-place zero zero = inl refl
same-place zero (suc j) = inr (λ same. omega (arith, same))
same-place (suc i) zero = inr (λ same. omega (arith, same))
same-place (suc i) (suc j) = elim (same-place i j) [ inl same ↦ inl (ap suc same) | inr differ ↦ inr (λ same. differ (omega (arith, same))) ]

-- what is mapped of lists that change

pub mapped-more : {A B : Type 0} (f : A → B) (xs : List A) (x : A) → map f (xs ++ x ∷ []) ≡ map f xs ++ f x ∷ []
mapped-more f [] x = refl
mapped-more f (a ∷ xs) x = ap (λ (ys : List _). f a ∷ ys) (mapped-more f xs x)

pub mapped-less : {A B : Type 0} (f : A → B) (xs : List A) (i : ℕ) → map f (remove xs i) ≡ remove (map f xs) i
mapped-less f [] zero = refl
mapped-less f [] (suc i) = refl
mapped-less f (a ∷ xs) zero = refl
mapped-less f (a ∷ xs) (suc i) = ap (λ (ys : List _). f a ∷ ys) (mapped-less f xs i)

pub mapped-set : {A B : Type 0} (f : A → B) (xs : List A) (i : ℕ) (x : A) → map f (set xs i x) ≡ set (map f xs) i (f x)
mapped-set f [] i x = refl
mapped-set f (a ∷ xs) zero x = refl
mapped-set f (a ∷ xs) (suc i) x = ap (λ (ys : List _). f a ∷ ys) (mapped-set f xs i x)
