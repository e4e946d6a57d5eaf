-- Plain facts on lists.
use Rattle.std.proofs.Common.{◌≡◌, ◌<◌, ℕ, zero, suc, Bool, true, false, List, [], ◌∷◌, ◌++◌, length, get_or, reverse, refl, sym, ◌∙◌, ap, subst, arith}
use Rattle.std.specs.List.{filter, list_all, AllByRecursion}
use Rattle.std.proofs.lemmas.Bool.{and_parts}
use Rattle.std.proofs.lemmas.List.{reverse-append}

pub all_mapped : {X : Type 0} (P Q : X → Type 0) → ((x : X) → P x → Q x) → (xs : List X) → AllByRecursion P xs → AllByRecursion Q xs
all_mapped P Q leads [] all = tt
all_mapped P Q leads (x ∷ xs) all = (leads x all.0, all_mapped P Q leads xs all.1)

pub all_both : {X : Type 0} (P Q R : X → Type 0) → ((x : X) → P x → Q x → R x) → (xs : List X) → AllByRecursion P xs → AllByRecursion Q xs → AllByRecursion R xs
all_both P Q R leads [] first second = tt
all_both P Q R leads (x ∷ xs) first second = (leads x first.0 second.0, all_both P Q R leads xs first.1 second.1)

pub all_joined : {X : Type 0} (P : X → Type 0) (xs ys : List X) → AllByRecursion P xs → AllByRecursion P ys → AllByRecursion P (xs ++ ys)
all_joined P [] ys front back = back
all_joined P (x ∷ xs) ys front back = (front.0, all_joined P xs ys front.1 back)

pub all_front : {X : Type 0} (P : X → Type 0) (xs ys : List X) → AllByRecursion P (xs ++ ys) → AllByRecursion P xs
all_front P [] ys all = tt
all_front P (x ∷ xs) ys all = (all.0, all_front P xs ys all.1)

pub all_filter : {X : Type 0} (P : X → Type 0) (p : X → Bool) (xs : List X) → AllByRecursion P xs → AllByRecursion P (filter p xs)
all_filter P p [] all = tt
all_filter P p (x ∷ xs) all = step (p x) refl (all_filter P p xs all.1)
  where
    step : (b : Bool) → p x ≡ b → AllByRecursion P (filter p xs) → AllByRecursion P (filter p (x ∷ xs))
    step true is rest = rw is (all.0, rest)
    step false is rest = rw is rest

pub filter_every : {X : Type 0} (p : X → Bool) (xs : List X) → AllByRecursion (λ x. p x ≡ true) xs → filter p xs ≡ xs
filter_every {X = X} p [] all = refl
filter_every {X = X} p (x ∷ xs) all = rw all.0 (ap (λ (rest : List X). x ∷ rest) (filter_every p xs all.1))

pub filter_no : {X : Type 0} (p : X → Bool) (xs : List X) → AllByRecursion (λ x. p x ≡ false) xs → filter p xs ≡ []
filter_no p [] all = refl
filter_no p (x ∷ xs) all = rw all.0 (filter_no p xs all.1)

pub filter_passed : {X : Type 0} (p : X → Bool) (xs : List X) → AllByRecursion (λ x. p x ≡ true) (filter p xs)
filter_passed p [] = tt
filter_passed {X = X} p (x ∷ xs) = step (p x) refl (filter_passed p xs)
  where
    step : (b : Bool) → p x ≡ b → AllByRecursion (λ (y : X). p y ≡ true) (filter p xs) → AllByRecursion (λ (y : X). p y ≡ true) (filter p (x ∷ xs))
    step true is rest = rw is (is, rest)
    step false is rest = rw is rest

pub all_middle : {X : Type 0} (P : X → Type 0) (xs : List X) (y : X) (ys : List X) → AllByRecursion P (xs ++ y ∷ ys) → P y
all_middle P [] y ys all = all.0
all_middle P (x ∷ xs) y ys all = all_middle P xs y ys all.1

pub all_at : {X : Type 0} (P : X → Type 0) (xs : List X) (i : ℕ) (x : X) → i < length xs → AllByRecursion P xs → P (get_or xs i x)
all_at P [] i x lt all = absurd (omega (arith, lt))
all_at P (y ∷ ys) zero x lt all = all.0
all_at P (y ∷ ys) (suc i) x lt all = all_at P ys i x (omega (arith, lt)) all.1

pub all_tested : {X : Type 0} (test : X → Bool) (P : X → Type 0) → ((x : X) → test x ≡ true → P x) → (xs : List X) → list_all test xs ≡ true → AllByRecursion P xs
all_tested test P is [] e = tt
all_tested test P is (x ∷ xs) e = let p = and_parts (test x) (list_all test xs) e in (is x p.0, all_tested test P is xs p.1)

pub filter_swap : {X : Type 0} (p q : X → Bool) (xs : List X) → filter p (filter q xs) ≡ filter q (filter p xs)
filter_swap p q [] = refl
filter_swap {X = X} p q (x ∷ xs) = step (p x) refl (q x) refl (filter_swap p q xs)
  where
    step : (a : Bool) → p x ≡ a → (b : Bool) → q x ≡ b → filter p (filter q xs) ≡ filter q (filter p xs) → filter p (filter q (x ∷ xs)) ≡ filter q (filter p (x ∷ xs))
    step true is true also same =
        let left : filter p (filter q (x ∷ xs)) ≡ x ∷ filter p (filter q xs) = rw also (rw is refl) in
        let right : filter q (filter p (x ∷ xs)) ≡ x ∷ filter q (filter p xs) = rw is (rw also refl) in
        left ∙ ap (λ (rest : List X). x ∷ rest) same ∙ sym right
    step true is false other same =
        let left : filter p (filter q (x ∷ xs)) ≡ filter p (filter q xs) = rw other refl in
        let right : filter q (filter p (x ∷ xs)) ≡ filter q (filter p xs) = rw is (rw other refl) in
        left ∙ same ∙ sym right
    step false isnt true also same =
        let left : filter p (filter q (x ∷ xs)) ≡ filter p (filter q xs) = rw also (rw isnt refl) in
        let right : filter q (filter p (x ∷ xs)) ≡ filter q (filter p xs) = rw isnt refl in
        left ∙ same ∙ sym right
    step false isnt false other same =
        let left : filter p (filter q (x ∷ xs)) ≡ filter p (filter q xs) = rw other refl in
        let right : filter q (filter p (x ∷ xs)) ≡ filter q (filter p xs) = rw isnt refl in
        left ∙ same ∙ sym right

pub reverse_cons : {X : Type 0} (x : X) (xs : List X) → reverse (x ∷ xs) ≡ reverse xs ++ x ∷ []
reverse_cons x xs = reverse-append (x ∷ []) xs

pub all_reverse : {X : Type 0} (P : X → Type 0) (xs : List X) → AllByRecursion P xs → AllByRecursion P (reverse xs)
all_reverse P [] all = tt
all_reverse P (x ∷ xs) all = subst (AllByRecursion P) (sym (reverse_cons x xs)) (all_joined P (reverse xs) (x ∷ []) (all_reverse P xs all.1) (all.0, tt))
