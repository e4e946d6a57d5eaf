-- Tables are numbered in their order, and found by their numbers.
use Rattle.std.proofs.Common.{◌≡◌, ◌≤◌, ℕ, ◌+◌, Bool, true, false, cond, List, [], ◌∷◌, ◌++◌, length, Option, Some, None, refl, sym, ◌∙◌, ap, arith}
use Rattle.std.specs.Prelude.{◌==◌, option_map, if◌then◌else◌}
use Rattle.std.specs.List.{find}
use Rattle.std.proofs.lemmas.Bool.{eqb-true, eq-eqb}
use Rattle.std.proofs.lemmas.Bool.Decides.{nat_tests}
use Rattle.bk_world.specs.declared.database.TableSpec.{TableSpec}
use Rattle.bk_shown.specs.Shown.{AreNumbered, group_among}

pub numbered-more : (n : ℕ) (made : List TableSpec) (t : TableSpec) → AreNumbered n made → t.number ≡ length made + n → AreNumbered n (made ++ t ∷ [])
numbered-more n [] t all e = let here : t.number ≡ n = omega (arith, e) in (here, tt)
numbered-more n (s ∷ made) t all e = let on : t.number ≡ length made + (n + 1) = omega (arith, e) in (all.0, numbered-more (n + 1) made t all.1 on)

-- a number that is too high is no table's
pub none-numbered : (n : ℕ) (made : List TableSpec) (number : ℕ) → AreNumbered n made → length made + n ≤ number → find (λ (t : TableSpec). t.number == number) made ≡ None
none-numbered n [] number all le = refl
none-numbered n (s ∷ made) number all le =
    let isnt : (s.number == number) ≡ false = grind (arith, nat_tests, all.0, le) in
    let on : length made + (n + 1) ≤ number = omega (arith, le) in
    rw isnt (none-numbered (n + 1) made number all.1 on)

-- what is found with one thing more
abbrev pub first_or : {X : Type 0} → (X → Bool) → Option X → X → Option X
first_or p None y = cond (p y) (Some y) None
first_or p (Some x) y = Some x

pub find-more : {X : Type 0} (p : X → Bool) (xs : List X) (y : X) → find p (xs ++ y ∷ []) ≡ first_or p (find p xs) y
find-more p [] y = refl
find-more {X} p (x ∷ xs) y = by (p x) (find-more p xs y)
  where
    by : (t : Bool) → find p (xs ++ y ∷ []) ≡ first_or p (find p xs) y → cond t (Some x) (find p (xs ++ y ∷ [])) ≡ first_or p (cond t (Some x) (find p xs)) y
    by true same = refl
    by false same = same

-- the group of a table with one table more
pub group-more : (made : List TableSpec) (t : TableSpec) → find (λ (s : TableSpec). s.number == t.number) made ≡ None → (number : ℕ)
    → group_among (made ++ t ∷ []) number ≡ (if number == t.number then Some t.group else group_among made number)
group-more made t none number =
    ap (option_map (λ (s : TableSpec). s.group)) (find-more (λ (s : TableSpec). s.number == number) made t) ∙ by (number == t.number) refl
  where
    other : (o : Option TableSpec) → (t.number == number) ≡ false → option_map (λ (s : TableSpec). s.group) (first_or (λ (s : TableSpec). s.number == number) o t) ≡ option_map (λ (s : TableSpec). s.group) o
    other None isnt = ap (λ b. option_map (λ (s : TableSpec). s.group) (cond b (Some t) None)) isnt
    other (Some s) isnt = refl

    by : (b : Bool) → (number == t.number) ≡ b
        → option_map (λ (s : TableSpec). s.group) (first_or (λ (s : TableSpec). s.number == number) (find (λ (s : TableSpec). s.number == number) made) t) ≡ cond b (Some t.group) (group_among made number)
    by true is =
        let same : number ≡ t.number = eqb-true _ _ is in
        let its : (t.number == number) ≡ true = eq-eqb t.number number (sym same) in
        let gone : find (λ (s : TableSpec). s.number == number) made ≡ None = ap (λ (k : ℕ). find (λ (s : TableSpec). s.number == k) made) same ∙ none in
        ap (λ o. option_map (λ (s : TableSpec). s.group) (first_or (λ (s : TableSpec). s.number == number) o t)) gone
        ∙ ap (λ b. option_map (λ (s : TableSpec). s.group) (cond b (Some t) None)) its
    by false isnt =
        let its : (t.number == number) ≡ false = grind (arith, nat_tests, isnt) in
        other (find (λ (s : TableSpec). s.number == number) made) its
