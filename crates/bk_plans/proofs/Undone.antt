-- Pending writes that are undone one after the other, the last one first.
use Rattle.std.proofs.Common.{◌≡◌, ◌<◌, ℕ, ◌+◌, ◌-◌, Bool, true, false, cond, List, [], ◌∷◌, ◌++◌, map, length, take, get_or, reverse, Option, Some, None, refl, sym, ◌∙◌, ap, subst}
use Rattle.std.specs.Prelude.{◌==◌, filter}
use Rattle.std.proofs.lemmas.List.{append-nil, get_or-reverse, length-reverse, map-append, take_more}
use Rattle.std.proofs.lemmas.List.Elements.{filter-append}
use Rattle.std.proofs.Math.Seq.{take-length}
use Rattle.bk_lemmas.specs.Lists.{reverse_cons}
use Rattle.bk_plans.specs.Undoing.{those_of}
use Rattle.bk_shown.specs.Shown.{pending_of}
use Rattle.bk_shown.specs.declared.shown.Written.{Written}
use Rattle.bk_world.specs.Pending.{Pending}

-- Those of some writes.

pub those-append : (only : Option ℕ) (a b : List Pending) → those_of only (a ++ b) ≡ those_of only a ++ those_of only b
those-append None a b = refl
those-append (Some begin) a b = filter-append (λ w. w.begin == begin) a b

pub those-one : (only : Option ℕ) (w : Pending) → (is : Bool) → ((own : ℕ) → only ≡ Some own → is ≡ (w.begin == own)) → (only ≡ None → is ≡ true) → those_of only (w ∷ []) ≡ cond is (w ∷ []) []
those-one None w is own all = ap (λ b. cond b (w ∷ []) []) (sym (all refl))
those-one (Some begin) w is own all = ap (λ b. cond b (w ∷ []) []) (sym (own begin refl))

map-reversed : {X Y : Type 0} (f : X → Y) (xs : List X) → map f (reverse xs) ≡ reverse (map f xs)
map-reversed f [] = refl
map-reversed f (x ∷ xs) = ap (map f) (reverse_cons x xs) ∙ map-append f (reverse xs) (x ∷ []) ∙ ap (λ ys. ys ++ f x ∷ []) (map-reversed f xs) ∙ sym (reverse_cons (f x) (map f xs))

filter-reversed : (p : Pending → Bool) (ws : List Pending) → filter p (reverse ws) ≡ reverse (filter p ws)
filter-reversed p [] = refl
filter-reversed p (w ∷ ws) = ap (filter p) (reverse_cons w ws) ∙ filter-append p (reverse ws) (w ∷ []) ∙ ap (λ vs. vs ++ filter p (w ∷ [])) (filter-reversed p ws) ∙ by (p w)
  where
    by : (b : Bool) → reverse (filter p ws) ++ cond b (w ∷ []) [] ≡ reverse (cond b (w ∷ filter p ws) (filter p ws))
    by true = sym (reverse_cons w (filter p ws))
    by false = append-nil (reverse (filter p ws))

those-reversed : (only : Option ℕ) (ws : List Pending) → those_of only (reverse ws) ≡ reverse (those_of only ws)
those-reversed None ws = refl
those-reversed (Some begin) ws = filter-reversed (λ w. w.begin == begin) ws

-- the last ones of some writes, the last one first
abbrev pub last_ones : Option ℕ → List Written → ℕ → List Pending
last_ones only ws i = those_of only (map pending_of (take i (reverse ws)))

pub one-more : (only : Option ℕ) (ws : List Written) (i : ℕ) (x w : Written) → i < length ws → w ≡ get_or ws (length ws - 1 - i) x → last_ones only ws i ++ those_of only (pending_of w ∷ []) ≡ last_ones only ws (i + 1)
one-more only ws i x w lt is =
    let here : get_or (reverse ws) i x ≡ w = get_or-reverse ws i x lt ∙ sym is in
    let within : i < length (reverse ws) = subst (λ n. i < n) (sym (length-reverse ws)) lt in
    let more : take (i + 1) (reverse ws) ≡ take i (reverse ws) ++ w ∷ [] = take_more (reverse ws) i x within ∙ ap (λ y. take i (reverse ws) ++ y ∷ []) here in
    sym (ap (λ vs. those_of only (map pending_of vs)) more ∙ ap (those_of only) (map-append pending_of (take i (reverse ws)) (w ∷ [])) ∙ those-append only (map pending_of (take i (reverse ws))) (pending_of w ∷ []))

pub all-ones : (only : Option ℕ) (ws : List Written) (i : ℕ) → i ≡ length ws → last_ones only ws i ≡ reverse (those_of only (map pending_of ws))
all-ones only ws i is =
    ap (λ n. those_of only (map pending_of (take n (reverse ws)))) (is ∙ sym (length-reverse ws)) ∙ ap (λ vs. those_of only (map pending_of vs)) (take-length (reverse ws)) ∙ ap (those_of only) (map-reversed pending_of ws)
    ∙ those-reversed only (map pending_of ws)
