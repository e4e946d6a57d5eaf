-- The last write of a row.
use Rattle.std.proofs.Common.{◌≡◌, ℕ, Bool, true, false, cond, List, [], ◌∷◌, ◌++◌, Option, Some, None, refl, sym, ◌∙◌, ap, subst}
use Rattle.std.specs.List.{filter, AllByRecursion}
use Rattle.bk_world.specs.Records.{RowId, id_of, is_row}
use Rattle.bk_world.specs.Pending.{Pending, changes_of}
use Rattle.bk_world.specs.Places.{last_of, later}
use Rattle.bk_world.specs.RowLaws.{value_behind}

-- a write of this row
abbrev pub is_its : RowId → Pending → Bool
is_its id w = is_row (id_of w.change) id

abbrev pub one : Bool → Pending → Option Pending
one t w = cond t (Some w) None

-- where each write of the row passes, the last one stays
pub last-kept : (id : RowId) (p : Pending → Bool) (ws : List Pending) → AllByRecursion (λ w. is_its id w ≡ true → p w ≡ true) ws → last_of id (filter p ws) ≡ last_of id ws
last-kept id p [] all = refl
last-kept id p (w ∷ ws) all = by (p w) refl (is_its id w) refl (last-kept id p ws all.1)
  where
    by : (t : Bool) → p w ≡ t → (i : Bool) → is_its id w ≡ i → last_of id (filter p ws) ≡ last_of id ws → last_of id (cond t (w ∷ filter p ws) (filter p ws)) ≡ later (last_of id ws) (one i w)
    by true is i e ih = ap (λ l. later l (one (is_its id w) w)) ih ∙ ap (λ j. later (last_of id ws) (one j w)) e
    by false isnt true e ih = let is : p w ≡ true = all.0 e in let wrong : true ≡ false = sym is ∙ isnt in absurd (cc)
    by false isnt false e ih = ih ∙ none (last_of id ws)
      where
        none : (l : Option Pending) → l ≡ later l None
        none None = refl
        none (Some v) = refl

-- where no write of the row passes, there is none
pub last-dropped : (id : RowId) (p : Pending → Bool) (ws : List Pending) → AllByRecursion (λ w. is_its id w ≡ true → p w ≡ false) ws → last_of id (filter p ws) ≡ None
last-dropped id p [] all = refl
last-dropped id p (w ∷ ws) all = by (p w) refl (is_its id w) refl (last-dropped id p ws all.1)
  where
    by : (t : Bool) → p w ≡ t → (i : Bool) → is_its id w ≡ i → last_of id (filter p ws) ≡ None → last_of id (cond t (w ∷ filter p ws) (filter p ws)) ≡ None
    by false isnt i e ih = ih
    by true is true e ih = let isnt : p w ≡ false = all.0 e in let wrong : true ≡ false = sym is ∙ isnt in absurd (cc)
    by true is false e ih = ap (λ l. later l (one (is_its id w) w)) ih ∙ ap (λ j. later None (one j w)) e

-- where there is none, each write is another row's
pub last-none : (id : RowId) (ws : List Pending) → last_of id ws ≡ None → AllByRecursion (λ w. is_its id w ≡ false) ws
last-none id [] e = tt
last-none id (w ∷ ws) e = by (last_of id ws) refl (is_its id w) refl e (last-none id ws)
  where
    by : (l : Option Pending) → last_of id ws ≡ l → (i : Bool) → is_its id w ≡ i → later l (one i w) ≡ None → (last_of id ws ≡ None → AllByRecursion (λ v. is_its id v ≡ false) ws)
        → AllByRecursion (λ v. is_its id v ≡ false) (w ∷ ws)
    by (Some v) is i e nothing ih = absurd (cc)
    by None is true e nothing ih = absurd (cc)
    by None is false e nothing ih = (e, ih is)

-- what holds of each write holds of the last one, which is the row's
pub last-all : (Q : Pending → Type 0) (id : RowId) (ws : List Pending) (w : Pending) → AllByRecursion Q ws → last_of id ws ≡ Some w → Q w × (is_its id w ≡ true)
last-all Q id [] w all e = absurd (cc)
last-all Q id (v ∷ ws) w all e = by (last_of id ws) refl (is_its id v) refl e (last-all Q id ws w all.1)
  where
    by : (l : Option Pending) → last_of id ws ≡ l → (i : Bool) → is_its id v ≡ i → later l (one i v) ≡ Some w → (last_of id ws ≡ Some w → Q w × (is_its id w ≡ true)) → Q w × (is_its id w ≡ true)
    by (Some u) is i e there ih = ih (is ∙ there)
    by None is true e there ih = let same : v ≡ w = cc in subst (λ x. Q x × (is_its id x ≡ true)) same (all.0, e)
    by None is false e there ih = absurd (cc)

-- the value of a row behind some writes is the last one's
abbrev pub value_last : Option Pending → Option (List ℕ) → Option (List ℕ)
value_last None value = value
value_last (Some w) value = w.change.value

pub value-last : (id : RowId) (ws : List Pending) (v : Option (List ℕ)) → value_behind id (changes_of ws) v ≡ value_last (last_of id ws) v
value-last id [] v = refl
value-last id (w ∷ ws) v = value-last id ws (cond (is_its id w) w.change.value v) ∙ by (last_of id ws) (is_its id w)
  where
    by : (l : Option Pending) (i : Bool) → value_last l (cond i w.change.value v) ≡ value_last (later l (one i w)) v
    by (Some u) i = refl
    by None true = refl
    by None false = refl

pub last-more : (id : RowId) (ws : List Pending) (w : Pending) → last_of id (ws ++ w ∷ []) ≡ later (one (is_its id w) w) (last_of id ws)
last-more id [] w = by (is_its id w)
  where
    by : (i : Bool) → later None (one i w) ≡ later (one i w) None
    by true = refl
    by false = refl
last-more id (v ∷ ws) w = ap (λ l. later l (one (is_its id v) v)) (last-more id ws w) ∙ by (is_its id w)
  where
    by : (i : Bool) → later (later (one i w) (last_of id ws)) (one (is_its id v) v) ≡ later (one i w) (later (last_of id ws) (one (is_its id v) v))
    by true = refl
    by false = refl
