-- Pending writes and committed rows go on agreeing on where a row lies.
use Rattle.std.proofs.Common.{◌≡◌, ℕ, Bool, true, false, not, cond, List, [], ◌∷◌, ◌++◌, Option, Some, None, ◌⊎◌, inl, inr, refl, sym, ◌∙◌, ap, subst}
use Rattle.std.specs.Prelude.{◌==◌, ◌&&◌, is_some, if◌then◌else◌}
use Rattle.std.specs.List.{filter, AllByRecursion}
use Rattle.std.proofs.lemmas.Bool.{cases_Bool, and_parts, eqb-true}
use Rattle.std.proofs.lemmas.Option.{same_Some}
use Rattle.bk_ids.specs.declared.record.Place.{Place}
use Rattle.bk_world.specs.LastLaws.{is_its, last-all, last-dropped, last-kept, last-more, last-none, one, value_last}
use Rattle.bk_lemmas.specs.Lists.{all_filter, all_joined, all_mapped, all_middle}
use Rattle.bk_world.specs.Pending.{Pending, of_others, of_transaction}
use Rattle.bk_world.specs.Places.{home_behind, last_of, later, place_behind}
use Rattle.bk_world.specs.Records.{RowId, id_of, is_row}
use Rattle.bk_world.specs.RowLaws.{row-same, row-itself}
use Rattle.bk_lemmas.specs.Tests.{clash}
use Rattle.bk_shown.specs.Shown.{OneWriter, PlacesAgree, lies_at}
use Rattle.bk_shown.proofs.Lists.{all-each}

pub some-none : {P X : Type 0} (o : Option X) (x : X) → o ≡ Some x → o ≡ None → P
some-none o x a b = let wrong : Some x ≡ None = sym a ∙ b in absurd (cc)

-- a row with a pending write has a last one
pub last-there : (ws front : List Pending) (v : Pending) (back : List Pending) → ws ≡ front ++ v ∷ back → last_of (id_of v.change) ws ≡ None → ⊥
last-there ws front v back e none =
    let isnt : is_its (id_of v.change) v ≡ false = all_middle (λ w. is_its (id_of v.change) w ≡ false) front v back (subst (AllByRecursion (λ w. is_its (id_of v.change) w ≡ false)) e (last-none (id_of v.change) ws none)) in
    clash (is_its (id_of v.change) v) (row-itself (id_of v.change)) isnt

-- the place of the last one is the row's
pub last-place : (place : RowId → Option Place) (ws : List Pending) (id : RowId) (u : Pending) → AllByRecursion (λ w. place (id_of w.change) ≡ Some w.place) ws → last_of id ws ≡ Some u → place id ≡ Some u.place
last-place place ws id u all is = let its = last-all (λ w. place (id_of w.change) ≡ Some w.place) id ws u all is in ap place (sym (row-same (id_of u.change) id its.1)) ∙ its.0

-- ---- fewer writes

module _ (p : Pending → Bool) (ws : List Pending) (home : RowId → Option Place) (agree : PlacesAgree ws home) where
  single-filter : (id : RowId) → OneWriter (filter p ws) id
  single-filter id = ((agree.single id).0, all_filter (λ w. is_row (id_of w.change) id ≡ true → w.begin ≡ (agree.single id).0) p ws (agree.single id).1)

  placed-filter : AllByRecursion (λ w. lies_at ws home (id_of w.change) ≡ Some w.place) (filter p ws)
  placed-filter = all_filter (λ w. lies_at ws home (id_of w.change) ≡ Some w.place) p ws agree.placed

  -- where the row lay, if it lies anywhere by its writes
  lies-last : (id : RowId) (u : Pending) → last_of id (filter p ws) ≡ Some u → lies_at ws home id ≡ Some u.place
  lies-last id u is = last-place (lies_at ws home) (filter p ws) id u placed-filter is

  lies-now : (id : RowId) (u : Pending) → last_of id (filter p ws) ≡ Some u → lies_at (filter p ws) home id ≡ Some u.place
  lies-now id u is = ap (λ l. place_behind l (home id)) is

  pub agree-filter : PlacesAgree (filter p ws) home
  agree-filter = record {
    single = single-filter;
    placed = all-each (λ w. lies_at (filter p ws) home (id_of w.change) ≡ Some w.place) (filter p ws) (λ front v back e. placed-at front v back e (last_of (id_of v.change) (filter p ws)) refl);
    homed = λ id at e. homed-at id at e (last_of id (filter p ws)) refl;
  }
    where
      placed-at : (front : List Pending) (v : Pending) (back : List Pending) → filter p ws ≡ front ++ v ∷ back → (l : Option Pending) → last_of (id_of v.change) (filter p ws) ≡ l
          → lies_at (filter p ws) home (id_of v.change) ≡ Some v.place
      placed-at front v back e None is = absurd (last-there (filter p ws) front v back e is)
      placed-at front v back e (Some u) is =
          let its : lies_at ws home (id_of v.change) ≡ Some v.place =
          all_middle (λ w. lies_at ws home (id_of w.change) ≡ Some w.place) front v back (subst (AllByRecursion (λ w. lies_at ws home (id_of w.change) ≡ Some w.place)) e placed-filter) in
          lies-now (id_of v.change) u is ∙ sym (lies-last (id_of v.change) u is) ∙ its

      homed-at : (id : RowId) (at : Place) → home id ≡ Some at → (l : Option Pending) → last_of id (filter p ws) ≡ l → lies_at (filter p ws) home id ≡ Some at
      homed-at id at e None is = ap (λ l. place_behind l (home id)) is ∙ e
      homed-at id at e (Some u) is = lies-now id u is ∙ sym (lies-last id u is) ∙ agree.homed id at e

-- where a row lies with fewer writes, it lay
pub fewer-lies : (p : Pending → Bool) (ws : List Pending) (home : RowId → Option Place) → PlacesAgree ws home → (id : RowId) (at : Place) → lies_at (filter p ws) home id ≡ Some at → lies_at ws home id ≡ Some at
fewer-lies p ws home agree id at e = by (last_of id (filter p ws)) refl
  where
    by : (l : Option Pending) → last_of id (filter p ws) ≡ l → lies_at ws home id ≡ Some at
    by None is = agree.homed id at (ap (λ l. place_behind l (home id)) (sym is) ∙ e)
    by (Some u) is = lies-last p ws home agree id u is ∙ sym (lies-now p ws home agree id u is) ∙ e

-- ---- a commit

-- a row's pending writes are all of the transaction, or none is
pub Apart : ℕ → List Pending → RowId → Type 0
Apart begin ws id =
    ((last_of id (of_others begin ws) ≡ None) × (last_of id (of_transaction begin ws) ≡ last_of id ws))
    ⊎ ((last_of id (of_transaction begin ws) ≡ None) × (last_of id (of_others begin ws) ≡ last_of id ws))

pub apart : (begin : ℕ) (ws : List Pending) (id : RowId) → OneWriter ws id → Apart begin ws id
unfolding Apart
apart begin ws id one = elim (cases_Bool (one.0 == begin)) [
  | inl mine ↦ inl (last-dropped id (λ v. not (v.begin == begin)) ws (flipped true mine), last-kept id (λ v. v.begin == begin) ws (each true mine))
  | inr other ↦ inr (last-dropped id (λ v. v.begin == begin) ws (each false other), last-kept id (λ v. not (v.begin == begin)) ws (flipped false other))
]
  where
    each : (t : Bool) → (one.0 == begin) ≡ t → AllByRecursion (λ v. is_its id v ≡ true → (v.begin == begin) ≡ t) ws
    each t e = all_mapped (λ v. is_its id v ≡ true → v.begin ≡ one.0) (λ v. is_its id v ≡ true → (v.begin == begin) ≡ t) (λ v same its. ap (λ b. b == begin) (same its) ∙ e) ws one.1

    flipped : (t : Bool) → (one.0 == begin) ≡ t → AllByRecursion (λ v. is_its id v ≡ true → not (v.begin == begin) ≡ not t) ws
    flipped t e = all_mapped (λ v. is_its id v ≡ true → (v.begin == begin) ≡ t) (λ v. is_its id v ≡ true → not (v.begin == begin) ≡ not t) (λ v same its. ap not (same its)) ws (each t e)

module _ (begin : ℕ) (ws : List Pending) (home : RowId → Option Place) where
  own : List Pending
  own = of_transaction begin ws

  others : List Pending
  others = of_others begin ws

  abbrev pub home_then : RowId → Option Place
  home_then id = home_behind (last_of id (of_transaction begin ws)) (home id)

  -- where the row lies then
  lies-then : (id : RowId) (l k : Option Pending) → last_of id (of_others begin ws) ≡ l → last_of id (of_transaction begin ws) ≡ k → lies_at (of_others begin ws) home_then id ≡ place_behind l (home_behind k (home id))
  lies-then id l k a b = ap (λ m. place_behind m (home_behind (last_of id (of_transaction begin ws)) (home id))) a ∙ ap (λ m. place_behind l (home_behind m (home id))) b

  -- a row that the transaction didn't write lies where it lay
  lies-other : (id : RowId) → last_of id (of_transaction begin ws) ≡ None → last_of id (of_others begin ws) ≡ last_of id ws → lies_at (of_others begin ws) home_then id ≡ lies_at ws home id
  lies-other id none same = lies-then id (last_of id ws) None same none

  pub agree-commit : PlacesAgree ws home → PlacesAgree (of_others begin ws) home_then
  unfolding Apart
  agree-commit agree = record {
    single = single-filter (λ w. not (w.begin == begin)) ws home agree;
    placed = all-each (λ w. lies_at (of_others begin ws) home_then (id_of w.change) ≡ Some w.place) (of_others begin ws)
        (λ front v back e. placed-at front v back e (apart begin ws (id_of v.change) (agree.single (id_of v.change))));
    homed = λ id at e. homed-at id at e (apart begin ws id (agree.single id));
  }
    where
      placed-at : (front : List Pending) (v : Pending) (back : List Pending) → of_others begin ws ≡ front ++ v ∷ back → Apart begin ws (id_of v.change) → lies_at (of_others begin ws) home_then (id_of v.change) ≡ Some v.place
      placed-at front v back e (inl mine) = absurd (last-there (of_others begin ws) front v back e mine.0)
      placed-at front v back e (inr other) =
          lies-other (id_of v.change) other.0 other.1
          ∙ all_middle (λ w. lies_at ws home (id_of w.change) ≡ Some w.place) front v back (subst (AllByRecursion (λ w. lies_at ws home (id_of w.change) ≡ Some w.place)) e (placed-filter (λ w. not (w.begin == begin)) ws home agree))

      homed-at : (id : RowId) (at : Place) → home_then id ≡ Some at → Apart begin ws id → lies_at (of_others begin ws) home_then id ≡ Some at
      homed-at id at e (inl mine) = ap (λ l. place_behind l (home_then id)) mine.0 ∙ e
      homed-at id at e (inr other) = lies-other id other.0 other.1 ∙ agree.homed id at (sym (ap (λ l. home_behind l (home id)) other.0) ∙ e)

  -- a row that the transaction wrote, and that isn't there then, lies nowhere; each other one lies where it lay
  pub lies-commit : (id : RowId) (value : Option (List ℕ)) → OneWriter ws id
      → lies_at (of_others begin ws) home_then id ≡ cond (is_some (last_of id (of_transaction begin ws)) && not (is_some (value_last (last_of id (of_transaction begin ws)) value))) None (lies_at ws home id)
  unfolding Apart
  lies-commit id value single = by (apart begin ws id single)
    where
      after : (l : Option Pending) → home_behind l (home id) ≡ cond (is_some l && not (is_some (value_last l value))) None (place_behind l (home id))
      after None = refl
      after (Some w) = there w.change.value
        where
          there : (x : Option (List ℕ)) → (if is_some x then Some w.place else None) ≡ cond (true && not (is_some x)) None (Some w.place)
          there None = refl
          there (Some x) = refl

      by : Apart begin ws id → lies_at (of_others begin ws) home_then id ≡ cond (is_some (last_of id (of_transaction begin ws)) && not (is_some (value_last (last_of id (of_transaction begin ws)) value))) None (lies_at ws home id)
      by (inl mine) =
          lies-then id None (last_of id ws) mine.0 mine.1 ∙ after (last_of id ws)
          ∙ ap (λ l. cond (is_some l && not (is_some (value_last l value))) None (lies_at ws home id)) (sym mine.1)
      by (inr other) =
          lies-other id other.0 other.1
          ∙ ap (λ l. cond (is_some l && not (is_some (value_last l value))) None (lies_at ws home id)) (sym other.0)

-- ---- one write more

module _ (ws : List Pending) (w : Pending) (home : RowId → Option Place) where
  later-none : (l : Option Pending) → later None l ≡ l
  later-none l = refl

  -- its row lies in its cell, each other one where it lay
  pub lies-write : (id : RowId) → lies_at (ws ++ w ∷ []) home id ≡ cond (is_its id w) (Some w.place) (lies_at ws home id)
  lies-write id = ap (λ l. place_behind l (home id)) (last-more id ws w) ∙ by (is_its id w)
    where
      by : (t : Bool) → place_behind (later (one t w) (last_of id ws)) (home id) ≡ cond t (Some w.place) (lies_at ws home id)
      by true = refl
      by false = refl

  pub agree-write : PlacesAgree ws home → ((lies_at ws home (id_of w.change) ≡ Some w.place) ⊎ (lies_at ws home (id_of w.change) ≡ None))
      → AllByRecursion (λ v. is_row (id_of v.change) (id_of w.change) ≡ true → v.begin ≡ w.begin) ws → PlacesAgree (ws ++ w ∷ []) home
  agree-write agree place unlocked = record {
    single = λ id. single-at id (is_its id w) refl;
    placed = all_joined (λ v. lies_at (ws ++ w ∷ []) home (id_of v.change) ≡ Some v.place) ws (w ∷ [])
        (all_mapped (λ v. lies_at ws home (id_of v.change) ≡ Some v.place) (λ v. lies_at (ws ++ w ∷ []) home (id_of v.change) ≡ Some v.place) (λ v was. stays (id_of v.change) v.place was) ws agree.placed)
        (lies-write (id_of w.change) ∙ ap (λ t. cond t (Some w.place) (lies_at ws home (id_of w.change))) (row-itself (id_of w.change)), tt);
    homed = λ id at e. stays id at (agree.homed id at e);
  }
    where
      same-at : (at : Place) → lies_at ws home (id_of w.change) ≡ Some at → w.place ≡ at
      same-at at was = elim place [
        | inl there ↦ same_Some w.place at (sym there ∙ was)
        | inr none ↦ some-none (lies_at ws home (id_of w.change)) at was none
      ]

      stays : (id : RowId) (at : Place) → lies_at ws home id ≡ Some at → lies_at (ws ++ w ∷ []) home id ≡ Some at
      stays id at was = lies-write id ∙ by (is_its id w) refl
        where
          by : (t : Bool) → is_its id w ≡ t → cond t (Some w.place) (lies_at ws home id) ≡ Some at
          by true is = ap (λ (p : Place). Some p) (same-at at (ap (lies_at ws home) (row-same (id_of w.change) id is) ∙ was))
          by false isnt = was

      single-at : (id : RowId) (t : Bool) → is_its id w ≡ t → OneWriter (ws ++ w ∷ []) id
      single-at id true is =
          let same : id_of w.change ≡ id = row-same (id_of w.change) id is in
          (w.begin, all_joined (λ v. is_row (id_of v.change) id ≡ true → v.begin ≡ w.begin) ws (w ∷ []) (subst (λ (r : RowId). AllByRecursion (λ v. is_row (id_of v.change) r ≡ true → v.begin ≡ w.begin) ws) same unlocked) (λ e. refl, tt))
      single-at id false isnt =
          let old = agree.single id in
          (old.0, all_joined (λ v. is_row (id_of v.change) id ≡ true → v.begin ≡ old.0) ws (w ∷ []) old.1 (λ e. clash (is_its id w) e isnt, tt))

-- ---- a write that is undone

module _ (begin n : ℕ) (ws : List Pending) (w : Pending) (home : RowId → Option Place) where
  abbrev pub rest : List Pending
  rest = filter (λ v. not (v.begin == begin && v.lsn == n)) ws

  -- its row, where it has no other pending write and isn't there, lies nowhere; each other one lies where it lay
  pub lies-undone : PlacesAgree ws home → AllByRecursion (λ v. v.lsn ≡ n → v ≡ w) ws → (id : RowId) (value : Option (List ℕ)) → is_some value ≡ is_some (home id)
      → lies_at rest home id ≡ cond ((is_its id w && not (is_some (last_of id rest))) && not (is_some value)) None (lies_at ws home id)
  lies-undone agree each id value homed = by (is_its id w) refl
    where
      passes : (isnt : is_its id w ≡ false) (v : Pending) → (v.lsn ≡ n → v ≡ w) → is_its id v ≡ true → not (v.begin == begin && v.lsn == n) ≡ true
      passes isnt v same its = elim (cases_Bool (v.begin == begin && v.lsn == n)) [
        | inl both ↦
            let number : v.lsn ≡ n = eqb-true _ _ (and_parts _ _ both).1 in
            clash (is_its id w) (ap (is_its id) (sym (same number)) ∙ its) isnt
        | inr other ↦ ap not other
      ]

      lone : (l : Option Pending) → last_of id rest ≡ l → lies_at rest home id ≡ cond (not (is_some l) && not (is_some value)) None (lies_at ws home id)
      lone (Some u) is = lies-now (λ v. not (v.begin == begin && v.lsn == n)) ws home agree id u is ∙ sym (lies-last (λ v. not (v.begin == begin && v.lsn == n)) ws home agree id u is)
      lone None is = ap (λ l. place_behind l (home id)) is ∙ at_home (home id) refl value homed
        where
          at_home : (h : Option Place) → home id ≡ h → (x : Option (List ℕ)) → is_some x ≡ is_some (home id) → home id ≡ cond (not (is_some x)) None (lies_at ws home id)
          at_home None is_h None e = is_h
          at_home None is_h (Some x) e = clash true refl (e ∙ ap is_some is_h)
          at_home (Some p) is_h None e = clash false (e ∙ ap is_some is_h) refl
          at_home (Some p) is_h (Some x) e = is_h ∙ sym (agree.homed id p is_h)

      by : (t : Bool) → is_its id w ≡ t → lies_at rest home id ≡ cond ((t && not (is_some (last_of id rest))) && not (is_some value)) None (lies_at ws home id)
      by true is = lone (last_of id rest) refl
      by false isnt = ap (λ l. place_behind l (home id))
          (last-kept id (λ v. not (v.begin == begin && v.lsn == n)) ws (all_mapped (λ v. v.lsn ≡ n → v ≡ w) (λ v. is_its id v ≡ true → not (v.begin == begin && v.lsn == n) ≡ true) (passes isnt) ws each))
