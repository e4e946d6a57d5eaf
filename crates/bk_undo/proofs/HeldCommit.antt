-- What a store holds stays what its log says.
use Rattle.std.proofs.Common.{◌≡◌, ℕ, Bool, true, false, not, cond, List, [], ◌∷◌, map, Option, Some, None, inl, inr, refl, sym, ◌∙◌, ap, subst}
use Rattle.std.specs.Prelude.{◌==◌, is_some, if◌then◌else◌}
use Rattle.std.specs.List.{filter, AllByRecursion}
use Rattle.bk_ids.specs.declared.record.Mark.{Mark}
use Rattle.bk_ids.specs.declared.record.Place.{Place}
use Rattle.bk_lemmas.specs.Lists.{all_both, all_mapped, filter_no, filter_swap}
use Rattle.bk_lemmas.specs.Tests.{clash}
use Rattle.bk_undo.specs.CellSteps.{SameCells}
use Rattle.bk_world.specs.Records.{Logged, RowId, is_row, more}
use Rattle.bk_undo.specs.Cells.{IsOwn, Stored, Tied, is_place, rows_written, writes_at}
use Rattle.bk_undo.proofs.Ties.{filter_mapped, is_place-true, same_row}
use Rattle.std.proofs.lemmas.Bool.{cases_Bool}
use Rattle.std.proofs.lemmas.Option.{same_Some}
use Rattle.bk_undo.proofs.KeptTied.{commits_rows}
use Rattle.bk_world.specs.Pending.{Pending, changes_of, of_others, of_transaction, pending}
use Rattle.bk_world.specs.Telling.{row_at, rows, seen}
use Rattle.bk_world.specs.Places.{home_behind, homes, last_of, place_behind, place_of}
use Rattle.bk_world.specs.Says.{commit_said}
use Rattle.bk_undo.specs.Holds.{Holds, cell_write}
use Rattle.bk_world.specs.ReadingLaws.{homes-commit, pending-commit, rows-commit}
use Rattle.bk_world.specs.RowLaws.{rise-rows, row-changed, value_behind}
use Rattle.bk_undo.proofs.CellValues.{written-behind}
use Rattle.bk_world.specs.LastLaws.{is_its, last-dropped, last-kept, last-none, value-last, value_last}
use Rattle.bk_undo.proofs.Ends.{KeepsOrEnds, ends_places}

-- ---- lists

pub all-under : {X Y : Type 0} (f : X → Y) (P : Y → Type 0) (xs : List X) → AllByRecursion P (map f xs) → AllByRecursion (λ x. P (f x)) xs
all-under f P [] all = tt
all-under f P (x ∷ xs) all = (all.0, all-under f P xs all.1)

all-unfiltered : {X : Type 0} (p : X → Bool) (Q : X → Type 0) (xs : List X) → AllByRecursion Q (filter p xs) → AllByRecursion (λ x. p x ≡ true → Q x) xs
all-unfiltered p Q [] all = tt
all-unfiltered {X} p Q (x ∷ xs) all = by (p x) refl all (all-unfiltered p Q xs)
  where
    by : (t : Bool) → p x ≡ t → AllByRecursion Q (cond t (x ∷ filter p xs) (filter p xs)) → (AllByRecursion Q (filter p xs) → AllByRecursion (λ y. p y ≡ true → Q y) xs) → AllByRecursion (λ y. p y ≡ true → Q y) (x ∷ xs)
    by true is all rest = (λ e. all.0, rest all.1)
    by false isnt all rest = (λ e. clash (p x) e isnt, rest all)

-- ---- one transaction a row

-- all pending writes of a row that has a place are of one transaction
pub one_transaction : (rs : List Logged) (s : Stored) (h : Holds rs s) (id : RowId) (at : Place) → s.places id ≡ Some at → AllByRecursion (λ w. is_its id w ≡ true → w.begin ≡ (h.tied.single at).0) (pending rs)
one_transaction rs s h id at placed =
    all-under cell_write (λ w. is_row w.row id ≡ true → w.begin ≡ (h.tied.single at).0) (pending rs)
    (subst (AllByRecursion (λ w. is_row w.row id ≡ true → w.begin ≡ (h.tied.single at).0)) h.pending
    (all_both (IsOwn s.places) (λ w. is_place at w.place ≡ true → w.begin ≡ (h.tied.single at).0) (λ w. is_row w.row id ≡ true → w.begin ≡ (h.tied.single at).0)
    (λ w own same is. same (is_place-true at w.place (same_Some at w.place (sym placed ∙ sym (ap s.places (same_row w.row id is)) ∙ own.placed))))
    s.pending h.tied.written (all-unfiltered (λ w. is_place at w.place) (λ w. w.begin ≡ (h.tied.single at).0) s.pending (h.tied.single at).1)))

-- ---- a commit

module _ (rs : List Logged) (n begin time : ℕ) (mark : Option Mark) (old new : Stored) (h : Holds rs old) (cells : SameCells old new)
    (is_pending : new.pending ≡ filter (λ w. not (w.begin == begin)) old.pending)
    (are_rows : (id : RowId) → new.rows id ≡ rows_written (filter (λ w. w.begin == begin) old.pending) old.rows id)
    (are_places : (id : RowId) → new.places id ≡ place_of (more rs n (commit_said begin time mark)) id) where
  after : List Logged
  after = more rs n (commit_said begin time mark)

  own : List Pending
  own = of_transaction begin (pending rs)

  -- before places are given up
  mid : Stored
  mid = record new { places = old.places }

  tied_mid : Tied mid
  unfolding mid
  tied_mid = commits_rows begin old mid (record { pending = is_pending; rows = are_rows; cells = cells; places = λ id. refl }) h.tied

  pending_is : new.pending ≡ map cell_write (of_others begin (pending rs))
  pending_is = is_pending ∙ ap (filter (λ w. not (w.begin == begin))) h.pending ∙ filter_mapped cell_write (λ w. not (w.begin == begin)) (λ w. not (w.begin == begin)) (λ w. refl) (pending rs)

  rows_are : (id : RowId) → new.rows id ≡ value_behind id (changes_of own) (old.rows id)
  unfolding own
  rows_are id =
      are_rows id ∙ ap (λ ws. rows_written ws old.rows id) (ap (filter (λ w. w.begin == begin)) h.pending ∙ filter_mapped cell_write (λ w. w.begin == begin) (λ w. w.begin == begin) (λ w. refl) (pending rs))
      ∙ written-behind (of_transaction begin (pending rs)) old.rows id

  place_is : (id : RowId) → place_of after id ≡ place_behind (last_of id (of_others begin (pending rs))) (home_behind (last_of id own) (homes rs id))
  unfolding place_of own after
  place_is id = ap (λ ws. place_behind (last_of id ws) (homes (more rs n (commit_said begin time mark)) id)) (pending-commit rs n begin time mark)
      ∙ ap (λ home. place_behind (last_of id (of_others begin (pending rs))) home) (homes-commit rs n begin time mark id)

  place_was : (id : RowId) → old.places id ≡ place_behind (last_of id (pending rs)) (homes rs id)
  unfolding place_of
  place_was id = h.places id

  -- the place of a row, from the last writes of it
  place_from : (id : RowId) (others its : Option Pending) → last_of id (of_others begin (pending rs)) ≡ others → last_of id (of_transaction begin (pending rs)) ≡ its
      → new.places id ≡ place_behind others (home_behind its (homes rs id))
  unfolding own after
  place_from id others its a b = are_places id ∙ place_is id ∙ ap (λ l. place_behind l (home_behind (last_of id own) (homes rs id))) a ∙ ap (λ l. place_behind others (home_behind l (homes rs id))) b

  -- a row of which no write is pending
  none_of : (id : RowId) → last_of id (pending rs) ≡ None → (test : ℕ → Bool) → last_of id (filter (λ w. test w.begin) (pending rs)) ≡ None
  none_of id none test = last-dropped id (λ w. test w.begin) (pending rs) (all_mapped (λ w. is_its id w ≡ false) (λ w. is_its id w ≡ true → test w.begin ≡ false) (λ w isnt is. clash (is_its id w) is isnt) (pending rs) (last-none id (pending rs) none))

  none_at_all : (id : RowId) → last_of id (pending rs) ≡ None → new.places id ≡ home_behind (last_of id (of_transaction begin (pending rs))) (homes rs id)
  none_at_all id none = place_from id None (last_of id (of_transaction begin (pending rs))) (none_of id none (λ b. not (b == begin))) refl

  goes_none : (id : RowId) → last_of id (pending rs) ≡ None → KeepsOrEnds mid new id
  unfolding mid
  goes_none id none = inl (place_from id None None (none_of id none (λ b. not (b == begin))) (none_of id none (λ b. b == begin)) ∙ sym (place_was id ∙ ap (λ l. place_behind l (homes rs id)) none))

  module _ (id : RowId) (w : Pending) (is : last_of id (pending rs) ≡ Some w) where
    placed : old.places id ≡ Some w.place
    placed = place_was id ∙ ap (λ l. place_behind l (homes rs id)) is

    theirs : ℕ
    theirs = (h.tied.single w.place).0

    each : AllByRecursion (λ v. is_its id v ≡ true → v.begin ≡ theirs) (pending rs)
    unfolding theirs
    each = one_transaction rs old h id w.place placed

    each_test : (t : Bool) → (theirs == begin) ≡ t → AllByRecursion (λ v. is_its id v ≡ true → (v.begin == begin) ≡ t) (pending rs)
    each_test t e = all_mapped (λ v. is_its id v ≡ true → v.begin ≡ theirs) (λ v. is_its id v ≡ true → (v.begin == begin) ≡ t) (λ v same its. ap (λ b. b == begin) (same its) ∙ e) (pending rs) each

    flipped : (t : Bool) → (theirs == begin) ≡ t → AllByRecursion (λ v. is_its id v ≡ true → not (v.begin == begin) ≡ not t) (pending rs)
    flipped t e = all_mapped (λ v. is_its id v ≡ true → (v.begin == begin) ≡ t) (λ v. is_its id v ≡ true → not (v.begin == begin) ≡ not t) (λ v same its. ap not (same its)) (pending rs) (each_test t e)

    own_none : (theirs == begin) ≡ false → last_of id (of_transaction begin (pending rs)) ≡ None
    own_none e = last-dropped id (λ v. v.begin == begin) (pending rs) (each_test false e)

    -- another transaction's row
    stays : (theirs == begin) ≡ false → new.places id ≡ old.places id
    stays e = place_from id (Some w) None (last-kept id (λ v. not (v.begin == begin)) (pending rs) (flipped false e) ∙ is) (own_none e) ∙ sym placed

    goes_other : (theirs == begin) ≡ false → KeepsOrEnds mid new id
    unfolding mid
    goes_other e = inl (stays e)

    settled_at : (theirs == begin) ≡ true → (at : Place) → old.places id ≡ Some at → writes_at at new.pending ≡ []
    unfolding theirs
    settled_at e at there =
        subst (λ p. writes_at p new.pending ≡ []) (same_Some w.place at (sym placed ∙ there))
        (ap (writes_at w.place) is_pending ∙ filter_swap (λ v. is_place w.place v.place) (λ v. not (v.begin == begin)) old.pending
        ∙ filter_no (λ v. not (v.begin == begin)) (writes_at w.place old.pending)
        (all_mapped (λ v. v.begin ≡ theirs) (λ v. not (v.begin == begin) ≡ false) (λ v same. ap (λ b. not (b == begin)) same ∙ ap not e) (writes_at w.place old.pending) (h.tied.single w.place).1))

    own_last : (theirs == begin) ≡ true → last_of id (of_transaction begin (pending rs)) ≡ Some w
    own_last e = last-kept id (λ v. v.begin == begin) (pending rs) (each_test true e) ∙ is

    at_home : (theirs == begin) ≡ true → new.places id ≡ home_behind (Some w) (homes rs id)
    at_home e = place_from id None (Some w) (last-dropped id (λ v. not (v.begin == begin)) (pending rs) (flipped true e)) (own_last e)

    -- the new home is the place
    homed_some : (at : Place) → home_behind (last_of id (of_transaction begin (pending rs))) (homes rs id) ≡ Some at → new.places id ≡ Some at
    homed_some at e = elim (cases_Bool (theirs == begin)) [
      | inl mine ↦ at_home mine ∙ ap (λ l. home_behind l (homes rs id)) (sym (own_last mine)) ∙ e
      | inr other ↦ stays other ∙ h.homes id at (ap (λ l. home_behind l (homes rs id)) (sym (own_none other)) ∙ e)
    ]

    -- this transaction's row: it is there afterwards, or gone
    goes_own : (theirs == begin) ≡ true → KeepsOrEnds mid new id
    unfolding mid own
    goes_own e = by w.change.value refl
      where
        its : new.places id ≡ home_behind (Some w) (homes rs id)
        its = at_home e

        by : (v : Option (List ℕ)) → w.change.value ≡ v → KeepsOrEnds mid new id
        by (Some x) there = inl (its ∙ ap (λ v. if is_some v then Some w.place else None) there ∙ sym placed)
        by None gone = inr (
          its ∙ ap (λ v. if is_some v then Some w.place else None) gone,
          rows_are id ∙ value-last id own (old.rows id) ∙ ap (λ l. value_last l (old.rows id)) (own_last e) ∙ gone,
          settled_at e,
        )

    goes_some : KeepsOrEnds mid new id
    goes_some = elim (cases_Bool (theirs == begin)) [ inl e ↦ goes_own e | inr e ↦ goes_other e ]

  places_go : (id : RowId) → KeepsOrEnds mid new id
  places_go id = by (last_of id (pending rs)) refl
    where
      by : (l : Option Pending) → last_of id (pending rs) ≡ l → KeepsOrEnds mid new id
      by None none = goes_none id none
      by (Some w) is = goes_some id w is

  homed_at : (id : RowId) (at : Place) → home_behind (last_of id (of_transaction begin (pending rs))) (homes rs id) ≡ Some at → (l : Option Pending) → last_of id (pending rs) ≡ l → new.places id ≡ Some at
  homed_at id at e None none = none_at_all id none ∙ e
  homed_at id at e (Some w) is = homed_some id w is at e

  -- what is stored after a commit is what the log says: rows without a value give up their places
  pub holds-commit : Holds (more rs n (commit_said begin time mark)) new
  unfolding mid own seen
  holds-commit = record {
    tied = ends_places mid new (λ at. refl) refl (λ id. refl) places_go tied_mid;
    pending = pending_is ∙ ap (map cell_write) (sym (pending-commit rs n begin time mark));
    rows = λ id. rows_are id ∙ ap (value_behind id (changes_of own)) (h.rows id)
        ∙ sym (row-changed id.0 id.1 (rows rs id.0) (changes_of own) (rise-rows rs id.0))
        ∙ ap (λ es. row_at es id.1) (sym (rows-commit rs n begin time mark id.0));
    places = are_places;
    homes = λ id at e. homed_at id at (sym (homes-commit rs n begin time mark id) ∙ e) (last_of id (pending rs)) refl;
  }
