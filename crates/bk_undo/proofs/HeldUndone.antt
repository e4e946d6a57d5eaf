-- A write that is undone: the cell is what it was, and a row that isn't there any more gives up its place.
use Rattle.std.proofs.Common.{◌≡◌, ℕ, true, false, not, ◌&&◌, List, [], ◌∷◌, ◌++◌, map, Option, Some, None, inl, inr, refl, sym, ◌∙◌, ap, subst}
use Rattle.std.specs.Prelude.{◌==◌, is_some}
use Rattle.std.specs.List.{filter, AllByRecursion}
use Rattle.std.proofs.lemmas.List.{map-append, append-nil}
use Rattle.bk_ids.specs.declared.record.Place.{Place}
use Rattle.bk_world.specs.Rows.{rows_of}
use Rattle.bk_lemmas.specs.Lists.{all_both, all_mapped, all_middle, filter_no}
use Rattle.bk_lemmas.specs.Tests.{clash}
use Rattle.bk_undo.specs.CellSteps.{SetsCell, SameRows}
use Rattle.bk_world.specs.Records.{Logged, RowId, id_of, more, numbered}
use Rattle.bk_undo.specs.Cells.{IsOwn, Stored, Tied, is_place, writes_at}
use Rattle.bk_undo.proofs.Ties.{all_without, is_row-true, same_place, same_row}
use Rattle.std.proofs.lemmas.Bool.{cases_Bool}
use Rattle.std.proofs.lemmas.Option.{same_Some}
use Rattle.bk_undo.proofs.KeptTied.{undoes_write}
use Rattle.bk_undo.specs.Spelled.{cell, image}
use Rattle.bk_world.specs.Pending.{Pending, PendingRise, pending}
use Rattle.bk_world.specs.Telling.{entries, row_at, rows}
use Rattle.bk_world.specs.Places.{homes, last_of, later, place_behind, place_of}
use Rattle.bk_world.specs.Says.{undoing}
use Rattle.bk_undo.specs.Holds.{Holds, cell_write}
use Rattle.bk_world.specs.ReadingLaws.{entries-more, homes-more, pending-more}
use Rattle.bk_world.specs.LastLaws.{is_its, last-all, last-none, one}
use Rattle.bk_world.specs.UndoLaws.{filter-undone}
use Rattle.bk_world.specs.HomeLaws.{homed}
use Rattle.bk_undo.proofs.Ends.{KeepsOrEnds, ends_places}
use Rattle.bk_undo.proofs.HeldCommit.{all-under}
use Rattle.bk_undo.proofs.HeldWrite.{all-over}

-- the last write of a row in two parts
last-append : (id : RowId) (a b : List Pending) → last_of id (a ++ b) ≡ later (last_of id b) (last_of id a)
last-append id [] b = by (last_of id b)
  where
    by : (l : Option Pending) → l ≡ later l None
    by None = refl
    by (Some v) = refl
last-append id (v ∷ a) b = ap (λ l. later l (one (is_its id v) v)) (last-append id a b) ∙ by (last_of id b)
  where
    by : (l : Option Pending) → later (later l (last_of id a)) (one (is_its id v) v) ≡ later l (later (last_of id a) (one (is_its id v) v))
    by None = refl
    by (Some u) = refl

none-of : (id : RowId) (ws : List Pending) → AllByRecursion (λ w. is_its id w ≡ false) ws → last_of id ws ≡ None
none-of id [] all = refl
none-of id (w ∷ ws) all = ap (λ l. later l (one (is_its id w) w)) (none-of id ws all.1) ∙ ap (λ t. later None (one t w)) all.0

module _ (rs : List Logged) (n : ℕ) (s new : Stored) (h : Holds rs s) (rise : PendingRise (pending rs)) (front : List Pending) (w : Pending) (back : List Pending)
    (whole : pending rs ≡ front ++ w ∷ back) (last : AllByRecursion (λ v. is_place w.place v.place ≡ false) back)
    (cells : SetsCell s w.place (cell w.change.table w.change.key w.before) new) (is_pending : new.pending ≡ map cell_write front ++ map cell_write back) (rows_same : SameRows s new)
    (are_places : (id : RowId) → new.places id ≡ place_of (more rs n (undoing (w ∷ []))) id) where
  pub pending-undone : pending (more rs n (undoing (w ∷ []))) ≡ front ++ back
  pending-undone = pending-more rs (numbered n (undoing (w ∷ []))) ∙ ap (filter (λ v. not (v.begin == w.begin && v.lsn == w.lsn))) whole ∙ filter-undone front w back (subst PendingRise whole rise)

  mid : Stored
  mid = record new { places = s.places }

  stored_whole : s.pending ≡ map cell_write front ++ cell_write w ∷ map cell_write back
  stored_whole = h.pending ∙ ap (map cell_write) whole ∙ map-append cell_write front (w ∷ back)

  tied_mid : Tied mid
  unfolding mid
  tied_mid = undoes_write w.begin w.place (image w.change.table w.change.key w.before) w.lsn s mid (record {
    front = map cell_write front;
    write = cell_write w;
    back = map cell_write back;
    whole = stored_whole;
    last = all-over cell_write (λ v. is_place w.place v.place ≡ false) back last;
    own = refl;
    number = refl;
    place = refl;
    noted = refl;
    cells = cells;
    pending = is_pending;
    places = λ id. refl;
    rows = rows_same;
  }) h.tied

  -- each pending write has its row's place
  own_all : AllByRecursion (λ v. s.places (id_of v.change) ≡ Some v.place) (front ++ w ∷ back)
  own_all = subst (AllByRecursion (λ v. s.places (id_of v.change) ≡ Some v.place)) whole
      (all_mapped (λ v. IsOwn s.places (cell_write v)) (λ v. s.places (id_of v.change) ≡ Some v.place) (λ v own. own.placed) (pending rs)
      (all-under cell_write (IsOwn s.places) (pending rs) (subst (AllByRecursion (IsOwn s.places)) h.pending h.tied.written)))

  placed : s.places (id_of w.change) ≡ Some w.place
  placed = all_middle (λ v. s.places (id_of v.change) ≡ Some v.place) front w back own_all

  own_others : AllByRecursion (λ v. s.places (id_of v.change) ≡ Some v.place) (front ++ back)
  own_others = all_without (λ v. s.places (id_of v.change) ≡ Some v.place) front w back own_all

  same_homes : (id : RowId) → homes (more rs n (undoing (w ∷ []))) id ≡ homes rs id
  same_homes id = ap (λ (hs : RowId → Option Place). hs id) (homes-more rs (numbered n (undoing (w ∷ []))))

  same_rows : (table : ℕ) → rows (more rs n (undoing (w ∷ []))) table ≡ rows rs table
  unfolding rows
  same_rows table = ap (rows_of table []) (entries-more rs (numbered n (undoing (w ∷ []))) ∙ append-nil (entries rs))

  place_is : (id : RowId) → new.places id ≡ place_behind (last_of id (front ++ back)) (homes rs id)
  unfolding place_of
  place_is id = are_places id ∙ ap (λ ws. place_behind (last_of id ws) (homes (more rs n (undoing (w ∷ []))) id)) pending-undone ∙ ap (place_behind (last_of id (front ++ back))) (same_homes id)

  place_was : (id : RowId) → s.places id ≡ place_behind (last_of id (front ++ w ∷ back)) (homes rs id)
  unfolding place_of
  place_was id = h.places id ∙ ap (λ ws. place_behind (last_of id ws) (homes rs id)) whole

  -- another row
  goes_other : (id : RowId) → is_its id w ≡ false → KeepsOrEnds mid new id
  unfolding mid
  goes_other id isnt =
      let one_less : last_of id (w ∷ back) ≡ last_of id back = ap (λ t. later (last_of id back) (one t w)) isnt ∙ less (last_of id back) in
      inl (place_is id ∙ ap (λ l. place_behind l (homes rs id)) (last-append id front back ∙ ap (λ l. later l (last_of id front)) (sym one_less) ∙ sym (last-append id front (w ∷ back))) ∙ sym (place_was id))
    where
      less : (l : Option Pending) → later l None ≡ l
      less None = refl
      less (Some v) = refl

  -- the row itself
  goes_own : (id : RowId) → id_of w.change ≡ id → KeepsOrEnds mid new id
  unfolding mid
  goes_own id is = by (last_of id (front ++ back)) refl (homes rs id) refl
    where
      here : s.places id ≡ Some w.place
      here = ap s.places (sym is) ∙ placed

      not_placed : AllByRecursion (λ v. is_its id v ≡ false) (front ++ back) → AllByRecursion (λ v. is_place w.place v.place ≡ false) (front ++ back)
      not_placed all = all_both (λ v. is_its id v ≡ false) (λ v. s.places (id_of v.change) ≡ Some v.place) (λ v. is_place w.place v.place ≡ false) (λ v isnt own. elim (cases_Bool (is_place w.place v.place)) [
        | inl there ↦ clash (is_its id v) (is_row-true (id_of v.change) id (h.tied.alone (id_of v.change) id w.place (own ∙ ap (λ (p : Place). Some p) (sym (same_place w.place v.place there))) here)) isnt
        | inr other ↦ other
      ]) (front ++ back) all own_others

      settled : last_of id (front ++ back) ≡ None → (at : Place) → s.places id ≡ Some at → writes_at at new.pending ≡ []
      settled none at there =
          subst (λ p. writes_at p new.pending ≡ []) (same_Some w.place at (sym here ∙ there))
          (ap (writes_at w.place) (is_pending ∙ sym (map-append cell_write front back))
          ∙ filter_no (λ v. is_place w.place v.place) (map cell_write (front ++ back)) (all-over cell_write (λ v. is_place w.place v.place ≡ false) (front ++ back) (not_placed (last-none id (front ++ back) none))))

      no_row : (home : Option Place) → homes rs id ≡ home → home ≡ None → new.rows id ≡ None
      no_row home e none = rows_same id ∙ h.rows id ∙ gone (row_at (rows rs id.0) id.1) (homed rs id ∙ ap is_some (e ∙ none))
        where
          gone : (v : Option (List ℕ)) → is_some v ≡ false → v ≡ None
          gone None e2 = refl
          gone (Some x) e2 = absurd (cc)

      by : (l : Option Pending) → last_of id (front ++ back) ≡ l → (home : Option Place) → homes rs id ≡ home → KeepsOrEnds mid new id
      by (Some v) there home e =
          let own = last-all (λ x. s.places (id_of x.change) ≡ Some x.place) id (front ++ back) v own_others there in
          inl (place_is id ∙ ap (λ l. place_behind l (homes rs id)) there ∙ sym own.0 ∙ ap s.places (same_row (id_of v.change) id own.1))
      by None none (Some p) e = inl (place_is id ∙ ap (λ l. place_behind l (homes rs id)) none ∙ e ∙ sym (h.homes id p e))
      by None none None e = inr (place_is id ∙ ap (λ l. place_behind l (homes rs id)) none ∙ e, no_row None e refl, settled none)

  places_go : (id : RowId) → KeepsOrEnds mid new id
  places_go id = elim (cases_Bool (is_its id w)) [ inl is ↦ goes_own id (same_row (id_of w.change) id is) | inr isnt ↦ goes_other id isnt ]

  -- what is stored after a write is undone is what the log says
  pub holds-undone : Holds (more rs n (undoing (w ∷ []))) new
  unfolding mid
  holds-undone = record {
    tied = ends_places mid new (λ at. refl) refl (λ id. refl) places_go tied_mid;
    pending = is_pending ∙ sym (map-append cell_write front back) ∙ ap (map cell_write) (sym pending-undone);
    rows = λ id. rows_same id ∙ h.rows id ∙ ap (λ es. row_at es id.1) (sym (same_rows id.0));
    places = are_places;
    homes = λ id at e. at_home id at (sym (same_homes id) ∙ e) (places_go id);
  }
    where
      at_home : (id : RowId) (at : Place) → homes rs id ≡ Some at → KeepsOrEnds mid new id → new.places id ≡ Some at
      at_home id at e (inl same) = same ∙ h.homes id at e
      at_home id at e (inr gone) =
          let none : row_at (rows rs id.0) id.1 ≡ None = sym (h.rows id) ∙ sym (rows_same id) ∙ gone.1 in
          let wrong : true ≡ false = sym (homed rs id ∙ ap is_some e) ∙ ap is_some none in
          absurd (cc)
