-- Rows that give up their places together.
use Rattle.std.proofs.Common.{◌≡◌, ◌≢◌, ◌⊎◌, true, List, [], ◌∷◌, ◌++◌, Option, Some, None, inl, inr, refl, sym, ◌∙◌, ap, subst, append_assoc}
use Rattle.std.specs.List.{AllByRecursion}
use Rattle.std.proofs.lemmas.List.Elements.{filter-append}
use Rattle.bk_bytes.specs.Cell.{Row}
use Rattle.bk_ids.specs.declared.record.Place.{Place}
use Rattle.bk_lemmas.specs.Lists.{all_both}
use Rattle.bk_undo.specs.CellSteps.{SameCells, SameRows}
use Rattle.bk_world.specs.Records.{RowId}
use Rattle.bk_undo.specs.Cells.{CellWrite, IsOwn, Stored, Tied, WritesRise, is_place, row_in, writes_at}
use Rattle.bk_undo.proofs.KeptTied.{led_to}
use Rattle.bk_undo.proofs.Ties.{is_place-true, none_some, row_in_own}

-- a row keeps its place, or gives it up: then it isn't committed, and no write is pending there
abbrev pub KeepsOrEnds : Stored → Stored → RowId → Type 0
KeepsOrEnds old new id = (new.places id ≡ old.places id) ⊎ ((new.places id ≡ None) × (old.rows id ≡ None) × ((at : Place) → old.places id ≡ Some at → writes_at at old.pending ≡ []))

-- each write is one at its place
at_itself : (front ws : List CellWrite) → AllByRecursion (λ w. writes_at w.place (front ++ ws) ≢ []) ws
at_itself front [] = tt
at_itself front (w ∷ ws) = (λ none. some (writes_at w.place front) (sym split ∙ none), subst (λ all. AllByRecursion (λ v. writes_at v.place all ≢ []) ws) (append_assoc front (w ∷ []) ws) (at_itself (front ++ w ∷ []) ws))
  where
    here : writes_at w.place (w ∷ ws) ≡ w ∷ writes_at w.place ws
    here = let is : is_place w.place w.place ≡ true = is_place-true w.place w.place refl in rw is refl

    split : writes_at w.place (front ++ w ∷ ws) ≡ writes_at w.place front ++ w ∷ writes_at w.place ws
    split = filter-append (λ v. is_place w.place v.place) front (w ∷ ws) ∙ ap (λ rest. writes_at w.place front ++ rest) here

    some : (xs : List CellWrite) → xs ++ w ∷ writes_at w.place ws ≡ [] → ⊥
    some [] e = cc
    some (x ∷ xs) e = cc

pub ends_places : (old new : Stored) → SameCells old new → new.pending ≡ old.pending → SameRows old new → ((id : RowId) → KeepsOrEnds old new id) → Tied old → Tied new
ends_places old new cells pending rows places t =
    let Own : List CellWrite → Type 0 = AllByRecursion (IsOwn new.places) in
    record {
      committed = t.committed;
      leads = λ p. led_to (t.committed p) (old.cells p) (new.cells p) (writes_at p old.pending) (writes_at p new.pending) (ap (writes_at p) pending) (cells p) (t.leads p);
      rows = λ id p e. rows id ∙ t.rows id p (old_at id p (places id) e);
      unplaced = λ id e. rows id ∙ unplaced_at id (places id) e;
      own = λ p r e. own_at p r (places (r.table, r.key)) e;
      written = subst Own (sym pending) (all_both (IsOwn old.places) (λ w. writes_at w.place old.pending ≢ []) (IsOwn new.places)
          (λ w is there. record { placed = written_at w (places w.row) there is.placed; holds = is.holds }) old.pending t.written (at_itself [] old.pending));
      alone = λ id other p e f. t.alone id other p (old_at id p (places id) e) (old_at other p (places other) f);
      single = λ p.
          let All : List CellWrite → Type 0 = λ ws. AllByRecursion (λ (w : CellWrite). w.begin ≡ (t.single p).0) (writes_at p ws) in
          ((t.single p).0, subst All (sym pending) (t.single p).1);
      rise = subst WritesRise (sym pending) t.rise;
    }
  where
    old_at : (id : RowId) (p : Place) → KeepsOrEnds old new id → new.places id ≡ Some p → old.places id ≡ Some p
    old_at id p (inl same) e = sym same ∙ e
    old_at id p (inr gone) e = none_some (new.places id) p gone.0 e

    unplaced_at : (id : RowId) → KeepsOrEnds old new id → new.places id ≡ None → old.rows id ≡ None
    unplaced_at id (inl same) e = t.unplaced id (sym same ∙ e)
    unplaced_at id (inr gone) e = gone.1

    own_at : (p : Place) (r : Row) → KeepsOrEnds old new (r.table, r.key) → t.committed p ≡ Some r → new.places (r.table, r.key) ≡ Some p
    own_at p r (inl same) e = same ∙ t.own p r e
    own_at p r (inr gone) e =
        let there : old.rows (r.table, r.key) ≡ Some r.value = t.rows (r.table, r.key) p (t.own p r e) ∙ ap (λ (c : Option Row). row_in c (r.table, r.key)) e ∙ row_in_own r (r.table, r.key) refl in
        none_some (old.rows (r.table, r.key)) r.value gone.1 there

    written_at : (w : CellWrite) → KeepsOrEnds old new w.row → writes_at w.place old.pending ≢ [] → old.places w.row ≡ Some w.place → new.places w.row ≡ Some w.place
    written_at w (inl same) there e = same ∙ e
    written_at w (inr gone) there e = absurd (there (gone.2 w.place e))
