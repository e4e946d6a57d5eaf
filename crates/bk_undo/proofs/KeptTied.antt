-- Cells, places, pending writes and rows stay tied.
use Rattle.std.proofs.Common.{◌≡◌, ◌≢◌, ◌⊎◌, ℕ, Bool, true, false, not, List, [], ◌∷◌, ◌++◌, Option, Some, None, inl, inr, refl, sym, ◌∙◌, ap, subst}
use Rattle.std.specs.Prelude.{◌==◌, if◌then◌else◌}
use Rattle.std.specs.List.{filter, AllByRecursion}
use Rattle.std.proofs.lemmas.Bool.{eqb-true, eq-eqb, cases_Bool}
use Rattle.std.proofs.lemmas.Option.{same_Some}
use Rattle.bk_bytes.specs.Cell.{Row}
use Rattle.bk_ids.specs.declared.record.CellImage.{CellImage}
use Rattle.bk_ids.specs.declared.record.Place.{Place}
use Rattle.bk_lemmas.specs.Lists.{all_joined, all_filter, all_mapped, all_both, filter_every, filter_no, filter_swap, filter_passed}
use Rattle.bk_lemmas.specs.Tests.{clash}
use Rattle.bk_undo.specs.Cells.{RowId, CellWrite, Stored, Tied, AreRows, IsOwn, WritesRise, LeadsTo, is_place, is_row, value_in, row_in, writes_at, rows_written, nothing_stored}
use Rattle.bk_undo.specs.CellSteps.{SameCells, SamePlaces, SameRows, WritesRow, CommitsRows, UndoesWrite, EndsRollback, LeavesRows, GivesPlace, EndsPlace}
use Rattle.bk_undo.proofs.Ties.{if_true, if_false, none_some, is_place-true, place_cases, row_cases, is_row-true, row_in_own, row_in_free_or, row_in_some, all_without, none_pass, at_more, at_other, at_without_other, at_last, at_front, all_at_without, leads_more, leads_less, led_own, rise_more, rise_filter, rise_without}

-- ---- the beginning and the end

pub begins : Tied nothing_stored
begins = record {
  committed = λ at. None;
  leads = λ at. refl;
  rows = λ id at e. absurd (cc);
  unplaced = λ id e. refl;
  own = λ at row e. absurd (cc);
  written = tt;
  alone = λ id other at e f. absurd (cc);
  single = λ at. (0, tt);
  rise = tt;
}

pub settled : (s : Stored) → Tied s → s.pending ≡ [] → AreRows s
settled s t none = record {
  used = λ at row e.
      let is : t.committed at ≡ Some row = committed at ∙ e in
      let placed : s.places (row.table, row.key) ≡ Some at = t.own at row is in
      (t.rows (row.table, row.key) at placed ∙ ap (λ (cell : Option Row). row_in cell (row.table, row.key)) is ∙ row_in_own row (row.table, row.key) refl, placed);
  there = λ id value e. found id value (s.places id) refl e;
}
  where
    committed : (at : Place) → t.committed at ≡ s.cells at
    committed at = let Leads : List CellWrite → Type 0 = λ ws. LeadsTo (t.committed at) (writes_at at ws) (s.cells at) in subst Leads none (t.leads at)

    found : (id : RowId) (value : List ℕ) (place : Option Place) → s.places id ≡ place → s.rows id ≡ Some value → (at : Place) × (s.places id ≡ Some at) × (s.cells at ≡ Some (record { table = id.0; key = id.1; value = value }))
    found id value None is e = none_some (s.rows id) value (t.unplaced id is) e
    found id value (Some at) is e = (at, is, sym (committed at) ∙ row_in_some (t.committed at) id value (sym (t.rows id at is) ∙ e))

-- ---- what stays where cells, places or rows stay

pub led_to : (cell one two : Option Row) (ws vs : List CellWrite) → vs ≡ ws → two ≡ one → LeadsTo cell ws one → LeadsTo cell vs two
led_to cell one two ws vs same now leads =
    let Writes : List CellWrite → Type 0 = λ xs. LeadsTo cell xs one in
    let Now : Option Row → Type 0 = λ c. LeadsTo cell vs c in
    subst Now (sym now) (subst Writes (sym same) leads)

own_there : (old new : Stored) → SamePlaces old new → (w : CellWrite) → IsOwn old.places w → IsOwn new.places w
own_there old new places w is = record { placed = places w.row ∙ is.placed; holds = is.holds }

own_all : (old new : Stored) → SamePlaces old new → (ws : List CellWrite) → AllByRecursion (IsOwn old.places) ws → AllByRecursion (IsOwn new.places) ws
own_all old new places ws all = all_mapped (IsOwn old.places) (IsOwn new.places) (own_there old new places) ws all

-- places stay, and rows where what is committed stays
pub leaves : (old new : Stored) → SameCells old new → new.pending ≡ old.pending → SamePlaces old new → SameRows old new → Tied old → Tied new
leaves old new cells pending places rows t =
    let Own : List CellWrite → Type 0 = AllByRecursion (IsOwn new.places) in
    record {
      committed = t.committed;
      leads = λ at. led_to (t.committed at) (old.cells at) (new.cells at) (writes_at at old.pending) (writes_at at new.pending) (ap (writes_at at) pending) (cells at) (t.leads at);
      rows = λ id at e. rows id ∙ t.rows id at (sym (places id) ∙ e);
      unplaced = λ id e. rows id ∙ t.unplaced id (sym (places id) ∙ e);
      own = λ at row e. places (row.table, row.key) ∙ t.own at row e;
      written = subst Own (sym pending) (own_all old new places old.pending t.written);
      alone = λ id other at e f. t.alone id other at (sym (places id) ∙ e) (sym (places other) ∙ f);
      single = λ at.
          let All : List CellWrite → Type 0 = λ ws. AllByRecursion (λ (w : CellWrite). w.begin ≡ (t.single at).0) (writes_at at ws) in
          ((t.single at).0, subst All (sym pending) (t.single at).1);
      rise = subst WritesRise (sym pending) t.rise;
    }

pub leaves_all : (old new : Stored) → LeavesRows old new → Tied old → Tied new
leaves_all old new s t = leaves old new s.cells s.pending s.places s.rows t

pub ends_rollback : (begin : ℕ) (old new : Stored) → EndsRollback begin old new → Tied old → Tied new
ends_rollback begin old new s t = leaves old new s.cells s.pending s.places s.rows t

-- ---- a write

pub writes_row : (lsn begin : ℕ) (at : Place) (before after : CellImage) (old new : Stored) → WritesRow lsn begin at before after old new → Tied old → Tied new
writes_row lsn begin at before after old new s t =
    let Own : List CellWrite → Type 0 = AllByRecursion (IsOwn new.places) in
    let own_new : IsOwn new.places write = record { placed = s.places s.row ∙ s.placed; holds = s.holds } in
    record {
      committed = t.committed;
      leads = λ p. leads_at p (place_cases p at);
      rows = λ id p e. s.rows id ∙ t.rows id p (sym (s.places id) ∙ e);
      unplaced = λ id e. s.rows id ∙ t.unplaced id (sym (s.places id) ∙ e);
      own = λ p row e. s.places (row.table, row.key) ∙ t.own p row e;
      written = subst Own (sym s.pending) (all_joined (IsOwn new.places) old.pending (write ∷ []) (own_all old new s.places old.pending t.written) (own_new, tt));
      alone = λ id other p e f. t.alone id other p (sym (s.places id) ∙ e) (sym (s.places other) ∙ f);
      single = λ p. single_at p (place_cases p at);
      rise = subst WritesRise (sym s.pending) (rise_more old.pending write s.later t.rise);
    }
  where
    write : CellWrite
    write = record { lsn = lsn; begin = begin; row = s.row; place = at; before = old.cells at; after = s.cell }

    leads_at : (p : Place) → ((is_place p at ≡ true) × (p ≡ at)) ⊎ ((is_place p at ≡ false) × (p ≢ at)) → LeadsTo (t.committed p) (writes_at p new.pending) (new.cells p)
    leads_at p (inl here) =
        let noted : LeadsTo (t.committed p) (writes_at p old.pending) (old.cells at) =
        led_to (t.committed p) (old.cells p) (old.cells at) (writes_at p old.pending) (writes_at p old.pending) refl (ap old.cells (sym here.1)) (t.leads p) in
        led_to (t.committed p) s.cell (new.cells p) (writes_at p old.pending ++ write ∷ []) (writes_at p new.pending)
        (ap (writes_at p) s.pending ∙ at_more p old.pending write here.0)
        (s.cells p ∙ if_true (is_place p at) s.cell (old.cells p) here.0)
        (leads_more (t.committed p) (writes_at p old.pending) write noted)
    leads_at p (inr other) =
        led_to (t.committed p) (old.cells p) (new.cells p) (writes_at p old.pending) (writes_at p new.pending)
        (ap (writes_at p) s.pending ∙ at_other p old.pending write other.0)
        (s.cells p ∙ if_false (is_place p at) s.cell (old.cells p) other.0)
        (t.leads p)

    single_at : (p : Place) → ((is_place p at ≡ true) × (p ≡ at)) ⊎ ((is_place p at ≡ false) × (p ≢ at)) → (b : ℕ) × AllByRecursion (λ (w : CellWrite). w.begin ≡ b) (writes_at p new.pending)
    single_at p (inl here) =
        let All : List CellWrite → Type 0 = AllByRecursion (λ (w : CellWrite). w.begin ≡ begin) in
        let At : Place → Type 0 = λ q. AllByRecursion (λ (w : CellWrite). w.begin ≡ begin) (writes_at q old.pending) in (
          begin,
          subst All (sym (ap (writes_at p) s.pending ∙ at_more p old.pending write here.0))
              (all_joined (λ w. w.begin ≡ begin) (writes_at p old.pending) (write ∷ []) (subst At (sym here.1) s.unlocked) (refl, tt)),
        )
    single_at p (inr other) =
        let All : List CellWrite → Type 0 = AllByRecursion (λ (w : CellWrite). w.begin ≡ (t.single p).0) in
        ((t.single p).0, subst All (sym (ap (writes_at p) s.pending ∙ at_other p old.pending write other.0)) (t.single p).1)

-- ---- a commit

-- the row at a place once the writes there are committed
rows_led : (places : RowId → Option Place) (id : RowId) (at : Place) → ((other : RowId) → places other ≡ Some at → other ≡ id) → places id ≡ Some at
    → (ws : List CellWrite) → AllByRecursion (IsOwn places) ws → (cell now : Option Row) (rows : RowId → Option (List ℕ)) → LeadsTo cell (writes_at at ws) now → rows id ≡ row_in cell id → rows_written ws rows id ≡ row_in now id
rows_led places id at alone placed [] all cell now rows leads is = is ∙ ap (λ (c : Option Row). row_in c id) leads
rows_led places id at alone placed (w ∷ ws) all cell now rows leads is =
    step (place_cases at w.place) (rows_led places id at alone placed ws all.1)
  where
    more : RowId → Option (List ℕ)
    more = λ other. if is_row w.row other then value_in w.after else rows other

    step : ((is_place at w.place ≡ true) × (at ≡ w.place)) ⊎ ((is_place at w.place ≡ false) × (at ≢ w.place))
        → ((cell now : Option Row) (rows : RowId → Option (List ℕ)) → LeadsTo cell (writes_at at ws) now → rows id ≡ row_in cell id → rows_written ws rows id ≡ row_in now id)
        → rows_written ws more id ≡ row_in now id
    step (inl here) rest =
        let split : writes_at at (w ∷ ws) ≡ w ∷ writes_at at ws = rw here.0 refl in
        let Leads : List CellWrite → Type 0 = λ xs. LeadsTo cell xs now in
        let led : LeadsTo cell (w ∷ writes_at at ws) now = subst Leads split leads in
        let same : w.row ≡ id = alone w.row (all.0.placed ∙ ap (λ (p : Place). Some p) (sym here.1)) in
        rest w.after now more led.1 (if_true (is_row w.row id) (value_in w.after) (rows id) (is_row-true w.row id same) ∙ row_in_free_or w.after w.row id same all.0.holds)
    step (inr other) rest =
        let split : writes_at at (w ∷ ws) ≡ writes_at at ws = rw other.0 refl in
        let Leads : List CellWrite → Type 0 = λ xs. LeadsTo cell xs now in
        let apart : w.row ≢ id = λ e. other.1 (same_Some at w.place (sym placed ∙ ap places (sym e) ∙ all.0.placed)) in
        rest cell now more (subst Leads split leads) (if_false (is_row w.row id) (value_in w.after) (rows id) (not_row w.row id apart) ∙ is)
      where
        not_row : (a b : RowId) → a ≢ b → is_row a b ≡ false
        not_row a b apart = elim (row_cases a b) [ inl is ↦ absurd (apart is.1) | inr isnt ↦ isnt.0 ]

-- a row without a place isn't written
rows_unplaced : (places : RowId → Option Place) (id : RowId) → places id ≡ None → (ws : List CellWrite) → AllByRecursion (IsOwn places) ws → (rows : RowId → Option (List ℕ)) → rows id ≡ None → rows_written ws rows id ≡ None
rows_unplaced places id none [] all rows is = is
rows_unplaced places id none (w ∷ ws) all rows is =
    rows_unplaced places id none ws all.1 (λ other. if is_row w.row other then value_in w.after else rows other)
    (if_false (is_row w.row id) (value_in w.after) (rows id) (elim (row_cases w.row id) [ inl same ↦ none_some (places id) w.place none (ap places (sym same.1) ∙ all.0.placed) | inr apart ↦ apart.0 ]) ∙ is)

pub commits_rows : (begin : ℕ) (old new : Stored) → CommitsRows begin old new → Tied old → Tied new
commits_rows begin old new s t =
    let Own : List CellWrite → Type 0 = AllByRecursion (IsOwn new.places) in
    record {
      committed = committed;
      leads = λ at. leads_at at (cases_Bool (mine at));
      rows = λ id at e. s.rows id ∙ rows_at id at (sym (s.places id) ∙ e) (cases_Bool (mine at));
      unplaced = λ id e. s.rows id ∙ rows_unplaced old.places id (sym (s.places id) ∙ e) (filter is_its old.pending) (all_filter (IsOwn old.places) is_its old.pending t.written) old.rows (t.unplaced id (sym (s.places id) ∙ e));
      own = λ at row e. s.places (row.table, row.key) ∙ own_at at row (cases_Bool (mine at)) e;
      written = subst Own (sym s.pending) (all_filter (IsOwn new.places) is_other old.pending (own_all old new s.places old.pending t.written));
      alone = λ id other at e f. t.alone id other at (sym (s.places id) ∙ e) (sym (s.places other) ∙ f);
      single = λ at.
          let All : List CellWrite → Type 0 = AllByRecursion (λ (w : CellWrite). w.begin ≡ (t.single at).0) in
          ((t.single at).0, subst All (sym (left at)) (all_filter (λ w. w.begin ≡ (t.single at).0) is_other (writes_at at old.pending) (t.single at).1));
      rise = subst WritesRise (sym s.pending) (rise_filter is_other old.pending t.rise);
    }
  where
    is_its : CellWrite → Bool
    is_its = λ w. w.begin == begin

    is_other : CellWrite → Bool
    is_other = λ w. not (w.begin == begin)

    -- whether what is pending at a place is this transaction's
    mine : Place → Bool
    mine = λ at. (t.single at).0 == begin

    committed : Place → Option Row
    committed = λ at. if mine at then old.cells at else t.committed at

    left : (at : Place) → writes_at at new.pending ≡ filter is_other (writes_at at old.pending)
    left at = ap (writes_at at) s.pending ∙ filter_swap (λ w. is_place at w.place) is_other old.pending

    all_its : (at : Place) → mine at ≡ true → AllByRecursion (λ (w : CellWrite). is_its w ≡ true) (writes_at at old.pending)
    all_its at is = all_mapped (λ w. w.begin ≡ (t.single at).0) (λ w. is_its w ≡ true) (λ w e. eq-eqb w.begin begin (e ∙ eqb-true (t.single at).0 begin is)) (writes_at at old.pending) (t.single at).1

    all_others : (at : Place) → mine at ≡ false → AllByRecursion (λ (w : CellWrite). is_its w ≡ false) (writes_at at old.pending)
    all_others at isnt = all_mapped (λ w. w.begin ≡ (t.single at).0) (λ w. is_its w ≡ false) (λ w e. ap (λ (n : ℕ). n == begin) e ∙ isnt) (writes_at at old.pending) (t.single at).1

    its_at : (at : Place) → mine at ≡ true → writes_at at (filter is_its old.pending) ≡ writes_at at old.pending
    its_at at is = filter_swap (λ w. is_place at w.place) is_its old.pending ∙ filter_every is_its (writes_at at old.pending) (all_its at is)

    none_its : (at : Place) → mine at ≡ false → writes_at at (filter is_its old.pending) ≡ []
    none_its at isnt = filter_swap (λ w. is_place at w.place) is_its old.pending ∙ filter_no is_its (writes_at at old.pending) (all_others at isnt)

    leads_at : (at : Place) → (mine at ≡ true) ⊎ (mine at ≡ false) → LeadsTo (committed at) (writes_at at new.pending) (new.cells at)
    leads_at at (inl is) =
        let none : writes_at at new.pending ≡ [] = left at ∙ filter_no is_other (writes_at at old.pending) (all_mapped (λ w. is_its w ≡ true) (λ w. is_other w ≡ false) (λ w e. ap not e) (writes_at at old.pending) (all_its at is)) in
        led_to (committed at) (committed at) (new.cells at) [] (writes_at at new.pending) none (s.cells at ∙ sym (if_true (mine at) (old.cells at) (t.committed at) is)) refl
    leads_at at (inr isnt) =
        let same : writes_at at new.pending ≡ writes_at at old.pending = left at ∙ filter_every is_other (writes_at at old.pending) (all_mapped (λ w. is_its w ≡ false) (λ w. is_other w ≡ true) (λ w e. ap not e) (writes_at at old.pending) (all_others at isnt)) in
        let From : Option Row → Type 0 = λ c. LeadsTo c (writes_at at new.pending) (new.cells at) in
        subst From (sym (if_false (mine at) (old.cells at) (t.committed at) isnt))
        (led_to (t.committed at) (old.cells at) (new.cells at) (writes_at at old.pending) (writes_at at new.pending) same (s.cells at) (t.leads at))

    led : (id : RowId) (at : Place) → old.places id ≡ Some at → (now : Option Row) → LeadsTo (t.committed at) (writes_at at (filter is_its old.pending)) now → rows_written (filter is_its old.pending) old.rows id ≡ row_in now id
    led id at placed now leads =
        rows_led old.places id at (λ other e. t.alone other id at e placed) placed (filter is_its old.pending) (all_filter (IsOwn old.places) is_its old.pending t.written) (t.committed at) now old.rows leads (t.rows id at placed)

    rows_at : (id : RowId) (at : Place) → old.places id ≡ Some at → (mine at ≡ true) ⊎ (mine at ≡ false) → rows_written (filter is_its old.pending) old.rows id ≡ row_in (committed at) id
    rows_at id at placed (inl is) =
        led id at placed (old.cells at) (led_to (t.committed at) (old.cells at) (old.cells at) (writes_at at old.pending) (writes_at at (filter is_its old.pending)) (its_at at is) refl (t.leads at))
        ∙ ap (λ (c : Option Row). row_in c id) (sym (if_true (mine at) (old.cells at) (t.committed at) is))
    rows_at id at placed (inr isnt) =
        led id at placed (t.committed at) (led_to (t.committed at) (t.committed at) (t.committed at) [] (writes_at at (filter is_its old.pending)) (none_its at isnt) refl refl)
        ∙ ap (λ (c : Option Row). row_in c id) (sym (if_false (mine at) (old.cells at) (t.committed at) isnt))

    own_at : (at : Place) (row : Row) → (mine at ≡ true) ⊎ (mine at ≡ false) → committed at ≡ Some row → old.places (row.table, row.key) ≡ Some at
    own_at at row (inl is) e =
        led_own old.places at (t.committed at) (old.cells at) (writes_at at old.pending) (t.own at) (all_filter (IsOwn old.places) (λ w. is_place at w.place) old.pending t.written) (filter_passed (λ w. is_place at w.place) old.pending) (t.leads at) row
        (sym (if_true (mine at) (old.cells at) (t.committed at) is) ∙ e)
    own_at at row (inr isnt) e = t.own at row (sym (if_false (mine at) (old.cells at) (t.committed at) isnt) ∙ e)

-- ---- a compensation

pub undoes_write : (begin : ℕ) (at : Place) (image : CellImage) (undone : ℕ) (old new : Stored) → UndoesWrite begin at image undone old new → Tied old → Tied new
undoes_write begin at image undone old new s t =
    let Own : List CellWrite → Type 0 = AllByRecursion (IsOwn new.places) in
    let own_old : AllByRecursion (IsOwn new.places) (s.front ++ s.write ∷ s.back) = subst Own s.whole (own_all old new s.places old.pending t.written) in
    record {
      committed = t.committed;
      leads = λ p. leads_at p (place_cases p at);
      rows = λ id p e. s.rows id ∙ t.rows id p (sym (s.places id) ∙ e);
      unplaced = λ id e. s.rows id ∙ t.unplaced id (sym (s.places id) ∙ e);
      own = λ p row e. s.places (row.table, row.key) ∙ t.own p row e;
      written = subst Own (sym s.pending) (all_without (IsOwn new.places) s.front s.write s.back own_old);
      alone = λ id other p e f. t.alone id other p (sym (s.places id) ∙ e) (sym (s.places other) ∙ f);
      single = λ p.
          let All : List CellWrite → Type 0 = λ ws. AllByRecursion (λ (w : CellWrite). w.begin ≡ (t.single p).0) (writes_at p ws) in
          ((t.single p).0, subst All (sym s.pending) (all_at_without (λ w. w.begin ≡ (t.single p).0) p s.front s.write s.back (subst All s.whole (t.single p).1)));
      rise = subst WritesRise (sym s.pending) (rise_without s.front s.write s.back (subst WritesRise s.whole t.rise));
    }
  where
    leads_at : (p : Place) → ((is_place p at ≡ true) × (p ≡ at)) ⊎ ((is_place p at ≡ false) × (p ≢ at)) → LeadsTo (t.committed p) (writes_at p new.pending) (new.cells p)
    leads_at p (inl here) =
        let At : Place → Type 0 = λ q. writes_at q s.back ≡ [] in
        let none : writes_at p s.back ≡ [] = subst At (sym here.1) (filter_no (λ w. is_place at w.place) s.back s.last) in
        let is : is_place p s.write.place ≡ true = is_place-true p s.write.place (here.1 ∙ sym s.place) in
        let before : LeadsTo (t.committed p) (writes_at p s.front ++ s.write ∷ []) (old.cells p) =
        led_to (t.committed p) (old.cells p) (old.cells p) (writes_at p old.pending) (writes_at p s.front ++ s.write ∷ []) (sym (ap (writes_at p) s.whole ∙ at_last p s.front s.write s.back is none)) refl (t.leads p) in
        led_to (t.committed p) s.write.before (new.cells p) (writes_at p s.front) (writes_at p new.pending)
        (ap (writes_at p) s.pending ∙ at_front p s.front s.back none)
        (s.cells p ∙ if_true (is_place p at) s.write.before (old.cells p) here.0)
        (leads_less (t.committed p) (old.cells p) (writes_at p s.front) s.write before)
    leads_at p (inr other) =
        let isnt : is_place p s.write.place ≡ false = ap (is_place p) s.place ∙ other.0 in
        led_to (t.committed p) (old.cells p) (new.cells p) (writes_at p old.pending) (writes_at p new.pending)
        (ap (writes_at p) s.pending ∙ sym (at_without_other p s.front s.write s.back isnt) ∙ sym (ap (writes_at p) s.whole))
        (s.cells p ∙ if_false (is_place p at) s.write.before (old.cells p) other.0)
        (t.leads p)

-- ---- places

pub gives_place : (row : RowId) (at : Place) (old new : Stored) → GivesPlace row at old new → Tied old → Tied new
gives_place row at old new s t =
    let Own : List CellWrite → Type 0 = AllByRecursion (IsOwn new.places) in
    record {
      committed = t.committed;
      leads = λ p. led_to (t.committed p) (old.cells p) (new.cells p) (writes_at p old.pending) (writes_at p new.pending) (ap (writes_at p) s.pending) (s.cells p) (t.leads p);
      rows = λ id p e. s.rows id ∙ rows_at id p (row_cases row id) e;
      unplaced = λ id e. s.rows id ∙ unplaced_at id (row_cases row id) e;
      own = λ p r e. own_at p r (row_cases row (r.table, r.key)) (t.own p r e);
      written = subst Own (sym s.pending) (all_mapped (IsOwn old.places) (IsOwn new.places) (λ w is. record { placed = same_at w.row w.place (row_cases row w.row) is.placed; holds = is.holds }) old.pending t.written);
      alone = λ id other p e f. alone_at id other p (row_cases row id) (row_cases row other) e f;
      single = λ p.
          let All : List CellWrite → Type 0 = λ ws. AllByRecursion (λ (w : CellWrite). w.begin ≡ (t.single p).0) (writes_at p ws) in
          ((t.single p).0, subst All (sym s.pending) (t.single p).1);
      rise = subst WritesRise (sym s.pending) t.rise;
    }
  where
    Cases : RowId → Type 0
    Cases = λ id. ((is_row row id ≡ true) × (row ≡ id)) ⊎ ((is_row row id ≡ false) × (row ≢ id))

    here : (id : RowId) → is_row row id ≡ true → new.places id ≡ Some at
    here id is = s.places id ∙ if_true (is_row row id) (Some at) (old.places id) is

    there : (id : RowId) → is_row row id ≡ false → new.places id ≡ old.places id
    there id isnt = s.places id ∙ if_false (is_row row id) (Some at) (old.places id) isnt

    -- nothing is committed there
    empty : (cell : Option Row) → t.committed at ≡ cell → cell ≡ None
    empty None e = refl
    empty (Some r) e = absurd (s.unowned (r.table, r.key) (t.own at r e))

    rows_at : (id : RowId) (p : Place) → Cases id → new.places id ≡ Some p → old.rows id ≡ row_in (t.committed p) id
    rows_at id p (inl is) e =
        let same : p ≡ at = same_Some p at (sym e ∙ here id is.0) in
        let none : t.committed p ≡ None = ap t.committed same ∙ empty (t.committed at) refl in
        t.unplaced id (ap old.places (sym is.1) ∙ s.none) ∙ ap (λ (c : Option Row). row_in c id) (sym none)
    rows_at id p (inr isnt) e = t.rows id p (sym (there id isnt.0) ∙ e)

    unplaced_at : (id : RowId) → Cases id → new.places id ≡ None → old.rows id ≡ None
    unplaced_at id (inl is) e = none_some (new.places id) at e (here id is.0)
    unplaced_at id (inr isnt) e = t.unplaced id (sym (there id isnt.0) ∙ e)

    same_at : (id : RowId) (p : Place) → Cases id → old.places id ≡ Some p → new.places id ≡ Some p
    same_at id p (inl is) e = none_some (old.places id) p (ap old.places (sym is.1) ∙ s.none) e
    same_at id p (inr isnt) e = there id isnt.0 ∙ e

    own_at : (p : Place) (r : Row) → Cases (r.table, r.key) → old.places (r.table, r.key) ≡ Some p → new.places (r.table, r.key) ≡ Some p
    own_at p r cases e = same_at (r.table, r.key) p cases e

    alone_at : (id other : RowId) (p : Place) → Cases id → Cases other → new.places id ≡ Some p → new.places other ≡ Some p → id ≡ other
    alone_at id other p (inl is) (inl also) e f = sym is.1 ∙ also.1
    alone_at id other p (inl is) (inr isnt) e f =
        absurd (s.unowned other (sym (there other isnt.0) ∙ f ∙ sym e ∙ here id is.0))
    alone_at id other p (inr isnt) (inl is) e f =
        absurd (s.unowned id (sym (there id isnt.0) ∙ e ∙ sym f ∙ here other is.0))
    alone_at id other p (inr isnt) (inr also) e f = t.alone id other p (sym (there id isnt.0) ∙ e) (sym (there other also.0) ∙ f)

pub ends_place : (row : RowId) (at : Place) (old new : Stored) → EndsPlace row at old new → Tied old → Tied new
ends_place row at old new s t =
    let Own : List CellWrite → Type 0 = AllByRecursion (IsOwn new.places) in
    record {
      committed = t.committed;
      leads = λ p. led_to (t.committed p) (old.cells p) (new.cells p) (writes_at p old.pending) (writes_at p new.pending) (ap (writes_at p) s.pending) (s.cells p) (t.leads p);
      rows = λ id p e. s.rows id ∙ t.rows id p (old_at id p (row_cases row id) e);
      unplaced = λ id e. s.rows id ∙ unplaced_at id (row_cases row id) e;
      own = λ p r e. own_at p r (row_cases row (r.table, r.key)) e;
      written = subst Own (sym s.pending) (all_both (IsOwn old.places) (λ w. is_place at w.place ≡ false) (IsOwn new.places) (λ w is apart. record { placed = written_at w.row w.place (row_cases row w.row) apart is.placed; holds = is.holds }) old.pending t.written (none_pass (λ w. is_place at w.place) old.pending s.settled));
      alone = λ id other p e f. t.alone id other p (old_at id p (row_cases row id) e) (old_at other p (row_cases row other) f);
      single = λ p.
          let All : List CellWrite → Type 0 = λ ws. AllByRecursion (λ (w : CellWrite). w.begin ≡ (t.single p).0) (writes_at p ws) in
          ((t.single p).0, subst All (sym s.pending) (t.single p).1);
      rise = subst WritesRise (sym s.pending) t.rise;
    }
  where
    Cases : RowId → Type 0
    Cases = λ id. ((is_row row id ≡ true) × (row ≡ id)) ⊎ ((is_row row id ≡ false) × (row ≢ id))

    gone : (id : RowId) → is_row row id ≡ true → new.places id ≡ None
    gone id is = s.places id ∙ if_true (is_row row id) None (old.places id) is

    there : (id : RowId) → is_row row id ≡ false → new.places id ≡ old.places id
    there id isnt = s.places id ∙ if_false (is_row row id) None (old.places id) isnt

    old_at : (id : RowId) (p : Place) → Cases id → new.places id ≡ Some p → old.places id ≡ Some p
    old_at id p (inl is) e = none_some (new.places id) p (gone id is.0) e
    old_at id p (inr isnt) e = sym (there id isnt.0) ∙ e

    unplaced_at : (id : RowId) → Cases id → new.places id ≡ None → old.rows id ≡ None
    unplaced_at id (inl is) e = ap old.rows (sym is.1) ∙ s.no_row
    unplaced_at id (inr isnt) e = t.unplaced id (sym (there id isnt.0) ∙ e)

    own_at : (p : Place) (r : Row) → Cases (r.table, r.key) → t.committed p ≡ Some r → new.places (r.table, r.key) ≡ Some p
    own_at p r (inl is) e =
        let placed : old.places (r.table, r.key) ≡ Some p = t.own p r e in
        let there_is : old.rows (r.table, r.key) ≡ Some r.value = t.rows (r.table, r.key) p placed ∙ ap (λ (c : Option Row). row_in c (r.table, r.key)) e ∙ row_in_own r (r.table, r.key) refl in
        none_some (old.rows (r.table, r.key)) r.value (ap old.rows (sym is.1) ∙ s.no_row) there_is
    own_at p r (inr isnt) e = there (r.table, r.key) isnt.0 ∙ t.own p r e

    written_at : (id : RowId) (p : Place) → Cases id → is_place at p ≡ false → old.places id ≡ Some p → new.places id ≡ Some p
    written_at id p (inl is) apart e =
        let same : at ≡ p = same_Some at p (sym s.placed ∙ ap old.places is.1 ∙ e) in
        clash (is_place at p) (is_place-true at p same) apart
    written_at id p (inr isnt) apart e = there id isnt.0 ∙ e
