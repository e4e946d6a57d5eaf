-- A write keeps what a store holds what its log says.
use Rattle.std.proofs.Common.{◌≡◌, ◌≢◌, ◌⊎◌, ◌<◌, ℕ, Bool, true, false, not, cond, List, [], ◌∷◌, ◌++◌, map, Option, Some, None, inl, inr, refl, sym, ◌∙◌, ap, subst}
use Rattle.std.specs.Prelude.{◌==◌, if◌then◌else◌}
use Rattle.std.specs.List.{filter, AllByRecursion}
use Rattle.std.proofs.lemmas.List.{map-append, append-nil}
use Rattle.std.proofs.lemmas.Bool.{eq-eqb}
use Rattle.bk_bytes.specs.Cell.{Row, cell_bytes}
use Rattle.bk_ids.specs.declared.record.Place.{Place}
use Rattle.bk_world.specs.Entry.{RowChange}
use Rattle.bk_world.specs.Rows.{rows_of}
use Rattle.bk_world.specs.Records.{Logged, RowId, id_of, is_row, more, numbered}
use Rattle.bk_lemmas.specs.Lists.{all_both, all_mapped, filter_no, filter_swap}
use Rattle.bk_undo.specs.Cells.{CellWrite, IsFreeOr, IsOwn, LeadsTo, Stored, Tied, is_place, row_in, rows_written, writes_at}
use Rattle.bk_undo.proofs.Ties.{filter_mapped, if_false, if_true, is_row-true, none_at, none_some, row_in_own, row_in_some, same_place, same_row}
use Rattle.std.proofs.lemmas.Bool.{cases_Bool}
use Rattle.bk_undo.proofs.KeptTied.{commits_rows, gives_place, leaves, writes_row}
use Rattle.bk_undo.specs.Spelled.{cell, image}
use Rattle.bk_world.specs.Pending.{Pending, changes_of, of_transaction, pending}
use Rattle.bk_world.specs.Telling.{entries, row_at, rows, seen}
use Rattle.bk_world.specs.Places.{homes, last_of, later, place_behind, place_of}
use Rattle.bk_world.specs.Says.{write_said}
use Rattle.bk_undo.specs.Holds.{Holds, cell_write, wrote}
use Rattle.bk_world.specs.SoundLogs.{MayWrite}
use Rattle.bk_world.specs.ReadingLaws.{entries-more, homes-more, pending-more}
use Rattle.bk_world.specs.RowLaws.{rise-rows, row-changed, value_behind}
use Rattle.bk_undo.proofs.CellValues.{written-behind}
use Rattle.bk_world.specs.LastLaws.{is_its, last-more, one}

pub all-filtered : {X : Type 0} (p : X → Bool) (Q : X → Type 0) (xs : List X) → AllByRecursion (λ x. p x ≡ true → Q x) xs → AllByRecursion Q (filter p xs)
all-filtered p Q [] all = tt
all-filtered {X} p Q (x ∷ xs) all = by (p x) refl (all-filtered p Q xs all.1)
  where
    by : (t : Bool) → p x ≡ t → AllByRecursion Q (filter p xs) → AllByRecursion Q (cond t (x ∷ filter p xs) (filter p xs))
    by true is rest = (all.0 is, rest)
    by false isnt rest = rest

pub all-over : {X Y : Type 0} (f : X → Y) (P : Y → Type 0) (xs : List X) → AllByRecursion (λ x. P (f x)) xs → AllByRecursion P (map f xs)
all-over f P [] all = tt
all-over f P (x ∷ xs) all = (all.0, all-over f P xs all.1)

-- ---- what a transaction sees is what lies in the cells

module _ (rs : List Logged) (s : Stored) (h : Holds rs s) (begin : ℕ) where
  -- if the transaction were committed
  then_stored : Stored
  then_stored = record s { pending = filter (λ w. not (w.begin == begin)) s.pending; rows = λ id. rows_written (filter (λ w. w.begin == begin) s.pending) s.rows id }

  then_tied : Tied then_stored
  unfolding then_stored
  then_tied = commits_rows begin s then_stored (record { pending = refl; rows = λ id. refl; cells = λ at. refl; places = λ id. refl }) h.tied

  seen_is : (id : RowId) → rows_written (filter (λ w. w.begin == begin) s.pending) s.rows id ≡ row_at (seen rs begin id.0) id.1
  unfolding seen
  seen_is id =
      ap (λ ws. rows_written ws s.rows id) (ap (filter (λ w. w.begin == begin)) h.pending ∙ filter_mapped cell_write (λ w. w.begin == begin) (λ w. w.begin == begin) (λ w. refl) (pending rs))
      ∙ written-behind (of_transaction begin (pending rs)) s.rows id
      ∙ ap (value_behind id (changes_of (of_transaction begin (pending rs)))) (h.rows id)
      ∙ sym (row-changed id.0 id.1 (rows rs id.0) (changes_of (of_transaction begin (pending rs))) (rise-rows rs id.0))

  -- what is pending at the place of a row that no other transaction writes is this transaction's
  at_place : (id : RowId) (at : Place) → s.places id ≡ Some at → AllByRecursion (λ w. is_its id w ≡ true → w.begin ≡ begin) (pending rs) → AllByRecursion (λ w. w.begin ≡ begin) (writes_at at s.pending)
  at_place id at placed unlocked =
      all-filtered (λ w. is_place at w.place) (λ w. w.begin ≡ begin) s.pending
      (all_both (IsOwn s.places) (λ w. is_row w.row id ≡ true → w.begin ≡ begin) (λ w. is_place at w.place ≡ true → w.begin ≡ begin)
      (λ w own its here. its (is_row-true w.row id (h.tied.alone w.row id at (own.placed ∙ ap (λ (p : Place). Some p) (sym (same_place at w.place here))) placed)))
      s.pending h.tied.written (subst (AllByRecursion (λ w. is_row w.row id ≡ true → w.begin ≡ begin)) (sym h.pending) (all-over cell_write (λ w. is_row w.row id ≡ true → w.begin ≡ begin) (pending rs) unlocked)))

  pub cell-seen : (id : RowId) (at : Place) → s.places id ≡ Some at → AllByRecursion (λ w. is_its id w ≡ true → w.begin ≡ begin) (pending rs) → s.cells at ≡ cell id.0 id.1 (row_at (seen rs begin id.0) id.1)
  unfolding then_stored
  cell-seen id at placed unlocked =
      by (s.cells at) refl (row_at (seen rs begin id.0) id.1) refl
    where
      none : writes_at at (filter (λ w. not (w.begin == begin)) s.pending) ≡ []
      none = filter_swap (λ w. is_place at w.place) (λ w. not (w.begin == begin)) s.pending
          ∙ filter_no (λ w. not (w.begin == begin)) (writes_at at s.pending) (all_mapped (λ w. w.begin ≡ begin) (λ w. not (w.begin == begin) ≡ false) (λ w e. ap not (eq-eqb w.begin begin e)) (writes_at at s.pending) (at_place id at placed unlocked))

      committed : then_tied.committed at ≡ s.cells at
      committed = let Leads : List CellWrite → Type 0 = λ ws. LeadsTo (then_tied.committed at) ws (s.cells at) in subst Leads none (then_tied.leads at)

      value : row_in (s.cells at) id ≡ row_at (seen rs begin id.0) id.1
      value = ap (λ (c : Option Row). row_in c id) (sym committed) ∙ sym (then_tied.rows id at placed) ∙ seen_is id

      by : (c : Option Row) → s.cells at ≡ c → (v : Option (List ℕ)) → row_at (seen rs begin id.0) id.1 ≡ v → s.cells at ≡ cell id.0 id.1 (row_at (seen rs begin id.0) id.1)
      by c is (Some v) e = row_in_some (s.cells at) id v (value ∙ e) ∙ ap (cell id.0 id.1) (sym e)
      by None is None e = is ∙ ap (cell id.0 id.1) (sym e)
      by (Some row) is None e =
          let mine : (row.table, row.key) ≡ id = h.tied.alone (row.table, row.key) id at (then_tied.own at row (committed ∙ is)) placed in
          let there : row_in (s.cells at) id ≡ Some row.value = ap (λ (c : Option Row). row_in c id) is ∙ row_in_own row id mine in
          none_some (row_in (s.cells at) id) row.value (value ∙ e) there

  pub none-seen : (id : RowId) → s.places id ≡ None → row_at (seen rs begin id.0) id.1 ≡ None
  unfolding then_stored
  none-seen id none = sym (seen_is id) ∙ then_tied.unplaced id none

-- ---- the write

cell_own : (table key : ℕ) (v : Option (List ℕ)) → IsFreeOr (table, key) (cell table key v)
cell_own table key None = tt
cell_own table key (Some v) = refl

module _ (rs : List Logged) (n begin : ℕ) (at : Place) (before : Option (List ℕ)) (c : RowChange) (s : Stored) (h : Holds rs s) (may : MayWrite rs n begin at before c) (below : AllByRecursion (λ w. w.lsn < n) (pending rs)) where
  write : Pending
  write = record { lsn = n; begin = begin; place = at; before = before; change = c; extents = [] }

  -- the place is given first
  placed : Stored
  placed = record s { places = λ id. if is_row (id_of c) id then Some at else s.places id }

  new : Stored
  new = wrote s n begin at before c

  later_all : AllByRecursion (λ w. w.lsn < n) s.pending
  later_all = subst (AllByRecursion (λ w. w.lsn < n)) (sym h.pending) (all-over cell_write (λ w. w.lsn < n) (pending rs) below)

  -- from a store in which the row has the place
  from_placed : Tied placed → s.cells at ≡ cell c.table c.key before → AllByRecursion (λ w. w.begin ≡ begin) (writes_at at s.pending) → Tied new
  unfolding placed new wrote
  from_placed t noted unlocked = writes_row n begin at (image c.table c.key before) (image c.table c.key c.value) placed new (record {
    row = id_of c;
    cell = cell c.table c.key c.value;
    noted = ap (λ (x : Option Row). record { bytes = cell_bytes x }) (sym noted);
    left = refl;
    placed = if_true (is_row (id_of c) (id_of c)) (Some at) (s.places (id_of c)) (is_row-true (id_of c) (id_of c) refl);
    holds = cell_own c.table c.key c.value;
    unlocked = unlocked;
    later = later_all;
    cells = λ p. refl;
    pending = ap (λ (x : Option Row). s.pending ++ (record { lsn = n; begin = begin; row = id_of c; place = at; before = x; after = cell c.table c.key c.value }) ∷ []) (sym noted);
    places = λ id. refl;
    rows = λ id. refl;
  }) t

  -- the places are those that there were where the row has its own
  tied_own : s.places (id_of c) ≡ Some at → Tied new
  unfolding placed
  tied_own own =
      let same : (id : RowId) → placed.places id ≡ s.places id = λ id. kept id (cases_Bool (is_row (id_of c) id)) in
      from_placed (leaves s placed (λ p. refl) refl same (λ id. refl) h.tied)
      (cell-seen rs s h begin (id_of c) at own may.unlocked ∙ ap (cell c.table c.key) (sym may.noted))
      (at_place rs s h begin (id_of c) at own may.unlocked)
    where
      kept : (id : RowId) → (is_row (id_of c) id ≡ true) ⊎ (is_row (id_of c) id ≡ false) → (if is_row (id_of c) id then Some at else s.places id) ≡ s.places id
      kept id (inl is) = if_true (is_row (id_of c) id) (Some at) (s.places id) is ∙ sym own ∙ ap s.places (same_row (id_of c) id is)
      kept id (inr isnt) = if_false (is_row (id_of c) id) (Some at) (s.places id) isnt

  -- a row without a place gets one that no row has
  tied_free : s.places (id_of c) ≡ None → ((id : RowId) → s.places id ≢ Some at) → Tied new
  unfolding placed
  tied_free none free =
      from_placed (gives_place (id_of c) at s placed (record { none = none; free = empty; unowned = free; cells = λ p. refl; pending = refl; places = λ id. refl; rows = λ id. refl }) h.tied)
      (empty ∙ ap (cell c.table c.key) (sym (may.noted ∙ none-seen rs s h begin (id_of c) none)))
      (subst (AllByRecursion (λ w. w.begin ≡ begin)) (sym unwritten) tt)
    where
      unwritten : writes_at at s.pending ≡ []
      unwritten = none_at s.places at s.pending h.tied.written free

      uncommitted : (x : Option Row) → h.tied.committed at ≡ x → h.tied.committed at ≡ None
      uncommitted None e = e
      uncommitted (Some row) e = absurd (free (row.table, row.key) (h.tied.own at row e))

      empty : s.cells at ≡ None
      empty = let Leads : List CellWrite → Type 0 = λ ws. LeadsTo (h.tied.committed at) ws (s.cells at) in
          sym (subst Leads unwritten (h.tied.leads at)) ∙ uncommitted (h.tied.committed at) refl

  pending_is : pending (more rs n (write_said begin at before c)) ≡ pending rs ++ write ∷ []
  unfolding write
  pending_is = pending-more rs (numbered n (write_said begin at before c))

  -- what is stored after a write is what the log says
  pub holds-write : Holds (more rs n (write_said begin at before c)) (wrote s n begin at before c)
  unfolding wrote write new place_of rows
  holds-write = record {
    tied = elim may.place [
      | inl own ↦ tied_own (h.places (id_of c) ∙ own)
      | inr free ↦ tied_free (h.places (id_of c) ∙ free.0) (λ id there. free.1 id (sym (h.places id) ∙ there))
    ];
    pending = ap (λ ws. ws ++ cell_write write ∷ []) h.pending ∙ sym (map-append cell_write (pending rs) (write ∷ [])) ∙ ap (map cell_write) (sym pending_is);
    rows = λ id. h.rows id ∙ ap (λ es. row_at (rows_of id.0 [] es) id.1) (sym (entries-more rs (numbered n (write_said begin at before c)) ∙ append-nil (entries rs)));
    places = λ id. place_by id (is_row (id_of c) id)
        ∙ ap (λ l. place_behind l (homes rs id)) (sym (last-more id (pending rs) write))
        ∙ ap (λ ws. place_behind (last_of id ws) (homes rs id)) (sym pending_is)
        ∙ ap (λ (hs : RowId → Option Place). place_behind (last_of id (pending (more rs n (write_said begin at before c)))) (hs id)) (sym (homes-more rs (numbered n (write_said begin at before c))));
    homes = λ id p e. homed id p (is_row (id_of c) id) refl (h.homes id p (ap (λ (hs : RowId → Option Place). hs id) (sym (homes-more rs (numbered n (write_said begin at before c)))) ∙ e));
  }
    where
      place_by : (id : RowId) (t : Bool) → cond t (Some at) (s.places id) ≡ place_behind (later (one t write) (last_of id (pending rs))) (homes rs id)
      place_by id true = refl
      place_by id false = h.places id

      homed : (id : RowId) (p : Place) (t : Bool) → is_row (id_of c) id ≡ t → s.places id ≡ Some p → cond t (Some at) (s.places id) ≡ Some p
      homed id p false isnt e = e
      homed id p true is e =
          let own : s.places (id_of c) ≡ Some p = ap s.places (same_row (id_of c) id is) ∙ e in
          elim may.place [
            | inl there ↦ sym (h.places (id_of c) ∙ there) ∙ own
            | inr free ↦ none_some (s.places (id_of c)) p (h.places (id_of c) ∙ free.0) own
          ]
