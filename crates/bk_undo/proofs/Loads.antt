-- A minimal bulk load keeps cells, places, pending writes and rows tied; and so does each kind of record.
use Rattle.std.proofs.Common.{◌≡◌, ◌≢◌, ◌⊎◌, ◌<◌, ℕ, zero, suc, ◌+◌, List, [], Option, Some, None, inl, inr, refl, sym, ◌∙◌, ap, subst, arith}
use Rattle.std.specs.List.{AllByRecursion}
use Rattle.std.proofs.lemmas.Option.{same_Some}
use Rattle.bk_bytes.specs.Cell.{Row}
use Rattle.bk_ids.specs.declared.record.Body.{Body}
use Rattle.bk_ids.specs.declared.record.Body.TheVariants.{Database, Table, Begin, Write, Commit, RollbackEnd, Compensation, Checkpoint, Stamp, Model, Bulk, Recovery}
use Rattle.bk_ids.specs.declared.record.Place.{Place}
use Rattle.bk_ids.specs.declared.record.Rec.{Rec}
use Rattle.bk_lemmas.specs.Lists.{all_mapped}
use Rattle.bk_undo.specs.Cells.{RowId, CellWrite, Stored, Tied, IsOwn, WritesRise, LeadsTo, row_in, writes_at}
use Rattle.bk_undo.specs.CellSteps.{LoadsRows, BodyGoes, Goes}
use Rattle.bk_undo.proofs.Ties.{place_cases, row_cases, none_some, row_in_own, none_at}
use Rattle.bk_undo.proofs.KeptTied.{led_to, leaves_all, ends_rollback, writes_row, commits_rows, undoes_write}

-- ---- which of the loaded cells or rows

-- one of so many places, or none
abbrev Among : {A : Type 0} → ℕ → (ℕ → A) → A → Type 0
Among n f x = ((i : ℕ) × ((i < n) × (f i ≡ x))) ⊎ ((i : ℕ) → i < n → f i ≢ x)

last_or : (i n : ℕ) → i < suc n → (i < n) ⊎ (i ≡ n)
last_or i n below = grind arith

among_more : {A : Type 0} (n : ℕ) (f : ℕ → A) (x : A) → (f n ≡ x) ⊎ (f n ≢ x) → Among n f x → Among (suc n) f x
among_more n f x (inl is) rest = inl (n, (omega arith, is))
among_more n f x (inr isnt) (inl found) = inl (found.0, (omega (arith, found.1.0), found.1.1))
among_more n f x (inr isnt) (inr none) = inr (λ i below. elim (last_or i n below) [
  | inl early ↦ none i early
  | inr last ↦ λ e. isnt (ap f (sym last) ∙ e)
])

place_is : (a b : Place) → (a ≡ b) ⊎ (a ≢ b)
place_is a b = elim (place_cases a b) [ inl is ↦ inl is.1 | inr isnt ↦ inr isnt.1 ]

row_is : (a b : ℕ × ℕ) → (a ≡ b) ⊎ (a ≢ b)
row_is a b = elim (row_cases a b) [ inl is ↦ inl is.1 | inr isnt ↦ inr isnt.1 ]

below_none : {A : Type 0} (i : ℕ) → i < 0 → A
below_none i below = absurd (omega (arith, below))

place_among : (n : ℕ) (f : ℕ → Place) (x : Place) → Among n f x
place_among zero f x = inr (λ i below. below_none i below)
place_among (suc n) f x = among_more n f x (place_is (f n) x) (place_among n f x)

row_among : (n : ℕ) (f : ℕ → ℕ × ℕ) (x : ℕ × ℕ) → Among n f x
row_among zero f x = inr (λ i below. below_none i below)
row_among (suc n) f x = among_more n f x (row_is (f n) x) (row_among n f x)

-- ---- the load

pub loads_rows : (table first count : ℕ) (value : List ℕ) (old new : Stored) → LoadsRows table first count value old new → Tied old → Tied new
loads_rows table first count value old new s t =
    let Own : List CellWrite → Type 0 = AllByRecursion (IsOwn new.places) in
    record {
      committed = λ p. committed_by p (place_among count s.at p);
      leads = λ p. leads_at p (place_among count s.at p);
      rows = λ id p e. rows_at id p (row_among count key id) (place_among count s.at p) e;
      unplaced = λ id e. unplaced_at id (row_among count key id) e;
      own = λ p row e. own_at p row (place_among count s.at p) (row_among count key (row.table, row.key)) e;
      written = subst Own (sym s.pending) (all_mapped (IsOwn old.places) (IsOwn new.places) (λ w is. record { placed = kept_at w.row w.place (row_among count key w.row) is.placed; holds = is.holds }) old.pending t.written);
      alone = λ id other p e f. alone_at id other p (row_among count key id) (row_among count key other) e f;
      single = λ p.
          let All : List CellWrite → Type 0 = λ ws. AllByRecursion (λ (w : CellWrite). w.begin ≡ (t.single p).0) (writes_at p ws) in
          ((t.single p).0, subst All (sym s.pending) (t.single p).1);
      rise = subst WritesRise (sym s.pending) t.rise;
    }
  where
    key : ℕ → ℕ × ℕ
    key = λ i. (table, first + i)

    loaded : ℕ → Row
    loaded = λ i. record { table = table; key = first + i; value = value }

    committed_by : (p : Place) → Among count s.at p → Option Row
    committed_by p (inl found) = Some (loaded found.0)
    committed_by p (inr none) = t.committed p

    leads_at : (p : Place) (among : Among count s.at p) → LeadsTo (committed_by p among) (writes_at p new.pending) (new.cells p)
    leads_at p (inl found) =
        let At : Place → Type 0 = λ q. (id : RowId) → old.places id ≢ Some q in
        let unowned : (id : RowId) → old.places id ≢ Some p = subst At found.1.1 (s.unowned found.0 found.1.0) in
        led_to (Some (loaded found.0)) (Some (loaded found.0)) (new.cells p) [] (writes_at p new.pending)
        (ap (writes_at p) s.pending ∙ none_at old.places p old.pending t.written unowned)
        (ap new.cells (sym found.1.1) ∙ s.cells found.0 found.1.0) refl
    leads_at p (inr none) = led_to (t.committed p) (old.cells p) (new.cells p) (writes_at p old.pending) (writes_at p new.pending) (ap (writes_at p) s.pending) (s.other_cells p none) (t.leads p)

    placed_new : (id : RowId) (i : ℕ) → i < count → key i ≡ id → new.places id ≡ Some (s.at i)
    placed_new id i below is = ap new.places (sym is) ∙ s.places i below

    unplaced_old : (id : RowId) (i : ℕ) → i < count → key i ≡ id → old.places id ≡ None
    unplaced_old id i below is = ap old.places (sym is) ∙ s.new_keys i below

    rows_at : (id : RowId) (p : Place) → Among count key id → (among : Among count s.at p) → new.places id ≡ Some p → new.rows id ≡ row_in (committed_by p among) id
    rows_at id p (inl row) (inl found) e =
        let same : s.at found.0 ≡ s.at row.0 = found.1.1 ∙ same_Some p (s.at row.0) (sym e ∙ placed_new id row.0 row.1.0 row.1.1) in
        let index : found.0 ≡ row.0 = s.apart found.0 row.0 found.1.0 row.1.0 same in
        ap new.rows (sym row.1.1) ∙ s.rows row.0 row.1.0 ∙ sym (row_in_own (loaded found.0) id (ap key index ∙ row.1.1))
    rows_at id p (inl row) (inr none) e = absurd (none row.0 row.1.0 (same_Some (s.at row.0) p (sym (placed_new id row.0 row.1.0 row.1.1) ∙ e)))
    rows_at id p (inr other) (inl found) e =
        absurd (s.unowned found.0 found.1.0 id (sym (s.other_places id other) ∙ e ∙ ap (λ (q : Place). Some q) (sym found.1.1)))
    rows_at id p (inr other) (inr none) e = s.other_rows id other ∙ t.rows id p (sym (s.other_places id other) ∙ e)

    unplaced_at : (id : RowId) → Among count key id → new.places id ≡ None → new.rows id ≡ None
    unplaced_at id (inl row) e = none_some (new.places id) (s.at row.0) e (placed_new id row.0 row.1.0 row.1.1)
    unplaced_at id (inr other) e = s.other_rows id other ∙ t.unplaced id (sym (s.other_places id other) ∙ e)

    kept_at : (id : RowId) (p : Place) → Among count key id → old.places id ≡ Some p → new.places id ≡ Some p
    kept_at id p (inl row) e = none_some (old.places id) p (unplaced_old id row.0 row.1.0 row.1.1) e
    kept_at id p (inr other) e = s.other_places id other ∙ e

    own_at : (p : Place) (row : Row) (among : Among count s.at p) → Among count key (row.table, row.key) → committed_by p among ≡ Some row → new.places (row.table, row.key) ≡ Some p
    own_at p row (inl found) rows e =
        let same : loaded found.0 ≡ row = same_Some (loaded found.0) row e in
        placed_new (row.table, row.key) found.0 found.1.0 (ap (λ (r : Row). (r.table, r.key)) same) ∙ ap (λ (q : Place). Some q) found.1.1
    own_at p row (inr none) rows e = kept_at (row.table, row.key) p rows (t.own p row e)

    alone_at : (id other : RowId) (p : Place) → Among count key id → Among count key other → new.places id ≡ Some p → new.places other ≡ Some p → id ≡ other
    alone_at id other p (inl row) (inl also) e f =
        let same : s.at row.0 ≡ s.at also.0 = same_Some (s.at row.0) (s.at also.0) (sym (placed_new id row.0 row.1.0 row.1.1) ∙ e ∙ sym f ∙ placed_new other also.0 also.1.0 also.1.1) in
        sym row.1.1 ∙ ap key (s.apart row.0 also.0 row.1.0 also.1.0 same) ∙ also.1.1
    alone_at id other p (inl row) (inr none) e f =
        absurd (s.unowned row.0 row.1.0 other (sym (s.other_places other none) ∙ f ∙ sym e ∙ placed_new id row.0 row.1.0 row.1.1))
    alone_at id other p (inr none) (inl row) e f =
        absurd (s.unowned row.0 row.1.0 id (sym (s.other_places id none) ∙ e ∙ sym f ∙ placed_new other row.0 row.1.0 row.1.1))
    alone_at id other p (inr none) (inr also) e f = t.alone id other p (sym (s.other_places id none) ∙ e) (sym (s.other_places other also) ∙ f)

-- ---- each kind of record

kept_by : (lsn begin : ℕ) (body : Body) (old new : Stored) → BodyGoes lsn begin body old new → Tied old → Tied new
kept_by lsn begin (Write at before after) old new s t = writes_row lsn begin at before after old new s t
kept_by lsn begin (Commit time mark) old new s t = commits_rows begin old new s t
kept_by lsn begin RollbackEnd old new s t = ends_rollback begin old new s t
kept_by lsn begin (Compensation at image undone) old new s t = undoes_write begin at image undone old new s t
kept_by lsn begin (Bulk table first count value extents) old new s t = loads_rows table first count value old new s t
kept_by lsn begin (Database a b c) old new s t = leaves_all old new s t
kept_by lsn begin (Table a b c d) old new s t = leaves_all old new s t
kept_by lsn begin Begin old new s t = leaves_all old new s t
kept_by lsn begin (Checkpoint a) old new s t = leaves_all old new s t
kept_by lsn begin (Stamp a b) old new s t = leaves_all old new s t
kept_by lsn begin (Model a b) old new s t = leaves_all old new s t
kept_by lsn begin (Recovery a) old new s t = leaves_all old new s t

pub kept : (r : Rec) (old new : Stored) → Goes r old new → Tied old → Tied new
kept r old new s t = kept_by r.lsn r.begin r.body old new s t
