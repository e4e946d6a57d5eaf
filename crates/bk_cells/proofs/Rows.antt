-- Where nothing is pending, the used cells are the committed rows.
use Rattle.std.proofs.Common.{◌≡◌, ◌<◌, ℕ, ◌+◌, Bool, true, false, not, cond, List, [], ◌∷◌, ◌++◌, map, Option, None, inl, inr, refl, sym, ◌∙◌, ap, subst, append_assoc}
use Rattle.std.specs.Prelude.{◌==◌, if◌then◌else◌}
use Rattle.std.specs.List.{filter, AllByRecursion}
use Rattle.std.proofs.lemmas.Bool.{cases_Bool, eq-eqb, eqb-true}
use Rattle.std.proofs.lemmas.List.{append-nil}
use Rattle.bk_bytes.specs.Cell.{Row}
use Rattle.bk_ids.specs.declared.record.Mark.{Mark}
use Rattle.bk_ids.specs.declared.record.Place.{Place}
use Rattle.bk_lemmas.specs.Lists.{all_mapped}
use Rattle.bk_lemmas.specs.Tests.{clash}
use Rattle.bk_shown.specs.Readings.{Commits, counts-more, follow-more, homes-with, pending-with, place-with, placed-more, rows-with, with}
use Rattle.bk_shown.specs.Shown.{ArePlaced, IsPlaced, LogKeeps, lies_at}
use Rattle.bk_undo.specs.Cells.{AreRows, CellWrite, Stored, Tied, is_place, nothing_stored, rows_written, writes_at}
use Rattle.bk_undo.specs.CellSteps.{SameCells, SameRows, SetsCell}
use Rattle.bk_undo.specs.Holds.{Holds, cell_write, wrote}
use Rattle.bk_undo.specs.Spelled.{cell}
use Rattle.bk_world.specs.Entry.{RowChange}
use Rattle.bk_world.specs.Pending.{Lies, Pending, PendingRise, of_transaction, of_others, pending, pending_after}
use Rattle.bk_world.specs.Places.{homes, homes_after, place_of}
use Rattle.bk_world.specs.ReadingLaws.{LieAt}
use Rattle.bk_world.specs.Records.{Counts, Deed, Logged, RowId, more, database_made, table_made, begun, written, committed, rolled_back, undone, checkpointed, stamped, model_set, loaded, recovered}
use Rattle.bk_world.specs.Says.{change_back, commit_said, undoing, write_said}
use Rattle.bk_world.specs.SoundLogs.{IsSound, MayCome, MayFollow, MayUndo, MayWrite}
use Rattle.bk_world.specs.Telling as telling
use Rattle.bk_world.specs.Telling.{row_at, rows}
use Rattle.bk_world.specs.declared.database.FileSpec.{FileSpec}
use Rattle.bk_cells.specs.Cells.{cell_after, cell_from, cell_of}
use Rattle.bk_cells.specs.Laws.{CellsAreRows}
use Rattle.bk_cells.proofs.Pages.{place_itself}

-- ---- what the laws below say

abbrev pub WritesHold : Type 0
WritesHold = (rs : List Logged) (n begin : ℕ) (at : Place) (before : Option (List ℕ)) (c : RowChange) (s : Stored) → Holds rs s → MayWrite rs n begin at before c → AllByRecursion (λ w. w.lsn < n) (pending rs) → Holds (more rs n (write_said begin at before c)) (wrote s n begin at before c)

abbrev pub CommitsHold : Type 0
CommitsHold = (rs : List Logged) (n begin time : ℕ) (mark : Option Mark) (old new : Stored) → Holds rs old → SameCells old new → new.pending ≡ filter (λ w. not (w.begin == begin)) old.pending
    → ((id : RowId) → new.rows id ≡ rows_written (filter (λ w. w.begin == begin) old.pending) old.rows id) → ((id : RowId) → new.places id ≡ place_of (more rs n (commit_said begin time mark)) id) → Holds (more rs n (commit_said begin time mark)) new

abbrev pub UndoneHold : Type 0
UndoneHold = (rs : List Logged) (n : ℕ) (old new : Stored) → Holds rs old → PendingRise (pending rs) → (front : List Pending) (w : Pending) (back : List Pending) → pending rs ≡ front ++ w ∷ back → AllByRecursion (λ v. is_place w.place v.place ≡ false) back
    → SetsCell old w.place (cell w.change.table w.change.key w.before) new → new.pending ≡ map cell_write front ++ map cell_write back → SameRows old new → ((id : RowId) → new.places id ≡ place_of (more rs n (undoing (w ∷ []))) id) → Holds (more rs n (undoing (w ∷ []))) new

abbrev pub SettledHold : Type 0
SettledHold = (s : Stored) → Tied s → s.pending ≡ [] → AreRows s

abbrev pub LogsKeep : Type 0
LogsKeep = (files : List FileSpec) (rs : List Logged) («end» : ℕ) → Counts 1 rs «end» → IsSound rs → ArePlaced files [] rs → LogKeeps rs «end»

-- ---- cells

cell_from-more : (rs : List Logged) (r : Logged) (at : Place) (old : Option Row) → cell_from (rs ++ r ∷ []) at old ≡ cell_after r.deed at (cell_from rs at old)
cell_from-more [] r at old = refl
cell_from-more (s ∷ rs) r at old = cell_from-more rs r at (cell_after s.deed at old)

cell_of-more : (rs : List Logged) (r : Logged) (at : Place) → cell_of (rs ++ r ∷ []) at ≡ cell_after r.deed at (cell_of rs at)
unfolding cell_of
cell_of-more rs r at = cell_from-more rs r at None

-- something is stored that is what a log says, cells too
pub record CellsHold (rs : List Logged) : Type 0 where
  pub stored : Stored
  pub holds : Holds rs stored
  pub cells : (at : Place) → stored.cells at ≡ cell_of rs at

-- ---- lists of writes

-- the last write that passes a test
record LastOf (p : Pending → Bool) (ws : List Pending) (w : Pending) : Type 0 where
  front : List Pending
  back : List Pending
  whole : ws ≡ front ++ w ∷ back
  none : AllByRecursion (λ v. p v ≡ false) back

none_passes : (p : Pending → Bool) (ws : List Pending) → filter p ws ≡ [] → AllByRecursion (λ v. p v ≡ false) ws
none_passes p [] is = tt
none_passes p (v ∷ ws) is = by (p v) refl is (none_passes p ws)
  where
    by : (t : Bool) → p v ≡ t → cond t (v ∷ filter p ws) (filter p ws) ≡ [] → (filter p ws ≡ [] → AllByRecursion (λ u. p u ≡ false) ws) → AllByRecursion (λ u. p u ≡ false) (v ∷ ws)
    by true test is rest = absurd cc
    by false test is rest = (test, rest is)

last_of-filter : (p : Pending → Bool) (ws xs : List Pending) (w : Pending) → filter p ws ≡ xs ++ w ∷ [] → LastOf p ws w
last_of-filter p [] [] w is = absurd cc
last_of-filter p [] (x ∷ xs) w is = absurd cc
last_of-filter p (v ∷ ws) xs w is = by (p v) refl is (λ ys. last_of-filter p ws ys w)
  where
    behind : LastOf p ws w → LastOf p (v ∷ ws) w
    behind l = record { front = v ∷ l.front; back = l.back; whole = ap (λ (us : List Pending). v ∷ us) l.whole; none = l.none }

    first : (ys : List Pending) → v ∷ filter p ws ≡ ys ++ w ∷ [] → ((zs : List Pending) → filter p ws ≡ zs ++ w ∷ [] → LastOf p ws w) → LastOf p (v ∷ ws) w
    first [] is rest =
        let same : v ≡ w = cc in
        let left : filter p ws ≡ [] = cc in
        record { front = []; back = ws; whole = ap (λ (u : Pending). u ∷ ws) same; none = none_passes p ws left }
    first (y ∷ ys) is rest = let left : filter p ws ≡ ys ++ w ∷ [] = cc in behind (rest ys left)

    by : (t : Bool) → p v ≡ t → cond t (v ∷ filter p ws) (filter p ws) ≡ xs ++ w ∷ [] → ((zs : List Pending) → filter p ws ≡ zs ++ w ∷ [] → LastOf p ws w) → LastOf p (v ∷ ws) w
    by true test is rest = first xs is rest
    by false test is rest = behind (rest xs is)

passes_last : (p : Pending → Bool) (ws xs : List Pending) (w : Pending) → filter p ws ≡ xs ++ w ∷ [] → p w ≡ true
passes_last p [] [] w is = absurd cc
passes_last p [] (x ∷ xs) w is = absurd cc
passes_last p (v ∷ ws) xs w is = by (p v) refl is (λ ys. passes_last p ws ys w)
  where
    first : (ys : List Pending) → p v ≡ true → v ∷ filter p ws ≡ ys ++ w ∷ [] → ((zs : List Pending) → filter p ws ≡ zs ++ w ∷ [] → p w ≡ true) → p w ≡ true
    first [] test is rest = let same : v ≡ w = cc in ap p (sym same) ∙ test
    first (y ∷ ys) test is rest = let left : filter p ws ≡ ys ++ w ∷ [] = cc in rest ys left

    by : (t : Bool) → p v ≡ t → cond t (v ∷ filter p ws) (filter p ws) ≡ xs ++ w ∷ [] → ((zs : List Pending) → filter p ws ≡ zs ++ w ∷ [] → p w ≡ true) → p w ≡ true
    by true test is rest = first xs test is rest
    by false test is rest = rest xs is

all_others : (begin : ℕ) (ws : List Pending) → of_transaction begin ws ≡ [] → of_others begin ws ≡ ws
all_others begin [] none = refl
all_others begin (v ∷ ws) none = by (v.begin == begin) none (all_others begin ws)
  where
    by : (t : Bool) → cond t (v ∷ of_transaction begin ws) (of_transaction begin ws) ≡ [] → (of_transaction begin ws ≡ [] → of_others begin ws ≡ ws) → cond (not t) (v ∷ of_others begin ws) (of_others begin ws) ≡ v ∷ ws
    by true none rest = absurd cc
    by false none rest = ap (λ (us : List Pending). v ∷ us) (rest none)

-- pending writes behind one of their transaction's last, at its place: there is none
module _ (s : Stored) (tied : Tied s) (begin : ℕ) (front : List Pending) (w : Pending) (back : List Pending) (whole : s.pending ≡ map cell_write (front ++ w ∷ back)) (own : w.begin ≡ begin) (none : AllByRecursion (λ v. (v.begin == begin) ≡ false) back) where
  here : ℕ
  here = (tied.single w.place).0

  all_here : AllByRecursion (λ (v : CellWrite). v.begin ≡ here) (writes_at w.place (map cell_write (front ++ w ∷ back)))
  unfolding here
  all_here = subst (λ (ws : List CellWrite). AllByRecursion (λ (v : CellWrite). v.begin ≡ here) (writes_at w.place ws)) whole (tied.single w.place).1

  each : (ws : List Pending) → AllByRecursion (λ (v : CellWrite). v.begin ≡ here) (writes_at w.place (map cell_write ws)) → AllByRecursion (λ (v : Pending). is_place w.place v.place ≡ true → v.begin ≡ here) ws
  each [] all = tt
  each (v ∷ ws) all = by (is_place w.place v.place) refl all (each ws)
    where
      by : (t : Bool) → is_place w.place v.place ≡ t → AllByRecursion (λ (u : CellWrite). u.begin ≡ here) (cond t (cell_write v ∷ writes_at w.place (map cell_write ws)) (writes_at w.place (map cell_write ws)))
          → (AllByRecursion (λ (u : CellWrite). u.begin ≡ here) (writes_at w.place (map cell_write ws)) → AllByRecursion (λ (u : Pending). is_place w.place u.place ≡ true → u.begin ≡ here) ws)
          → AllByRecursion (λ (u : Pending). is_place w.place u.place ≡ true → u.begin ≡ here) (v ∷ ws)
      by true test all rest = ((λ is. all.0), rest all.1)
      by false test all rest = ((λ is. clash (is_place w.place v.place) is test), rest all)

  at_all : AllByRecursion (λ (v : Pending). is_place w.place v.place ≡ true → v.begin ≡ here) (front ++ w ∷ back)
  at_all = each (front ++ w ∷ back) all_here

  behind : (front : List Pending) → AllByRecursion (λ (v : Pending). is_place w.place v.place ≡ true → v.begin ≡ here) (front ++ w ∷ back) → AllByRecursion (λ (v : Pending). is_place w.place v.place ≡ true → v.begin ≡ here) (w ∷ back)
  behind [] all = all
  behind (v ∷ front) all = behind front all.1

  own_place : is_place w.place w.place ≡ true
  own_place = place_itself w.place

  pub none_at : AllByRecursion (λ (v : Pending). is_place w.place v.place ≡ false) back
  none_at = by back (behind front at_all).1 none
    where
      first : begin ≡ here
      first = sym own ∙ (behind front at_all).0 own_place

      by : (vs : List Pending) → AllByRecursion (λ (v : Pending). is_place w.place v.place ≡ true → v.begin ≡ here) vs → AllByRecursion (λ (v : Pending). (v.begin == begin) ≡ false) vs → AllByRecursion (λ (v : Pending). is_place w.place v.place ≡ false) vs
      by [] all none = tt
      by (v ∷ vs) all none = (
        elim (cases_Bool (is_place w.place v.place)) [
          | inl at ↦ clash (v.begin == begin) (eq-eqb v.begin begin (all.0 at ∙ sym first)) none.0
          | inr off ↦ off
        ],
        by vs all.1 none.1,
      )

-- ---- one record more

module _ (files : List FileSpec) (writes : WritesHold) (commits : CommitsHold) (undoes : UndoneHold) (rs : List Logged) (n begin : ℕ) where
  placed_at : (id : RowId) → lies_at (pending rs) (homes rs) id ≡ place_of rs id
  unfolding place_of
  placed_at id = refl

  -- rows, places and pending writes stay
  quiet : (d : Deed) → (Commits rs n begin d → ⊥) → pending_after (pending rs) n begin d ≡ pending rs → homes_after (pending rs) (homes rs) begin d ≡ homes rs → ((at : Place) (old : Option Row) → cell_after d at old ≡ old) → CellsHold rs → CellsHold (with rs n begin d)
  quiet d no_commit same_pending same_homes same_cells c = record {
    stored = c.stored;
    holds = record {
      tied = c.holds.tied;
      pending = c.holds.pending ∙ ap (map cell_write) (sym same_pending ∙ sym (pending-with rs n begin d));
      rows = λ id. c.holds.rows id ∙ ap (λ es. row_at es id.1) (sym (rows-with rs n begin d no_commit id.0));
      places = λ id. c.holds.places id ∙ sym (place-with rs n begin d id ∙ ap (λ (ws : List Pending). lies_at ws (homes_after (pending rs) (homes rs) begin d) id) same_pending ∙ ap (λ (hs : RowId → Option Place). lies_at (pending rs) hs id) same_homes ∙ placed_at id);
      homes = λ id at e. c.holds.homes id at (sym (ap (λ (hs : RowId → Option Place). hs id) (homes-with rs n begin d ∙ same_homes)) ∙ e);
    };
    cells = λ at. c.cells at ∙ sym (cell_of-more rs (record { lsn = n; begin = begin; deed = d }) at ∙ same_cells at (cell_of rs at));
  }

  write_step : (at : Place) (before : Option (List ℕ)) (ch : RowChange) → MayWrite rs n begin at before ch → AllByRecursion (λ w. w.lsn < n) (pending rs) → CellsHold rs → CellsHold (with rs n begin (written at before ch))
  unfolding wrote
  write_step at before ch may below c = record {
    stored = wrote c.stored n begin at before ch;
    holds = writes rs n begin at before ch c.stored c.holds may below;
    cells = λ p. ap (λ (o : Option Row). if is_place p at then cell ch.table ch.key ch.value else o) (c.cells p) ∙ sym (cell_of-more rs (record { lsn = n; begin = begin; deed = written at before ch }) p);
  }

  commit_step : (time : ℕ) (mark : Option Mark) → CellsHold rs → CellsHold (with rs n begin (committed time mark))
  commit_step time mark c =
      let new : Stored = record {
        cells = c.stored.cells;
        places = place_of (more rs n (commit_said begin time mark));
        pending = filter (λ w. not (w.begin == begin)) c.stored.pending;
        rows = rows_written (filter (λ w. w.begin == begin) c.stored.pending) c.stored.rows;
      } in
      record {
        stored = new;
        holds = commits rs n begin time mark c.stored new c.holds (λ at. refl) refl (λ id. refl) (λ id. refl);
        cells = λ at. c.cells at ∙ sym (cell_of-more rs (record { lsn = n; begin = begin; deed = committed time mark }) at);
      }

  undone_step : (at : Place) (ch : RowChange) (k : ℕ) → MayUndo rs begin at ch k → PendingRise (pending rs) → CellsHold rs → CellsHold (with rs n begin (undone at ch k))
  undone_step at ch k may rise c =
      let p : Pending → Bool = λ w. w.begin == begin in
      let w : Pending = may.write in
      let last : LastOf p (pending rs) w = last_of-filter p (pending rs) may.before w may.last in
      let own : w.begin ≡ begin = eqb-true w.begin begin (passes_last p (pending rs) may.before w may.last) in
      let new : Stored = record {
        cells = λ q. if is_place q w.place then cell w.change.table w.change.key w.before else c.stored.cells q;
        places = place_of (more rs n (undoing (w ∷ [])));
        pending = map cell_write last.front ++ map cell_write last.back;
        rows = c.stored.rows;
      } in
      let away = none_at c.stored c.holds.tied begin last.front w last.back (c.holds.pending ∙ ap (map cell_write) last.whole) own last.none in
      let made : CellsHold (with rs n w.begin (undone w.place (change_back w) w.lsn)) = record {
        stored = new;
        holds = undoes rs n c.stored new c.holds rise last.front w last.back last.whole away (λ q. refl) refl (λ id. refl) (λ id. refl);
        cells = λ q. ap (λ (o : Option Row). if is_place q w.place then cell w.change.table w.change.key w.before else o) (c.cells q) ∙ sym (cell_of-more rs (record { lsn = n; begin = w.begin; deed = undone w.place (change_back w) w.lsn }) q);
      } in
      subst (λ (b : ℕ). CellsHold (with rs n b (undone at ch k))) own
      (subst (λ (x : Place). CellsHold (with rs n w.begin (undone x ch k))) (sym may.place)
      (subst (λ (x : RowChange). CellsHold (with rs n w.begin (undone w.place x k))) (sym may.back)
      (subst (λ (x : ℕ). CellsHold (with rs n w.begin (undone w.place (change_back w) x))) (sym may.number) made)))

  pub step : (d : Deed) → IsPlaced files (telling.tables rs) d → MayCome rs n begin d → AllByRecursion (λ w. w.lsn < n) (pending rs) → PendingRise (pending rs) → CellsHold rs → CellsHold (with rs n begin d)
  step (written at before ch) placed may below rise c = write_step at before ch may below c
  step (committed time mark) placed may below rise c = commit_step time mark c
  step rolled_back placed may below rise c = quiet rolled_back (λ no. no) (all_others begin (pending rs) may) refl (λ at old. refl) c
  step (undone at ch k) placed may below rise c = undone_step at ch k may rise c
  step (loaded load) placed may below rise c = absurd placed
  step (database_made time family branch) placed may below rise c = quiet (database_made time family branch) (λ no. no) refl refl (λ at old. refl) c
  step (table_made time spec) placed may below rise c = quiet (table_made time spec) (λ no. no) refl refl (λ at old. refl) c
  step begun placed may below rise c = quiet begun (λ no. no) refl refl (λ at old. refl) c
  step (checkpointed time) placed may below rise c = quiet (checkpointed time) (λ no. no) refl refl (λ at old. refl) c
  step (stamped time set) placed may below rise c = quiet (stamped time set) (λ no. no) refl refl (λ at old. refl) c
  step (model_set time model) placed may below rise c = quiet (model_set time model) (λ no. no) refl refl (λ at old. refl) c
  step (recovered branch) placed may below rise c = quiet (recovered branch) (λ no. no) refl refl (λ at old. refl) c

-- ---- a whole log

along : (files : List FileSpec) → WritesHold → CommitsHold → UndoneHold → LogsKeep → (front rest : List Logged) (n end : ℕ) → Counts 1 front n → IsSound front → ArePlaced files [] front → Counts n rest end → MayFollow front rest → ArePlaced files front rest → CellsHold front → CellsHold (front ++ rest)
along files writes commits undoes keep front [] n end counted sound placed counts follow more c = subst CellsHold (sym (append-nil front)) c
along files writes commits undoes keep front (r ∷ rest) n end counted sound placed counts follow more c =
    let lies : LieAt (pending front) r.lsn = subst (LieAt (pending front)) (sym counts.0) (keep files front n counted sound placed).lie in
    let next : CellsHold (front ++ r ∷ []) = step files writes commits undoes front r.lsn r.begin r.deed more.0 follow.0 (all_mapped (Lies r.lsn) (λ (w : Pending). w.lsn < r.lsn) (λ w l. l.below) (pending front) lies.each) lies.rise c in
    subst CellsHold (append_assoc front (r ∷ []) rest)
    (along files writes commits undoes keep (front ++ r ∷ []) rest (n + 1) end (counts-more 1 front n r counted counts.0) (follow-more [] front r sound follow.0) (placed-more files [] front r placed more.0) counts.1 follow.1 more.1 next)

nothing_holds : Tied nothing_stored → CellsHold []
unfolding cell_of pending rows place_of homes telling.entries
nothing_holds tied = record {
  stored = nothing_stored;
  holds = record { tied = tied; pending = refl; rows = λ id. refl; places = λ id. refl; homes = λ id at e. absurd cc };
  cells = λ at. refl;
}

pub cells_are_rows : WritesHold → CommitsHold → UndoneHold → SettledHold → LogsKeep → Tied nothing_stored → CellsAreRows
cells_are_rows writes commits undoes settled keep begins files rs end counts sound placed none =
    let c : CellsHold rs = along files writes commits undoes keep [] rs 1 end refl tt tt counts sound placed (nothing_holds begins) in
    let are : AreRows c.stored = settled c.stored c.holds.tied (c.holds.pending ∙ ap (map cell_write) none) in
    record {
      used = λ at row is.
          let there = are.used at row (c.cells at ∙ is) in
          record { value = sym (c.holds.rows (row.table, row.key)) ∙ there.0; place = sym (c.holds.places (row.table, row.key)) ∙ there.1 };
      there = λ id value is.
          let there = are.there id value (c.holds.rows id ∙ is) in
          (there.0, sym (c.holds.places id) ∙ there.1, sym (c.cells there.0) ∙ there.2);
    }
