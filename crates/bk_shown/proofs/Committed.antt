-- Committed rows of a log whose records are placed: they lie in cells of their tables' groups, no two in one, and fit.
use Rattle.std.proofs.Common.{◌≡◌, ◌≤◌, ℕ, ◌+◌, Bool, true, false, not, cond, List, [], ◌∷◌, ◌++◌, length, Option, Some, None, ◌⊎◌, inl, inr, refl, sym, ◌∙◌, ap, subst, append_assoc}
use Rattle.std.specs.Prelude.{◌==◌, ◌&&◌, is_some}
use Rattle.std.specs.List.{find, AllByRecursion}
use Rattle.std.proofs.lemmas.List.{append-nil}
use Rattle.std.proofs.lemmas.Option.{same_Some}
use Rattle.bk_ids.specs.declared.record.Place.{Place}
use Rattle.bk_world.specs.LastLaws.{is_its, last-all, value-last, value_last}
use Rattle.bk_lemmas.specs.Lists.{all_filter, all_joined}
use Rattle.bk_world.specs.Pending as log
use Rattle.bk_world.specs.Pending.{Pending, of_transaction, pending_after}
use Rattle.bk_world.specs.Places.{homes, homes_after, last_of, place_of, IsCellOf}
use Rattle.bk_world.specs.Records.{Counts, Deed, Logged, RowId, database_made, table_made, begun, written, committed, rolled_back, undone, checkpointed, stamped, model_set, loaded, recovered, id_of}
use Rattle.bk_world.specs.SoundLogs.{MayCome, MayFollow}
use Rattle.bk_world.specs.Telling as telling
use Rattle.bk_world.specs.Telling.{row_at}
use Rattle.bk_world.specs.ReadingLaws.{rows-commit}
use Rattle.bk_world.specs.declared.database.FileSpec.{FileSpec}
use Rattle.bk_world.specs.declared.database.TableSpec.{TableSpec}
use Rattle.bk_world.specs.RowLaws.{row-same}
use Rattle.bk_shown.specs.Shown.{ArePlaced, IsPlaced, LogKeeps, PlacesAgree, lies_at}
use Rattle.bk_shown.proofs.Agree.{fewer-lies, lies-commit, lies-write, some-none}
use Rattle.bk_shown.proofs.Keeps.{keeps-more}
use Rattle.bk_shown.specs.Readings as reading
use Rattle.bk_shown.specs.Readings.{made_by, pending-with, place-with, rows-with, tables-with, with}
use Rattle.bk_shown.proofs.Taken.{place-is, seen-is}

-- a cell of the group of a made table
abbrev pub InCell : List FileSpec → List TableSpec → RowId → Place → Type 0
InCell files made id at = (t : TableSpec) × (find (λ (s : TableSpec). s.number == id.0) made ≡ Some t) × IsCellOf files t.group at

-- a value that is there fits a row of this key
abbrev pub ValueFits : RowId → Option (List ℕ) → Type 0
ValueFits id None = Unit {0}
ValueFits id (Some text) = (id.1 ≤ 9223372036854775807) × (length text ≤ 112)

-- where rows lie, and what fits
pub record Holds (files : List FileSpec) (rs : List Logged) : Type 0 where
  pub cells : (id : RowId) (at : Place) → place_of rs id ≡ Some at → InCell files (telling.tables rs) id at
  pub alone : (a b : RowId) (at : Place) → place_of rs a ≡ Some at → place_of rs b ≡ Some at → a ≡ b
  pub writes : AllByRecursion (λ w. ValueFits (id_of w.change) w.change.value) (log.pending rs)
  pub values : (id : RowId) → ValueFits id (row_at (telling.rows rs id.0) id.1)

pub find-kept : {X : Type 0} (p : X → Bool) (xs ys : List X) (x : X) → find p xs ≡ Some x → find p (xs ++ ys) ≡ Some x
find-kept p [] ys x e = absurd (cc)
find-kept {X} p (y ∷ xs) ys x e = by (p y) e (λ rest. find-kept p xs ys x rest)
  where
    by : (t : Bool) → cond t (Some y) (find p xs) ≡ Some x → (find p xs ≡ Some x → find p (xs ++ ys) ≡ Some x) → cond t (Some y) (find p (xs ++ ys)) ≡ Some x
    by true e rest = e
    by false e rest = rest e

module _ (files : List FileSpec) (rs : List Logged) (n begin : ℕ) where
  -- a row that is written anew lies here
  abbrev IsNew : Deed → RowId → Place → Type 0
  IsNew (written at before c) id to = (id_of c ≡ id) × (at ≡ to)
  IsNew _ id to = ⊥

  abbrev after : Deed → RowId → Option Place
  after d id = lies_at (pending_after (log.pending rs) n begin d) (homes_after (log.pending rs) (homes rs) begin d) id

  -- where a row lies it lay before, or it is written there
  came : (d : Deed) → IsPlaced files (telling.tables rs) d → PlacesAgree (log.pending rs) (homes rs) → (id : RowId) (at : Place) → after d id ≡ Some at
      → (lies_at (log.pending rs) (homes rs) id ≡ Some at) ⊎ IsNew d id at
  came (written to before c) placed agree id at e =
      let w : Pending = record { lsn = n; begin = begin; place = to; before = before; change = c; extents = [] } in
      by (is_its id (record { lsn = n; begin = begin; place = to; before = before; change = c; extents = [] })) refl (sym (lies-write (log.pending rs) w (homes rs) id) ∙ e)
    where
      by : (t : Bool) → is_its id (record { lsn = n; begin = begin; place = to; before = before; change = c; extents = [] }) ≡ t → cond t (Some to) (lies_at (log.pending rs) (homes rs) id) ≡ Some at
          → (lies_at (log.pending rs) (homes rs) id ≡ Some at) ⊎ ((id_of c ≡ id) × (to ≡ at))
      by true is e = inr (row-same (id_of c) id is, same_Some to at e)
      by false isnt e = inl e
  came (committed time mark) placed agree id at e =
      by (is_some (last_of id (of_transaction begin (log.pending rs))) && not (is_some (value_last (last_of id (of_transaction begin (log.pending rs))) None)))
      (sym (lies-commit begin (log.pending rs) (homes rs) id None (agree.single id)) ∙ e)
    where
      by : (t : Bool) → cond t None (lies_at (log.pending rs) (homes rs) id) ≡ Some at → (lies_at (log.pending rs) (homes rs) id ≡ Some at) ⊎ ⊥
      by true e = absurd (cc)
      by false e = inl e
  came rolled_back placed agree id at e = inl (fewer-lies (λ w. not (w.begin == begin)) (log.pending rs) (homes rs) agree id at e)
  came (undone to c k) placed agree id at e = inl (fewer-lies (λ w. not (w.begin == begin && w.lsn == k)) (log.pending rs) (homes rs) agree id at e)
  came (loaded load) placed agree id at e = absurd placed
  came (database_made time family branch) placed agree id at e = inl e
  came (table_made time spec) placed agree id at e = inl e
  came begun placed agree id at e = inl e
  came (checkpointed time) placed agree id at e = inl e
  came (stamped time set) placed agree id at e = inl e
  came (model_set time model) placed agree id at e = inl e
  came (recovered branch) placed agree id at e = inl e

  module _ (holds : Holds files rs) where
    lay : (id : RowId) (at : Place) → lies_at (log.pending rs) (homes rs) id ≡ Some at → place_of rs id ≡ Some at
    lay id at e = place-is rs id ∙ e

    cells-by : (d : Deed) → IsPlaced files (telling.tables rs) d → (id : RowId) (at : Place) → (lies_at (log.pending rs) (homes rs) id ≡ Some at) ⊎ IsNew d id at → InCell files (telling.tables rs) id at
    cells-by d placed id at (inl old) = holds.cells id at (lay id at old)
    cells-by (written to before c) placed id at (inr new) =
        let cell : InCell files (telling.tables rs) (id_of c) to = (placed.1.0, placed.1.1.0, placed.1.1.1) in
        subst (λ (p : Place). InCell files (telling.tables rs) id p) new.1 (subst (λ (i : RowId). InCell files (telling.tables rs) i to) new.0 cell)
    cells-by (committed time mark) placed id at (inr new) = absurd new
    cells-by rolled_back placed id at (inr new) = absurd new
    cells-by (undone to c k) placed id at (inr new) = absurd new
    cells-by (loaded load) placed id at (inr new) = absurd new
    cells-by (database_made time family branch) placed id at (inr new) = absurd new
    cells-by (table_made time spec) placed id at (inr new) = absurd new
    cells-by begun placed id at (inr new) = absurd new
    cells-by (checkpointed time) placed id at (inr new) = absurd new
    cells-by (stamped time set) placed id at (inr new) = absurd new
    cells-by (model_set time model) placed id at (inr new) = absurd new
    cells-by (recovered branch) placed id at (inr new) = absurd new

    -- a row that lies where one is written is that row
    meets : (d : Deed) → MayCome rs n begin d → (a b : RowId) (at : Place) → IsNew d a at → lies_at (log.pending rs) (homes rs) b ≡ Some at → a ≡ b
    meets (written to before c) may a b at new old =
        let there : place_of rs b ≡ Some to = lay b at old ∙ ap (λ (p : Place). Some p) (sym new.1) in
        by there may.place
      where
        by : place_of rs b ≡ Some to → (place_of rs (id_of c) ≡ Some to) ⊎ ((place_of rs (id_of c) ≡ None) × Rattle.bk_world.specs.Places.IsFreePlace rs to) → a ≡ b
        by there (inl own) = sym new.0 ∙ holds.alone (id_of c) b to own there
        by there (inr free) = absurd (free.1 b there)
    meets (committed time mark) may a b at new old = absurd new
    meets rolled_back may a b at new old = absurd new
    meets (undone to c k) may a b at new old = absurd new
    meets (loaded load) may a b at new old = absurd new
    meets (database_made time family branch) may a b at new old = absurd new
    meets (table_made time spec) may a b at new old = absurd new
    meets begun may a b at new old = absurd new
    meets (checkpointed time) may a b at new old = absurd new
    meets (stamped time set) may a b at new old = absurd new
    meets (model_set time model) may a b at new old = absurd new
    meets (recovered branch) may a b at new old = absurd new

    one-new : (d : Deed) (a b : RowId) (at : Place) → IsNew d a at → IsNew d b at → a ≡ b
    one-new (written to before c) a b at new also = sym new.0 ∙ also.0
    one-new (committed time mark) a b at new also = absurd new
    one-new rolled_back a b at new also = absurd new
    one-new (undone to c k) a b at new also = absurd new
    one-new (loaded load) a b at new also = absurd new
    one-new (database_made time family branch) a b at new also = absurd new
    one-new (table_made time spec) a b at new also = absurd new
    one-new begun a b at new also = absurd new
    one-new (checkpointed time) a b at new also = absurd new
    one-new (stamped time set) a b at new also = absurd new
    one-new (model_set time model) a b at new also = absurd new
    one-new (recovered branch) a b at new also = absurd new

    alone-by : (d : Deed) → MayCome rs n begin d → (a b : RowId) (at : Place) → (lies_at (log.pending rs) (homes rs) a ≡ Some at) ⊎ IsNew d a at
        → (lies_at (log.pending rs) (homes rs) b ≡ Some at) ⊎ IsNew d b at → a ≡ b
    alone-by d may a b at (inl old) (inl also) = holds.alone a b at (lay a at old) (lay b at also)
    alone-by d may a b at (inl old) (inr new) = sym (meets d may b a at new old)
    alone-by d may a b at (inr new) (inl old) = meets d may a b at new old
    alone-by d may a b at (inr new) (inr also) = one-new d a b at new also

    writes-by : (d : Deed) → IsPlaced files (telling.tables rs) d → AllByRecursion (λ w. ValueFits (id_of w.change) w.change.value) (pending_after (log.pending rs) n begin d)
    writes-by (written at before c) placed =
        all_joined (λ w. ValueFits (id_of w.change) w.change.value) (log.pending rs) ((record { lsn = n; begin = begin; place = at; before = before; change = c; extents = [] }) ∷ []) holds.writes (by c.value placed.0.value_fits, tt)
      where
        by : (v : Option (List ℕ)) → Rattle.bk_shown.specs.Values.IsValue v → ValueFits (id_of c) v
        by None fits = tt
        by (Some text) fits = (placed.0.key_fits, fits.0)
    writes-by (committed time mark) placed = all_filter (λ w. ValueFits (id_of w.change) w.change.value) (λ w. not (w.begin == begin)) (log.pending rs) holds.writes
    writes-by rolled_back placed = all_filter (λ w. ValueFits (id_of w.change) w.change.value) (λ w. not (w.begin == begin)) (log.pending rs) holds.writes
    writes-by (undone at c k) placed = all_filter (λ w. ValueFits (id_of w.change) w.change.value) (λ w. not (w.begin == begin && w.lsn == k)) (log.pending rs) holds.writes
    writes-by (loaded load) placed = absurd placed
    writes-by (database_made time family branch) placed = holds.writes
    writes-by (table_made time spec) placed = holds.writes
    writes-by begun placed = holds.writes
    writes-by (checkpointed time) placed = holds.writes
    writes-by (stamped time set) placed = holds.writes
    writes-by (model_set time model) placed = holds.writes
    writes-by (recovered branch) placed = holds.writes

    same-value : (d : Deed) → (reading.Commits rs n begin d → ⊥) → (id : RowId) → ValueFits id (row_at (telling.rows (with rs n begin d) id.0) id.1)
    same-value d silent id = subst (λ es. ValueFits id (row_at es id.1)) (sym (rows-with rs n begin d silent id.0)) (holds.values id)

    committed-value : (id : RowId) (l : Option Pending) → last_of id (of_transaction begin (log.pending rs)) ≡ l → ValueFits id (value_last l (row_at (telling.rows rs id.0) id.1))
    committed-value id None is = holds.values id
    committed-value id (Some w) is =
        let own : AllByRecursion (λ v. ValueFits (id_of v.change) v.change.value) (of_transaction begin (log.pending rs)) = all_filter (λ v. ValueFits (id_of v.change) v.change.value) (λ v. v.begin == begin) (log.pending rs) holds.writes in
        let its = last-all (λ v. ValueFits (id_of v.change) v.change.value) id (of_transaction begin (log.pending rs)) w own is in
        subst (λ (i : RowId). ValueFits i w.change.value) (row-same (id_of w.change) id its.1) its.0

    values-by : (d : Deed) → (id : RowId) → ValueFits id (row_at (telling.rows (with rs n begin d) id.0) id.1)
    values-by (committed time mark) id =
        subst (ValueFits id)
        (sym (ap (λ es. row_at es id.1) (rows-commit rs n begin time mark id.0) ∙ seen-is rs begin id ∙ value-last id (of_transaction begin (log.pending rs)) (row_at (telling.rows rs id.0) id.1)))
        (committed-value id (last_of id (of_transaction begin (log.pending rs))) refl)
    values-by rolled_back id = same-value rolled_back (λ never. never) id
    values-by (written at before c) id = same-value (written at before c) (λ never. never) id
    values-by (undone at c k) id = same-value (undone at c k) (λ never. never) id
    values-by (loaded load) id = same-value (loaded load) (λ never. never) id
    values-by (database_made time family branch) id = same-value (database_made time family branch) (λ never. never) id
    values-by (table_made time spec) id = same-value (table_made time spec) (λ never. never) id
    values-by begun id = same-value begun (λ never. never) id
    values-by (checkpointed time) id = same-value (checkpointed time) (λ never. never) id
    values-by (stamped time set) id = same-value (stamped time set) (λ never. never) id
    values-by (model_set time model) id = same-value (model_set time model) (λ never. never) id
    values-by (recovered branch) id = same-value (recovered branch) (λ never. never) id

    more-tables : (d : Deed) (id : RowId) (at : Place) → InCell files (telling.tables rs) id at → InCell files (telling.tables (with rs n begin d)) id at
    more-tables d id at cell =
        (cell.0, ap (find (λ (s : TableSpec). s.number == id.0)) (tables-with rs n begin d) ∙ find-kept (λ (s : TableSpec). s.number == id.0) (telling.tables rs) (made_by d) cell.0 cell.1, cell.2)

    pub holds-more : (d : Deed) → IsPlaced files (telling.tables rs) d → MayCome rs n begin d → PlacesAgree (log.pending rs) (homes rs) → Holds files (with rs n begin d)
    holds-more d placed may agree = record {
      cells = λ id at e. more-tables d id at (cells-by d placed id at (came d placed agree id at (sym (place-with rs n begin d id) ∙ e)));
      alone = λ a b at e f. alone-by d may a b at (came d placed agree a at (sym (place-with rs n begin d a) ∙ e)) (came d placed agree b at (sym (place-with rs n begin d b) ∙ f));
      writes = subst (AllByRecursion (λ w. ValueFits (id_of w.change) w.change.value)) (sym (pending-with rs n begin d)) (writes-by d placed);
      values = values-by d;
    }

holds-none : (files : List FileSpec) → Holds files []
unfolding log.pending homes place_of telling.tables telling.rows telling.entries
holds-none files = record {
  cells = λ id at e. some-none None at e refl;
  alone = λ a b at e f. some-none None at e refl;
  writes = tt;
  values = λ id. tt;
}

holds-along : (files : List FileSpec) (front rest : List Logged) (n end : ℕ) → Counts n rest end → MayFollow front rest → ArePlaced files front rest → LogKeeps front n → Holds files front → Holds files (front ++ rest)
holds-along files front [] n end counts follow placed keeps holds = subst (Holds files) (sym (append-nil front)) holds
holds-along files front (r ∷ rest) n end counts follow placed keeps holds =
    subst (Holds files) (append_assoc front (r ∷ []) rest)
    (holds-along files (front ++ r ∷ []) rest (n + 1) end counts.1 follow.1 placed.1
    (subst (λ (k : ℕ). LogKeeps (front ++ r ∷ []) (k + 1)) counts.0 (keeps-more files front r.lsn r.begin r.deed placed.0 follow.0 (subst (LogKeeps front) (sym counts.0) keeps)))
    (holds-more files front r.lsn r.begin holds r.deed placed.0 follow.0 keeps.places))

pub holds-all : (files : List FileSpec) (rs : List Logged) (end : ℕ) → Counts 1 rs end → MayFollow [] rs → ArePlaced files [] rs → LogKeeps [] 1 → Holds files rs
holds-all files rs end counts follow placed none = holds-along files [] rs 1 end counts follow placed none (holds-none files)
