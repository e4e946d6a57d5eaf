-- What the cells of a log hold fits there: each record that sets one is placed, or undoes one that is.
use Rattle.std.proofs.Common.{◌≤◌, ◌<◌, ◌^◌, ℕ, Bool, true, false, not, cond, List, [], ◌∷◌, ◌++◌, Option, Some, None, sym, subst, arith}
use Rattle.std.specs.Prelude.{◌==◌, ◌&&◌}
use Rattle.std.specs.List.{AllByRecursion}
use Rattle.bk_bytes.specs.Cell.{Row}
use Rattle.bk_cells.specs.Cells.{cell_after, cell_from, cell_of}
use Rattle.bk_ids.specs.declared.record.Place.{Place}
use Rattle.bk_lemmas.specs.Lists.{all_filter, all_joined, all_middle}
use Rattle.bk_shown.specs.Readings.{pending-with}
use Rattle.bk_shown.specs.Shown.{ArePlaced, IsPlaced}
use Rattle.bk_shown.specs.Values.{IsValue}
use Rattle.bk_undo.specs.Cells.{is_place}
use Rattle.bk_undo.specs.Spelled.{cell}
use Rattle.bk_world.specs.Pending as log
use Rattle.bk_world.specs.Pending.{Pending, of_transaction, pending_after}
use Rattle.bk_world.specs.Records.{Deed, Logged, database_made, table_made, begun, written, committed, rolled_back, undone, checkpointed, stamped, model_set, loaded, recovered}
use Rattle.bk_world.specs.SoundLogs.{IsSound, MayCome, MayFollow}
use Rattle.bk_world.specs.Telling as telling
use Rattle.bk_world.specs.declared.database.FileSpec.{FileSpec}
use Rattle.bk_reopening.specs.Cells.{IsTextCell}

-- what was there before a pending write fits into its cell
abbrev BeforeFits : Pending → Type 0
BeforeFits w = IsTextCell (cell w.change.table w.change.key w.before)

abbrev FitAll : List Pending → (Place → Option Row) → Type 0
FitAll ws cells = AllByRecursion BeforeFits ws × ((at : Place) → IsTextCell (cells at))

value-fits : (table key : ℕ) (value : Option (List ℕ)) → table < 2 ^ 32 → key ≤ 9223372036854775807 → IsValue value → IsTextCell (cell table key value)
value-fits table key None low few is = tt
value-fits table key (Some text) low few is = (record { table = low; key = omega (arith, few); value = is.0 }, is.1)

set-fits : (t : Bool) (a b : Option Row) → IsTextCell a → IsTextCell b → IsTextCell (cond t a b)
set-fits true a b one two = one
set-fits false a b one two = two

module _ (files : List FileSpec) (front : List Logged) (n begin : ℕ) (cells : Place → Option Row) (fit : FitAll (log.pending front) cells) where
  undone-fits : (at : Place) (c : _) (k : ℕ) → MayCome front n begin (undone at c k) → IsTextCell (cell c.table c.key c.value)
  undone-fits at c k may =
      let own : AllByRecursion BeforeFits (of_transaction begin (log.pending front)) = all_filter BeforeFits (λ w. w.begin == begin) (log.pending front) fit.0 in
      let its : BeforeFits may.write = all_middle BeforeFits may.before may.write [] (subst (AllByRecursion BeforeFits) may.last own) in
      subst (λ (d : _). IsTextCell (cell d.table d.key d.value)) (sym may.back) its

  fit-after : (d : Deed) → MayCome front n begin d → IsPlaced files (telling.tables front) d → FitAll (pending_after (log.pending front) n begin d) (λ at. cell_after d at (cells at))
  fit-after (written place before c) may placed = (
    all_joined BeforeFits (log.pending front) ((record { lsn = n; begin = begin; place = place; before = before; change = c; extents = [] }) ∷ []) fit.0
        (value-fits c.table c.key before placed.0.table_fits placed.0.key_fits placed.0.before_fits, tt),
    λ at. set-fits (is_place at place) (cell c.table c.key c.value) (cells at) (value-fits c.table c.key c.value placed.0.table_fits placed.0.key_fits placed.0.value_fits) (fit.1 at),
  )
  fit-after (undone place c k) may placed = (
    all_filter BeforeFits (λ w. not (w.begin == begin && w.lsn == k)) (log.pending front) fit.0,
    λ at. set-fits (is_place at place) (cell c.table c.key c.value) (cells at) (undone-fits place c k may) (fit.1 at),
  )
  fit-after (committed time mark) may placed = (all_filter BeforeFits (λ w. not (w.begin == begin)) (log.pending front) fit.0, fit.1)
  fit-after rolled_back may placed = (all_filter BeforeFits (λ w. not (w.begin == begin)) (log.pending front) fit.0, fit.1)
  fit-after (loaded load) may placed = absurd placed
  fit-after (database_made time family branch) may placed = fit
  fit-after (table_made time spec) may placed = fit
  fit-after begun may placed = fit
  fit-after (checkpointed time) may placed = fit
  fit-after (stamped time set) may placed = fit
  fit-after (model_set time model) may placed = fit
  fit-after (recovered branch) may placed = fit

fit-along : (files : List FileSpec) (front rest : List Logged) (cells : Place → Option Row) → MayFollow front rest → ArePlaced files front rest → FitAll (log.pending front) cells → (at : Place) → IsTextCell (cell_from rest at (cells at))
fit-along files front [] cells follow placed fit at = fit.1 at
fit-along files front (r ∷ rest) cells follow placed fit at =
    let next = fit-after files front r.lsn r.begin cells fit r.deed follow.0 placed.0 in
    fit-along files (front ++ r ∷ []) rest (λ p. cell_after r.deed p (cells p)) follow.1 placed.1
    (subst (AllByRecursion BeforeFits) (sym (pending-with front r.lsn r.begin r.deed)) next.0, next.1) at

-- so all cells of such a log do
pub cells-fit : (files : List FileSpec) (rs : List Logged) → IsSound rs → ArePlaced files [] rs → (at : Place) → IsTextCell (cell_of rs at)
unfolding cell_of log.pending
cells-fit files rs sound placed at = fit-along files [] rs (λ p. None) sound placed (tt, λ p. tt) at
