-- Rows as cells have the values that changes give them.
use Rattle.std.proofs.Common.{◌≡◌, ℕ, cond, List, [], ◌∷◌, map, Option, Some, None, refl, ◌∙◌, ap}
use Rattle.std.specs.Prelude.{if◌then◌else◌}
use Rattle.bk_world.specs.Pending.{Pending, changes_of}
use Rattle.bk_world.specs.Records.{RowId, id_of, is_row}
use Rattle.bk_world.specs.RowLaws.{value_behind}
use Rattle.bk_undo.specs.Cells.{rows_written, value_in}
use Rattle.bk_undo.specs.Holds.{cell_write}
use Rattle.bk_undo.specs.Spelled.{cell}

value-cell : (table key : ℕ) (v : Option (List ℕ)) → value_in (cell table key v) ≡ v
value-cell table key None = refl
value-cell table key (Some v) = refl

pub written-behind : (ws : List Pending) (rows : RowId → Option (List ℕ)) (id : RowId) → rows_written (map cell_write ws) rows id ≡ value_behind id (changes_of ws) (rows id)
written-behind [] rows id = refl
written-behind (w ∷ ws) rows id =
    written-behind ws (λ other. if is_row (id_of w.change) other then value_in (cell w.change.table w.change.key w.change.value) else rows other) id
    ∙ ap (λ v. value_behind id (changes_of ws) (cond (is_row (id_of w.change) id) v (rows id))) (value-cell w.change.table w.change.key w.change.value)
