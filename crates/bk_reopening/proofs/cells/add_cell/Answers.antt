use Rattle.std.proofs.Common.{ℕ, ◌+◌, List, [], ◌∷◌, ◌++◌, sym, ◌∙◌, ap, subst}
use Rattle.bk_bytes.specs.Cell.{Row}
use Rattle.bk_bytes.specs.CellView.{row_of}
use Rattle.bk_world.specs.declared.row.PlacedRow.{PlacedRow}
use Rattle.bk_reopening.specs.Cells.{AreFound}
use Rattle.bk_reopening.proofs.Found.{found-row}
use Rattle.bk_reopening.proofs.cells.add_cell.Goals as goal

pub returns-in_ok-push-clause-found : goal.returns-in_ok-push-clause-found
returns-in_ok-push-clause-found c = λ cells files same found.
    let row : Row = record { table = c.in-Used.table; key = c.in-Used.key; value = c.in-Used.value.now } in
    let With : List ℕ → List PlacedRow = λ value. c.args.rows.now.items ++ (record { table = c.in-Used.table; key = c.in-Used.key; value = value; place = c.args.place }) ∷ [] in
    subst (AreFound cells files c.args.place.file c.args.place.page (c.args.place.slot + 1)) (sym (c.in_ok-push.ensures.items ∙ ap With c.in_ok-value.ensures.value))
    (found-row cells files c.args.rows.now.items c.args.place found row (same ∙ ap row_of c.in-Used.is))
