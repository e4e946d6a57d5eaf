use Rattle.bk_cells.proofs.Rows.{cells_are_rows}
use Rattle.bk_cells.proofs.laws.rows_law.Goals as goal

pub returns : goal.returns
returns c = cells_are_rows c.holding_law.ensures.writes c.holding_law.ensures.commits c.holding_law.ensures.undoes c.cells_law.ensures.settled c.placed_logs.ensures.keeps c.cells_law.ensures.begins
