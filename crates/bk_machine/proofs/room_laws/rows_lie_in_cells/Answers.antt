use Rattle.bk_machine.proofs.CellCount.{few-rows}
use Rattle.bk_machine.proofs.room_laws.rows_lie_in_cells.Goals as goal

pub returns : goal.returns
returns c = few-rows
