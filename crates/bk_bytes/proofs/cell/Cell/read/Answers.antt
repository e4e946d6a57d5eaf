use Rattle.bk_bytes.specs.CellView.{row_of}
use Rattle.bk_bytes.specs.CellLaws.{cell_read, cell_unread}
use Rattle.bk_bytes.proofs.cell.Cell.read.Goals as goal

pub returns-in_err-cell : goal.returns-in_err-cell
returns-in_err-cell c = rw c.from_residual.ensures (cell_unread c.args.image.now c.in_err-cell.ensures)

pub returns : goal.returns
returns c = cell_read c.args.image.now (row_of c.in_ok-cell.cell) c.in_ok-cell.field-0-1.now c.fits-image c.told-image c.in_ok-cell.ensures
