use Rattle.std.proofs.Common.{◌≤◌, length, arith}
use Rattle.bk_bytes.specs.Field.{AreBytes}
use Rattle.bk_bytes.specs.CellView.{row_of}
use Rattle.bk_record.proofs.ImageRuns.{image_read, image_unread}
use Rattle.bk_record.proofs.reading.split_image.Goals as goal

pub returns-in_err-_cell : goal.returns-in_err-_cell
returns-in_err-_cell c =
    let long : 128 ≤ length c.args.bytes.now = omega (arith, c.in_ok-image.ensures.cases.2) in
    let fits : AreBytes c.args.bytes.now = λ i. omega (arith, c.type_inv.bytes i) in
    rw c.from_residual-in_err-_cell.ensures (image_unread c.args.bytes.now c.in_ok-image.image.now fits long c.in_ok-image.ensures.cases.0 c.in_err-_cell.ensures)

pub returns : goal.returns
returns c =
    let long : 128 ≤ length c.args.bytes.now = omega (arith, c.in_ok-image.ensures.cases.2) in
    rw c.in_ok-image.ensures.cases.1 (image_read c.args.bytes.now c.in_ok-image.image.now long c.in_ok-image.ensures.cases.0 (row_of c.in_ok-_cell._cell, c.in_ok-_cell.ensures))
