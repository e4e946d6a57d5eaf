use Rattle.std.proofs.Common.{arith}
use Rattle.bk_bytes.specs.Field.{AreBytes}
use Rattle.bk_header.specs.Laws.{header_found, header_shorter, header_unread}
use Rattle.bk_header.proofs.decoding.decode.Goals as goal

pub overflow_sub-result : goal.overflow_sub-result
overflow_sub-result c =
    let fits : AreBytes c.args.b.now = λ i. omega (arith, c.type_inv.b i) in
    header_shorter c.args.b.now c.in-Ok.header c.in-Ok.rest.now fits c.in-Ok.ensures

pub returns-in-Ok : goal.returns-in-Ok
returns-in-Ok c =
    let fits : AreBytes c.args.b.now = λ i. omega (arith, c.type_inv.b i) in
    header_found c.args.b.now c.in-Ok.header c.in-Ok.rest.now fits c.in-Ok.ensures

pub returns-in-Err-Unspelled : goal.returns-in-Err-Unspelled
returns-in-Err-Unspelled c = header_unread c.args.b.now (rw c.in-Err-Unspelled.field-0-is at c.in-Err-Unspelled.ensures)
