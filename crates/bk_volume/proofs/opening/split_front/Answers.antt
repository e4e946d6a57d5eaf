use Rattle.std.proofs.Common.{arith}
use Rattle.bk_bytes.specs.Field.{AreBytes}
use Rattle.bk_volume.proofs.Fronts.{front_rest, front_split}
use Rattle.bk_volume.proofs.opening.split_front.Goals as goal

pub overflow_sub-result : goal.overflow_sub-result
overflow_sub-result c =
    let fits : AreBytes c.args.bytes.now = λ i. omega (arith, c.type_inv.bytes i) in
    front_rest c.args.bytes.now c.in-Ok.rest.now _ fits c.in-Ok.ensures

pub returns-in-Ok-clause-front : goal.returns-in-Ok-clause-front
returns-in-Ok-clause-front c =
    let fits : AreBytes c.args.bytes.now = λ i. omega (arith, c.type_inv.bytes i) in
    front_split c.args.bytes.now c.in-Ok.rest.now _ fits c.in-Ok.ensures

pub returns-in-Err-Unspelled-clause-front : goal.returns-in-Err-Unspelled-clause-front
returns-in-Err-Unspelled-clause-front c = rw c.in-Err-Unspelled.field-0-is at c.in-Err-Unspelled.ensures
