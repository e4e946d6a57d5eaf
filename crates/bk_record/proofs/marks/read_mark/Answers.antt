use Rattle.std.proofs.Common.{arith}
use Rattle.bk_bytes.specs.Field.{AreBytes}
use Rattle.bk_record.specs.Laws.{mark_form-IsCodec}
use Rattle.bk_record.specs.Reading.{mark_form}
use Rattle.bk_record.specs.View.{mark_of}
use Rattle.bk_record.proofs.marks.read_mark.Goals as goal

pub own_mark-requires : goal.own_mark-requires
unfolding mark_form
own_mark-requires c =
    let fits : AreBytes c.args.bytes.now = λ i. omega (arith, c.type_inv.bytes i) in
    (mark_form-IsCodec.takes c.args.bytes.now (mark_of c.in-Some.mark) c.in-Some.rest.now fits c.in-Some.ensures).1
