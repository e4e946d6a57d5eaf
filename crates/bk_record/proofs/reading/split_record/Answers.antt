use Rattle.std.proofs.Common.{arith}
use Rattle.bk_record.specs.Laws.{record_given}
use Rattle.bk_record.proofs.reading.split_record.Goals as goal

pub returns : goal.returns
returns c = record_given c.args.bytes.now c.split_framed.result (λ i. omega (arith, c.type_inv.bytes i)) c.split_framed.ensures
