use Rattle.std.proofs.Common.{arith}
use Rattle.bk_record.specs.LengthLaws.{length-spelling}
use Rattle.bk_record.proofs.lengths.spelled_len.Goals as goal

pub returns-clause-len : goal.returns-clause-len
returns-clause-len c = omega (arith, length-spelling c.args.r.now c.requires, c.body_len.ensures.len)
