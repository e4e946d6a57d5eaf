use Rattle.std.proofs.Common.{rules, arith}
use Rattle.bk_record.proofs.Skims.{write_there}
use Rattle.bk_record.proofs.skimming.is_write.Goals as goal

pub returns-then-bytes-ge-WRITE_LEN-clause-is : goal.returns-then-bytes-ge-WRITE_LEN-clause-is
returns-then-bytes-ge-WRITE_LEN-clause-is c is r after begins = write_there c.args.bytes.now c.kind_of.result r after (c.kind_of.ensures (omega (arith, c.if-bytes-ge-WRITE_LEN.true))) (search rules) begins
