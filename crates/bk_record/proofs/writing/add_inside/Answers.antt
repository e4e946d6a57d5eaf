use Rattle.std.proofs.Common.{arith}
use Rattle.bk_record.specs.LengthLaws.{inside_short}
use Rattle.bk_record.proofs.writing.add_inside.Goals as goal

pub returns-clause-fits : goal.returns-clause-fits
returns-clause-fits c = record {
  lsn = omega arith;
  begin = omega arith;
  body = c.add_body.ensures.fits;
  len = inside_short c.args.r.now c.add_body.ensures.fits c.requires.limits;
}
