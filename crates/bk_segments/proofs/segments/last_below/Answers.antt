use Rattle.std.proofs.Common.{arith}
use Rattle.bk_segments.proofs.Counting.{below_here, below_not}
use Rattle.bk_segments.proofs.segments.last_below.Goals as goal

pub returns-then-first_of-to : goal.returns-then-first_of-to
returns-then-first_of-to c below = below_here c.args.segments.now c.args.to c.args.count c.args.i c.first_of.result c.requires.least c.requires.inside below c.first_of.ensures c.if-first_of-to.true

pub returns-else-first_of-to : goal.returns-else-first_of-to
returns-else-first_of-to c below = below_not c.args.segments.now c.args.to c.args.count c.args.i c.first_of.result below c.first_of.ensures (omega (arith, c.if-first_of-to.false))
