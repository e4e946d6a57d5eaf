use Rattle.std.proofs.Common.{arith}
use Rattle.std.proofs.lemmas.Option.{slice_get_within}
use Rattle.bk_segments.proofs.Counting.{below_none}
use Rattle.bk_segments.proofs.segments.count_below.Goals as goal

pub loop-i-init : goal.loop-i-init
loop-i-init c = below_none c.args.segments.now c.args.to

pub returns-clause-some : goal.returns-clause-some
returns-clause-some c some = c.loop-i.invariant.within some

pub returns-clause-first : goal.returns-clause-first
returns-clause-first c n some begins = c.loop-i.invariant.first n some begins

pub returns-clause-rest : goal.returns-clause-rest
returns-clause-rest c i n above begins = c.loop-i.invariant.rest i n above (omega (arith, slice_get_within c.args.segments.now i begins.0 begins.1, c.loop-i-test.false)) begins
