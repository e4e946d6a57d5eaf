use Rattle.bk_bytes.specs.Codec.{times_at}
use Rattle.bk_bytes.specs.LoopLaws.{goes_on, is_done, stops}
use Rattle.bk_points.specs.Points.{unit_form}
use Rattle.bk_points.proofs.reading.read_so_many.Goals as goal

pub returns : goal.returns
returns c = is_done unit_form.reading c.loop.units.items c.args.count c.loop.counter c.loop.rest.now (times_at unit_form.reading c.args.count c.args.bytes.now) c.loop-test.false c.loop.invariant

pub returns-in_default : goal.returns-in_default
returns-in_default c = stops unit_form.reading c.loop.units.items c.args.count c.loop.counter c.loop.rest.now (times_at unit_form.reading c.args.count c.args.bytes.now) c.loop-test.true c.in_default.ensures c.loop.invariant

pub loop-preserved : goal.loop-preserved
loop-preserved c =
    rw c.in_ok-push.ensures.items (goes_on unit_form.reading c.loop.units.items c.args.count c.loop.counter c.loop.rest.now c.in-Some.unit c.in-Some.after.now (times_at unit_form.reading c.args.count c.args.bytes.now) c.loop-test.true c.in-Some.ensures c.loop.invariant)
