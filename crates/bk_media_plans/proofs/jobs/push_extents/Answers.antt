use Rattle.bk_media_plans.proofs.Extents.{extents-first, extents-last, extents-more}
use Rattle.bk_media_plans.proofs.jobs.push_extents.Goals as goal

pub loop-i-init : goal.loop-i-init
loop-i-init c = extents-first c.args.extents.now.items c.args.file c.args.count

pub loop-i-preserved : goal.loop-i-preserved
loop-i-preserved c =
    extents-more c.loop-i.extents.items c.push.new.self.items _ c.args.file c.args.count c.loop-i.i c.loop-i-test.true c.loop-i.invariant c.in_ok-push.ensures.items

pub returns : goal.returns
returns c = extents-last c.loop-i.extents.items _ c.args.file c.args.count c.loop-i.i c.loop-i-test.false c.loop-i.invariant
