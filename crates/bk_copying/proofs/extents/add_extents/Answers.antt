use Rattle.std.proofs.Common.{sym}
use Rattle.std.proofs.lemmas.List.{append-nil}
use Rattle.bk_copying.proofs.Listed.{to-more}
use Rattle.bk_copying.proofs.extents.add_extents.Goals as goal

pub loop-i-init : goal.loop-i-init
loop-i-init c = sym (append-nil c.args.extents.now.items)

pub loop-i-preserved : goal.loop-i-preserved
loop-i-preserved c = to-more c.args.extents.now.items c.loop-i.extents.items c.push.new.self.items c.args.file c.loop-i.i c.loop-i.invariant c.in_ok-push.ensures.items
