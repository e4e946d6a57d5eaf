use Rattle.std.proofs.Common.{◌∙◌, ap}
use Rattle.bk_asked.proofs.Laying.{laid-next, row_behind}
use Rattle.bk_asked.proofs.sights.lay_over.Goals as goal

pub loop-write-preserved : goal.loop-write-preserved
loop-write-preserved c =
    laid-next c.args.begin c.args.table c.args.rows.now.items c.loop-write.rows.items c.lay_one.new.rows.items c.args.written.now c.loop-write.write-index c.write-item.result c.loop-write-test.true c.loop-write.invariant
    (c.in_ok-lay_one.ensures ∙ ap (row_behind c.args.begin c.args.table c.loop-write.rows.items) c.write-item.is)
