use Rattle.bk_redo.proofs.Indexes.{one_more_indexed}
use Rattle.bk_redo.proofs.index.index_of.Goals as goal

pub loop-i-preserved : goal.loop-i-preserved
loop-i-preserved c =
    one_more_indexed c.args.places.now c.loop-i.i (record { file = 0; page = 0 }) c.loop-i.index.entries c.insert.new.self.entries
    c.loop-i-test.true c.loop-i.invariant (c.in_ok-insert.ensures.updates.0)
