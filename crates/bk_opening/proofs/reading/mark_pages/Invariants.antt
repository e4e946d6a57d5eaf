use Rattle.bk_opening.specs.Opening.{Marks}
use Rattle.bk_opening.proofs.reading.mark_pages.Given as goal

abbrev pub invariant-loop-i : goal.invariant-loop-i
invariant-loop-i l = Marks l.from l.i l.fn.pool l.pool
