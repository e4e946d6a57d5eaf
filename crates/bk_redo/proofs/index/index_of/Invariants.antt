use Rattle.bk_redo.specs.Frames.{IsIndex}
use Rattle.bk_redo.proofs.index.index_of.Given as goal

abbrev pub invariant-loop-i : goal.invariant-loop-i
invariant-loop-i l = IsIndex l.places l.i l.index.entries
