use Rattle.bk_engine.proofs.Viewed.{SoFar}
use Rattle.bk_engine.proofs.viewing.ends_of.Given as goal
use Rattle.bk_engine.specs.Viewing.{IsEndOf}

abbrev pub invariant-loop-at : goal.invariant-loop-at
invariant-loop-at l = SoFar IsEndOf l.hosting.states l.ends.items l.at
