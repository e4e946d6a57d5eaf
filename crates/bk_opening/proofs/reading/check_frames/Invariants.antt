use Rattle.bk_opening.specs.Opening.{AreSound}
use Rattle.bk_opening.proofs.reading.check_frames.Given as goal

abbrev pub invariant-loop-i : goal.invariant-loop-i
invariant-loop-i g l = AreSound l.i l.frames
