use Rattle.bk_segments.specs.SegmentLaws.{Below}
use Rattle.bk_segments.proofs.segments.count_below.Given as goal

abbrev pub invariant-loop-i : goal.invariant-loop-i
invariant-loop-i l = Below l.segments l.to l.count l.i
