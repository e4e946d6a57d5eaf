use Rattle.std.proofs.Common.{◌≤◌, ◌+◌, ◌-◌, ℕ, List, length}
use Rattle.bk_gate.specs.Gate.{AreUpTo}
use Rattle.bk_segments.specs.Records.{IsRun}
use Rattle.bk_segments.proofs.walk.walk_blobs.Given as goal

abbrev pub invariant-blobs : goal.invariant-blobs
invariant-blobs l = record {
  inside : l.gate ≤ length l.file;
  run : (blobs : List (List ℕ)) × AreUpTo l.file l.gate blobs × IsRun l.from blobs l.at;
}

abbrev pub decreases-blobs : goal.decreases-blobs
decreases-blobs l = length l.file + 1 - l.gate
