use Rattle.std.proofs.Common.{◌≤◌, ◌-◌, ◌+◌, length}
use Rattle.bk_gate.specs.Gate.{Lies, AreWithin}
use Rattle.bk_gate.proofs.gate.from_bytes.find_spans.Given as goal

abbrev pub invariant-blobs : goal.invariant-blobs
invariant-blobs l = record {
  inside : l.gate ≤ length l.file;
  lies : Lies l.file 16 l.spans.items l.gate;
  within : AreWithin l.gate l.spans.items;
}

abbrev pub decreases-blobs : goal.decreases-blobs
decreases-blobs l = length l.file + 1 - l.gate
