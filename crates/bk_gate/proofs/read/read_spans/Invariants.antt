use Rattle.std.proofs.Common.{◌≡◌, ◌≤◌, ◌-◌, ◌+◌, length}
use Rattle.bk_device.specs.Calls.{contents, ChangesNothing}
use Rattle.bk_device.specs.Counts.{HasCause}
use Rattle.bk_gate.specs.Gate.{Lies, AreWithin}
use Rattle.bk_gate.proofs.read.read_spans.Given as goal

abbrev pub invariant-blobs : goal.invariant-blobs
invariant-blobs g l = record {
  inside : l.gate ≤ l.len;
  nothing : g.D.Device.tells → ChangesNothing (g.D.Device.disk l.fn.dev) (g.D.Device.disk l.dev);
  lies : g.D.Device.tells → l.len ≡ length (contents ((g.D.Device.disk l.fn.dev).files l.name)) → Lies (contents ((g.D.Device.disk l.fn.dev).files l.name)) 16 l.spans.items l.gate;
  within : AreWithin l.gate l.spans.items;
  cause : HasCause g.D.Device.disk_faults g.D.Device.tell_faults l.fn.dev l.dev ⊥;
}

abbrev pub decreases-blobs : goal.decreases-blobs
decreases-blobs g l = l.len + 1 - l.gate
