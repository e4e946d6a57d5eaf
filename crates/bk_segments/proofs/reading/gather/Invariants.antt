use Rattle.std.proofs.Common.{◌≡◌}
use Rattle.bk_device.specs.Calls.{ChangesNothing}
use Rattle.bk_device.specs.Counts.{HasCause}
use Rattle.bk_segments.specs.Files.{blobs_at, blobs_from}
use Rattle.bk_segments.specs.Records.{joined}
use Rattle.bk_segments.proofs.reading.gather.Given as goal

abbrev pub invariant-loop-i : goal.invariant-loop-i
invariant-loop-i g l = record {
  nothing : g.D.Device.tells → ChangesNothing (g.D.Device.disk l.fn.dev) (g.D.Device.disk l.dev);
  bytes : g.D.Device.tells → l.bytes.items ≡ joined (blobs_from (blobs_at (g.D.Device.disk l.fn.dev).files l.db) l.head.front l.i);
  cause : HasCause g.D.Device.disk_faults g.D.Device.tell_faults l.fn.dev l.dev ⊥;
}
