use Rattle.std.proofs.Common.{◌≤◌, ◌<◌, ℕ}
use Rattle.bk_device.specs.Calls.{ChangesNothing}
use Rattle.bk_device.specs.Counts.{HasCause}
use Rattle.bk_device.specs.Disk.{IsDurable}
use Rattle.bk_segments.specs.Files.{segment_file}
use Rattle.bk_segments.proofs.settling.sync_segments.Given as goal

abbrev pub invariant-loop-n : goal.invariant-loop-n
invariant-loop-n g l = record {
  durable : g.D.Device.tells → (n : ℕ) → l.from ≤ n → n < l.n → IsDurable (g.D.Device.disk l.dev) (segment_file l.db n);
  effect : g.D.Device.tells → ChangesNothing (g.D.Device.disk l.fn.dev) (g.D.Device.disk l.dev);
  cause : HasCause g.D.Device.disk_faults g.D.Device.tell_faults l.fn.dev l.dev ⊥;
}
