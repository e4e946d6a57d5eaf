use Rattle.std.proofs.Common.{◌≡◌, ◌*◌, length}
use Rattle.bk_device.specs.Calls.{contents, read_at, ChangesNothing}
use Rattle.bk_device.specs.Counts.{HasCause}
use Rattle.sha2.specs.Hashers.{Holds256}
use Rattle.bk_volume.proofs.digest.digest_of.Given as goal

abbrev pub invariant-pieces : goal.invariant-pieces
invariant-pieces g l = record {
  size : length l.buffer ≡ 1048576;
  hashed : g.D.Device.tells → Holds256 l.hasher (read_at (contents ((g.D.Device.disk l.fn.dev).files l.from)) l.at (1048576 * l.i));
  source : g.D.Device.tells → contents ((g.D.Device.disk l.dev).files l.from) ≡ contents ((g.D.Device.disk l.fn.dev).files l.from);
  effect : g.D.Device.tells → ChangesNothing (g.D.Device.disk l.fn.dev) (g.D.Device.disk l.dev);
  cause : HasCause g.D.Device.disk_faults g.D.Device.tell_faults l.fn.dev l.dev ⊥;
}
