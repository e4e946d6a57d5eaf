use Rattle.std.proofs.Common.{◌≡◌, ◌*◌, false, length}
use Rattle.std.specs.Prelude.{IsSome}
use Rattle.bk_device.specs.Counts.{HasCause}
use Rattle.bk_volume.proofs.Copying.{Copying}
use Rattle.bk_volume.proofs.piece.copy_part.Given as goal

abbrev pub invariant-pieces : goal.invariant-pieces
invariant-pieces g l = record {
  fit : l.gate.failed ≡ false;
  begun : IsSome l.gate.begun;
  same : l.gate ≡ record l.fn.gate { begun = l.gate.begun; is_closed = l.gate.is_closed };
  size : length l.buffer ≡ 1048576;
  copied : g.D.Device.tells → Copying l.from l.at (1048576 * l.i) l.fn.gate l.gate l.hasher (g.D.Device.disk l.fn.dev) (g.D.Device.disk l.dev);
  cause : HasCause g.D.Device.disk_faults g.D.Device.tell_faults l.fn.dev l.dev ⊥;
}
