use Rattle.bk_device.specs.Counts.{HasCause}
use Rattle.bk_copying.proofs.Taken.{Copying}
use Rattle.bk_copying.proofs.copying.copy_extents.Given as goal

abbrev pub invariant-loop-i : goal.invariant-loop-i
invariant-loop-i g l = record {
  copying : Copying g.D.Device.tells l.extents l.i (g.D.Device.disk l.fn.dev) (g.D.Device.disk l.dev) l.fn.store l.store l.fn.staged l.staged;
  cause : HasCause g.D.Device.disk_faults g.D.Device.tell_faults l.fn.dev l.dev ⊥;
}
