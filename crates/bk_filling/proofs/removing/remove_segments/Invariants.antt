use Rattle.bk_device.specs.Counts.{HasCause}
use Rattle.bk_filling.proofs.Removed.{RemovedTo}
use Rattle.bk_filling.proofs.removing.remove_segments.Given as goal

abbrev pub invariant-segments : goal.invariant-segments
invariant-segments g l = record {
  removed : g.D.Device.tells → RemovedTo l.db l.from l.to l.n (g.D.Device.disk l.fn.dev) (g.D.Device.disk l.dev);
  cause : HasCause g.D.Device.disk_faults g.D.Device.tell_faults l.fn.dev l.dev ⊥;
}
