use Rattle.bk_device.specs.Counts.{HasCause}
use Rattle.bk_filling.proofs.Removed.{RemovedSome}
use Rattle.bk_filling.proofs.removing.remove_files.Given as goal

abbrev pub invariant-files : goal.invariant-files
invariant-files g l = record {
  removed : g.D.Device.tells → RemovedSome l.names l.name-index (g.D.Device.disk l.fn.dev) (g.D.Device.disk l.dev);
  cause : HasCause g.D.Device.disk_faults g.D.Device.tell_faults l.fn.dev l.dev ⊥;
}
