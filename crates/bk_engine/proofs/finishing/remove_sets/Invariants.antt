use Rattle.bk_device.specs.Counts.{HasCause}
use Rattle.bk_device.specs.Effects.{Effect}
use Rattle.bk_engine.specs.Stands.{IsStagingFile}
use Rattle.bk_engine.specs.Touched.{NoMedium, TouchesOnly}
use Rattle.bk_engine.proofs.finishing.remove_sets.Given as goal

abbrev pub invariant-loop-set : goal.invariant-loop-set
invariant-loop-set g l = record {
  crash : g.D.Device.tells → Effect IsStagingFile (λ image. Unit {0}) (g.D.Device.disk l.fn.dev) (g.D.Device.disk l.dev);
  touches : g.D.Device.tells → TouchesOnly NoMedium (g.D.Device.disk l.fn.dev) (g.D.Device.disk l.dev);
  cause : HasCause g.D.Device.disk_faults g.D.Device.tell_faults l.fn.dev l.dev ⊥;
}
