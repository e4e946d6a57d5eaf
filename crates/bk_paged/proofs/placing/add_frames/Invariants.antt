use Rattle.bk_device.specs.Counts.{HasCause}
use Rattle.bk_paged.proofs.Adding.{Adding}
use Rattle.bk_paged.proofs.placing.add_frames.Given as goal

abbrev pub invariant-frames : goal.invariant-frames
invariant-frames g l = record {
  adding : Adding g.D.Device.tells l.pool l.i (g.D.Device.disk l.fn.dev) (g.D.Device.disk l.dev) l.fn.side l.side;
  cause : HasCause g.D.Device.disk_faults g.D.Device.tell_faults l.fn.dev l.dev ⊥;
}
