use Rattle.std.proofs.Common.{◌≡◌, false, length}
use Rattle.bk_device.specs.Calls.{ChangesNothing}
use Rattle.bk_device.specs.Counts.{HasCause}
use Rattle.bk_settling.proofs.settling.Settling.settle.Given as goal

abbrev pub invariant-loop-self : goal.invariant-loop-self
invariant-loop-self g l = record {
  whole : l.self.noted.lost ≡ false;
  nothing : g.D.Device.tells → ChangesNothing (g.D.Device.disk l.fn.self.device.now) (g.D.Device.disk l.self.device.now);
  cause : HasCause g.D.Device.disk_faults g.D.Device.tell_faults l.fn.self.device.now l.self.device.now ⊥;
}

abbrev pub decreases-loop-self : goal.decreases-loop-self
decreases-loop-self g l = length l.self.noted.names.items
