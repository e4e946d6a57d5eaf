use Rattle.std.proofs.Common.{◌≤◌, ◌-◌, max}
use Rattle.bk_device.specs.Calls.{contents}
use Rattle.bk_device.specs.Counts.{HasCause}
use Rattle.bk_device.specs.Effects.{Effect, IsName}
use Rattle.bk_control.specs.Stands.{Lengthens}
use Rattle.bk_control.proofs.Growing.{Growing}
use Rattle.bk_control.proofs.whole.lengthen.Given as goal

abbrev pub invariant-pieces : goal.invariant-pieces
invariant-pieces g l = record {
  order : l.from ≤ l.at;
  bound : l.at ≤ max l.from l.to;
  file : g.D.Device.tells → Lengthens l.at (contents ((g.D.Device.disk l.fn.dev).files l.name)) (contents ((g.D.Device.disk l.dev).files l.name));
  effect : g.D.Device.tells → Effect (IsName l.name) (Growing l.name l.to (g.D.Device.disk l.fn.dev)) (g.D.Device.disk l.fn.dev) (g.D.Device.disk l.dev);
  cause : HasCause g.D.Device.disk_faults g.D.Device.tell_faults l.fn.dev l.dev ⊥;
}

abbrev pub decreases-pieces : goal.decreases-pieces
decreases-pieces g l = l.to - l.at
