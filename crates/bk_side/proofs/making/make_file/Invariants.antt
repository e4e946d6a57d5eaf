use Rattle.bk_device.specs.Calls.{contents}
use Rattle.bk_device.specs.Counts.{HasCause}
use Rattle.bk_device.specs.Effects.{Effect, IsName}
use Rattle.bk_side.specs.Making.{IsFreshFile}
use Rattle.bk_side.proofs.making.make_file.Given as goal

abbrev pub invariant-pages : goal.invariant-pages
invariant-pages g l = record {
  fresh : g.D.Device.tells → IsFreshFile l.file l.number (contents ((g.D.Device.disk l.dev).files l.name));
  effect : g.D.Device.tells → Effect (IsName l.name) (λ _. Unit {0}) (g.D.Device.disk l.fn.dev) (g.D.Device.disk l.dev);
  cause : HasCause g.D.Device.disk_faults g.D.Device.tell_faults l.fn.dev l.dev ⊥;
}
