use Rattle.bk_device.specs.Counts.{HasCause}
use Rattle.bk_device.specs.Effects.{Effect}
use Rattle.bk_stores.specs.Loading.{IsOfAny}
use Rattle.bk_stores.proofs.loading.remove_all.Given as goal

abbrev pub invariant-stores : goal.invariant-stores
invariant-stores g l = record {
  removed : g.D.Device.tells → Effect (IsOfAny l.unfinished) (λ _. Unit {0}) (g.D.Device.disk l.fn.dev) (g.D.Device.disk l.dev);
  cause : HasCause g.D.Device.disk_faults g.D.Device.tell_faults l.fn.dev l.dev ⊥;
}
