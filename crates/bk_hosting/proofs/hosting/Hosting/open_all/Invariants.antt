use Rattle.std.proofs.Common.{◌≡◌, ◌-◌, ℕ, List, length}
use Rattle.bk_device.specs.Calls.{ChangesNothing}
use Rattle.bk_device.specs.Counts.{HasCause}
use Rattle.bk_device.specs.Effects.{Effect}
use Rattle.bk_hosted.specs.Hosted.{Hosted}
use Rattle.bk_stores.specs.Quiet.{AreQuiet}
use Rattle.bk_stores.specs.Standing.{AreStanding}
use Rattle.bk_stores.specs.Stores.{IsOurs, TouchesOurs}
use Rattle.bk_hosting.specs.Hosting.{own_of}
use Rattle.bk_hosting.specs.Loading.{IsOpening, IsPartly, LeavesUndoing}
use Rattle.bk_hosting.proofs.hosting.Hosting.open_all.Given as goal

abbrev pub invariant-stores : goal.invariant-stores
invariant-stores g l = record {
  partly : IsPartly l.self;
  standing : g.D.Device.tells → AreStanding (g.D.Device.disk l.dev) l.self.stores;
  opening : g.D.Device.tells → (hosted : List Hosted) → IsOpening (g.D.Device.disk l.fn.dev) l.fn.self hosted → IsOpening (g.D.Device.disk l.dev) l.self hosted;
  own : own_of l.self ≡ own_of l.fn.self;
  crash : g.D.Device.tells → (number : ℕ) (hosted : List Hosted) → IsOpening (g.D.Device.disk l.fn.dev) l.fn.self hosted → Effect IsOurs (LeavesUndoing number (own_of l.fn.self) hosted) (g.D.Device.disk l.fn.dev) (g.D.Device.disk l.dev);
  touches : g.D.Device.tells → TouchesOurs (g.D.Device.disk l.fn.dev) (g.D.Device.disk l.dev);
  still : g.D.Device.tells → AreQuiet (g.D.Device.disk l.fn.dev).files → ChangesNothing (g.D.Device.disk l.fn.dev) (g.D.Device.disk l.dev);
  cause : HasCause g.D.Device.disk_faults g.D.Device.tell_faults l.fn.dev l.dev ⊥;
}

abbrev pub decreases-stores : goal.decreases-stores
decreases-stores g l = length l.self.stores.slots - length l.self.states
