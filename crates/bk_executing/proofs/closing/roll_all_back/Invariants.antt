use Rattle.std.proofs.Common.{◌≡◌}
use Rattle.bk_device.specs.Counts.{HasCause}
use Rattle.bk_machine.specs.Sound.{AreIdle}
use Rattle.bk_machine.specs.World.{World}
use Rattle.bk_engine.specs.Stands.{IsReady, NamesSet, StandsFor, own_in}
use Rattle.bk_engine.specs.Touched.{NoMedium, TouchesOnly}
use Rattle.bk_stores.specs.Standing.{AreStanding}
use Rattle.bk_executing.proofs.Closings.{RollsTo}
use Rattle.bk_executing.proofs.closing.roll_all_back.Given as goal

abbrev pub invariant-loop-round : goal.invariant-loop-round
invariant-loop-round g l = record {
  ready : IsReady l.engine;
  own : NamesSet (own_in l.fn.engine).staging l.fn.engine l.engine;
  standing : g.D.Device.tells → AreStanding (g.D.Device.disk l.dev) l.engine.hosting.stores;
  rolls : g.D.Device.tells → (w : World) → StandsFor (g.D.Device.disk l.fn.dev) l.fn.engine w → RollsTo l._round w (g.D.Device.disk l.fn.dev) l.engine (g.D.Device.disk l.dev);
  still : g.D.Device.tells → (w : World) → StandsFor (g.D.Device.disk l.fn.dev) l.fn.engine w → AreIdle w → (l.dev ≡ l.fn.dev) × (l.engine ≡ l.fn.engine);
  touches : g.D.Device.tells → TouchesOnly NoMedium (g.D.Device.disk l.fn.dev) (g.D.Device.disk l.dev);
  cause : HasCause g.D.Device.disk_faults g.D.Device.tell_faults l.fn.dev l.dev ⊥;
}
