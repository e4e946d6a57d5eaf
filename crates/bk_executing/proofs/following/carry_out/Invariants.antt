use Rattle.std.proofs.Common.{◌≡◌, [], take}
use Rattle.std.specs.Prelude.{None}
use Rattle.bk_device.specs.Counts.{HasCause}
use Rattle.bk_engine.specs.Stands.{IsReady, NamesSet, own_in}
use Rattle.bk_engine.specs.Touched.{TouchesOnly}
use Rattle.bk_stores.specs.Standing.{AreStanding}
use Rattle.bk_executing.specs.Executing.{Rests}
use Rattle.bk_executing.specs.Parts.{CutsParts, DoesParts, PartsWrite}
use Rattle.bk_executing.proofs.following.carry_out.Given as goal

abbrev pub invariant-loop-part : goal.invariant-loop-part
invariant-loop-part g l = record {
  ready : IsReady l.engine;
  none : (own_in l.engine).staging ≡ None;
  own : NamesSet None l.fn.engine l.engine;
  standing : g.D.Device.tells → AreStanding (g.D.Device.disk l.dev) l.engine.hosting.stores;
  does : g.D.Device.tells → DoesParts l.fn.engine (g.D.Device.disk l.fn.dev) (take l.part-index l.parts) l.engine (g.D.Device.disk l.dev);
  crash : g.D.Device.tells → CutsParts l.fn.engine (g.D.Device.disk l.fn.dev) l.parts (g.D.Device.disk l.dev);
  still : g.D.Device.tells → l.parts ≡ [] → Rests l.fn.engine (g.D.Device.disk l.fn.dev) l.engine (g.D.Device.disk l.dev);
  touches : g.D.Device.tells → TouchesOnly (PartsWrite l.parts) (g.D.Device.disk l.fn.dev) (g.D.Device.disk l.dev);
  cause : HasCause g.D.Device.disk_faults g.D.Device.tell_faults l.fn.dev l.dev ⊥;
}
