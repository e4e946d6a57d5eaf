use Rattle.std.proofs.Common.{◌≡◌, length}
use Rattle.bk_device.specs.Calls.{ChangesNothing}
use Rattle.bk_device.specs.Counts.{HasCause}
use Rattle.bk_side.specs.Side.{pages_of}
use Rattle.bk_opening.specs.Opening.{AreRead}
use Rattle.bk_opening.proofs.reading.read_frames.Given as goal

abbrev pub invariant-pages : goal.invariant-pages
invariant-pages g l = record {
  nothing : g.D.Device.tells → ChangesNothing (g.D.Device.disk l.fn.dev) (g.D.Device.disk l.dev);
  read : g.D.Device.tells → AreRead (pages_of l.side (g.D.Device.disk l.fn.dev).files) l.places l.i l.frames;
  size : length l.frames ≡ length l.fn.frames;
  cause : HasCause g.D.Device.disk_faults g.D.Device.tell_faults l.fn.dev l.dev ⊥;
}
