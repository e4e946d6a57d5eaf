use Rattle.std.specs.Prelude.{◌≤◌}
use Rattle.bk_device.specs.Counts.{HasCause}
use Rattle.bk_paged.specs.Log.{KeepsSpare}
use Rattle.bk_paged.specs.Paged.{Standing, Touches}
use Rattle.bk_store.proofs.Copied.{Copying}
use Rattle.bk_store.proofs.store.Store.read_extent.Given as goal

abbrev pub invariant-pages : goal.invariant-pages
invariant-pages g l = record {
  within : l.i ≤ 8;
  copying : Copying g.D.Device.tells l.file l.extent l.i (g.D.Device.disk l.fn.dev) (g.D.Device.disk l.dev) l.fn.self l.self l.copy.items;
  standing : g.D.Device.tells → Standing (g.D.Device.disk l.dev) l.self.paged;
  touches : g.D.Device.tells → Touches l.fn.self.paged (g.D.Device.disk l.fn.dev) (g.D.Device.disk l.dev);
  spare : KeepsSpare l.fn.self.paged.log l.self.paged.log;
  cause : HasCause g.D.Device.disk_faults g.D.Device.tell_faults l.fn.dev l.dev ⊥;
}
