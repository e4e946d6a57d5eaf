use Rattle.bk_device.specs.Calls.{ChangesNothing}
use Rattle.bk_device.specs.Counts.{HasCause}
use Rattle.bk_side.proofs.Files.{Syncing}
use Rattle.bk_side.proofs.copying.sync_files.Given as goal

abbrev pub invariant-files : goal.invariant-files
invariant-files g l = record {
  synced : g.D.Device.tells → Syncing l.names l.name-index (g.D.Device.disk l.fn.dev) (g.D.Device.disk l.dev);
  still : g.D.Device.tells → ChangesNothing (g.D.Device.disk l.fn.dev) (g.D.Device.disk l.dev);
  cause : HasCause g.D.Device.disk_faults g.D.Device.tell_faults l.fn.dev l.dev ⊥;
}
