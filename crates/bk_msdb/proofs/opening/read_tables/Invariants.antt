use Rattle.std.proofs.Common.{◌≡◌, take}
use Rattle.bk_device.specs.Calls.{ChangesNothing}
use Rattle.bk_device.specs.Counts.{HasCause}
use Rattle.bk_gate.specs.Blobs.{sealed}
use Rattle.bk_msdb.specs.Msdb.{with_blobs}
use Rattle.bk_msdb.specs.Rows.{no_rows}
use Rattle.bk_msdb.proofs.opening.read_tables.Given as goal

abbrev pub invariant-loop-i : goal.invariant-loop-i
invariant-loop-i g l = record {
  nothing : g.D.Device.tells → ChangesNothing (g.D.Device.disk l.fn.dev) (g.D.Device.disk l.dev);
  tables : g.D.Device.tells → l.tables ≡ with_blobs no_rows (take l.i (sealed ((g.D.Device.disk l.fn.dev).files l.gate.name)));
  cause : HasCause g.D.Device.disk_faults g.D.Device.tell_faults l.fn.dev l.dev ⊥;
}
