use Rattle.bk_device.specs.Counts.{HasCause}
use Rattle.bk_side.proofs.Steps.{Copying}
use Rattle.bk_side.proofs.copying.copy_entries.Given as goal

abbrev pub invariant-entries : goal.invariant-entries
invariant-entries g l = record {
  copied : g.D.Device.tells → Copying l.side l.names l.at l.len l.i (g.D.Device.disk l.fn.dev) (g.D.Device.disk l.dev);
  cause : HasCause g.D.Device.disk_faults g.D.Device.tell_faults l.fn.dev l.dev ⊥;
}
