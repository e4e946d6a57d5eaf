use Rattle.bk_device.specs.Counts.{HasCause}
use Rattle.bk_paged.proofs.Made.{Making}
use Rattle.bk_paged.proofs.making.make_files.Given as goal

abbrev pub invariant-files : goal.invariant-files
invariant-files g l = record {
  making : Making g.D.Device.tells l.files l.i (g.D.Device.disk l.fn.dev) (g.D.Device.disk l.dev) l.fn.side l.side;
  cause : HasCause g.D.Device.disk_faults g.D.Device.tell_faults l.fn.dev l.dev ⊥;
}
