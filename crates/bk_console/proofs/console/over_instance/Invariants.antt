use Rattle.bk_device.specs.Disk.{IsSettled}
use Rattle.bk_console.proofs.console.over_instance.Given as goal

-- whether nothing was pending at entry
abbrev pub ghosts-over_lent : goal.ghosts-over_lent
ghosts-over_lent g a = record { calm = IsSettled (g.D.Device.disk a.lent.device.now); name = a.lent.device.ghost_name }
