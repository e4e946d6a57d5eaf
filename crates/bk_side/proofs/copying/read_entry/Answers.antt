use Rattle.bk_device.specs.Calls.{contents}
use Rattle.bk_side.proofs.Files.{read_whole}
use Rattle.bk_side.proofs.copying.read_entry.Goals as goal

pub returns-clause-entry : goal.returns-clause-entry
returns-clause-entry g c t = read_whole _ (contents ((g.D.Device.disk c.args.dev.now).files c.args.side.now)) c.read.new.buf c.args.at 8198 _ c.told-entry c.told-entry (c.requires t) (c.in_ok-read.ensures.bytes t)
