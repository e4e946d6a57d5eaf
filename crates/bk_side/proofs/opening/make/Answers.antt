use Rattle.bk_side.proofs.Files.{made_empty}
use Rattle.bk_side.proofs.opening.make.Goals as goal

pub returns-in-Ok-clause-empty : goal.returns-in-Ok-clause-empty
returns-in-Ok-clause-empty g c t = made_empty (g.D.Device.disk c.make.new.dev) c.in-Ok.gate c.args.name.now c.in-Ok.ensures.name c.in-Ok.ensures.spans (c.in-Ok.ensures.stands t)
