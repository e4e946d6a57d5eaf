use Rattle.bk_device.specs.Compose.{effect_none}
use Rattle.bk_engine.proofs.finishing.remove_set.Goals as goal

pub returns-in-None-clause-touches : goal.returns-in-None-clause-touches
returns-in-None-clause-touches g c = λ tells. effect_none (g.D.Device.disk c.args.dev.now) (λ image left. tt)
