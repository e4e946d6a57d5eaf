use Rattle.bk_device.specs.Laws.{nothing_then}
use Rattle.bk_control.proofs.found.find.Goals as goal

pub returns-in_err-second-clause-effect : goal.returns-in_err-second-clause-effect
returns-in_err-second-clause-effect g c t = nothing_then (g.met.D.Device.lawful t c.args.dev.now) (c.read_head.ensures.effect t) (c.read_head-2.ensures.effect t)

pub returns-clause-effect : goal.returns-clause-effect
returns-clause-effect g c t = nothing_then (g.met.D.Device.lawful t c.args.dev.now) (c.read_head.ensures.effect t) (c.read_head-2.ensures.effect t)
