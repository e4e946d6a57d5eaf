use Rattle.std.proofs.Common.{◌∙◌, ap}
use Rattle.bk_gate.specs.Gate.{Kept}
use Rattle.bk_gate.proofs.Gates.{keeps_named}
use Rattle.bk_gate.proofs.gate.Gate.drop_begun.Goals as goal

pub returns-in-Ok-clause-crash : goal.returns-in-Ok-clause-crash
returns-in-Ok-clause-crash g c t =
    keeps_named c.args.self.now c.deref.result.now (g.D.Device.disk c.args.dev.now) (g.D.Device.disk c.leave_closed.new.dev) (c.deref.ensures ∙ ap (λ (k : Kept). k.name) c.self.view_is) (c.leave_closed.ensures.crash t)

pub returns-in-Err-clause-crash : goal.returns-in-Err-clause-crash
returns-in-Err-clause-crash g c t =
    keeps_named c.args.self.now c.deref.result.now (g.D.Device.disk c.args.dev.now) (g.D.Device.disk c.leave_closed.new.dev) (c.deref.ensures ∙ ap (λ (k : Kept). k.name) c.self.view_is) (c.leave_closed.ensures.crash t)
