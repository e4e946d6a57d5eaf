use Rattle.std.proofs.Common.{◌∙◌, [], ap, sym, refl}
use Rattle.bk_gate.specs.Gate.{Kept}
use Rattle.bk_gate.proofs.Gates.{empties_named, quiet_gate}
use Rattle.bk_gate.proofs.gate.Gate.clear.Goals as goal

pub returns-in-Ok-clause-stands : goal.returns-in-Ok-clause-stands
returns-in-Ok-clause-stands g c t =
    quiet_gate [] 16 c.deref.result.now c.deref.ensures (sym c.clear.ensures.items) refl refl (ap (λ (k : Kept). k.begun) c.self.view_is ∙ c.requires.none) (c.in-Ok.ensures.quiet t)

pub returns-in-Ok-clause-crash : goal.returns-in-Ok-clause-crash
returns-in-Ok-clause-crash g c t =
    empties_named c.args.self.now c.deref.result.now (g.D.Device.disk c.args.dev.now) (g.D.Device.disk c.empty.new.dev) (c.deref.ensures ∙ ap (λ (k : Kept). k.name) c.self.view_is) (c.empty.ensures.crash t)

pub returns-in-Err-clause-crash : goal.returns-in-Err-clause-crash
returns-in-Err-clause-crash g c t =
    empties_named c.args.self.now c.deref.result.now (g.D.Device.disk c.args.dev.now) (g.D.Device.disk c.empty.new.dev) (c.deref.ensures ∙ ap (λ (k : Kept). k.name) c.self.view_is) (c.empty.ensures.crash t)
