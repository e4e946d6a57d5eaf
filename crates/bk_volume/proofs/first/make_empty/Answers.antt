use Rattle.std.proofs.Common.{ap, ◌∙◌}
use Rattle.bk_gate.specs.Gate.{Kept}
use Rattle.bk_volume.proofs.Steps.{made_crash, made_sets, none_sealed_at}
use Rattle.bk_volume.proofs.first.make_empty.Goals as goal

pub returns-in_err-append_reserved-clause-crash : goal.returns-in_err-append_reserved-clause-crash
returns-in_err-append_reserved-clause-crash g c t =
    made_crash ((g.D.Device.disk c.args.dev.now).may c.args.name.now) c.args.name.now c.reserve.new.self.name (g.D.Device.disk c.args.dev.now) (g.D.Device.disk c.make_gate.new.dev) (g.D.Device.disk c.append_reserved.new.dev)
    (ap (λ (k : Kept). k.name) c.in_ok-reserve.ensures.same ∙ c.in_ok-gate.ensures.name)
    (none_sealed_at c.args.name.now c.in_ok-gate.ensures.name (c.in_ok-gate.ensures.stands t) c.in_ok-gate.ensures.spans)
    (c.make_gate.ensures.crash t) (c.append_reserved.ensures.crash t)

pub returns-clause-crash : goal.returns-clause-crash
returns-clause-crash g c t =
    made_crash ((g.D.Device.disk c.args.dev.now).may c.args.name.now) c.args.name.now c.reserve.new.self.name (g.D.Device.disk c.args.dev.now) (g.D.Device.disk c.make_gate.new.dev) (g.D.Device.disk c.append_reserved.new.dev)
    (ap (λ (k : Kept). k.name) c.in_ok-reserve.ensures.same ∙ c.in_ok-gate.ensures.name)
    (none_sealed_at c.args.name.now c.in_ok-gate.ensures.name (c.in_ok-gate.ensures.stands t) c.in_ok-gate.ensures.spans)
    (c.make_gate.ensures.crash t) (c.append_reserved.ensures.crash t)

pub returns-clause-sets : goal.returns-clause-sets
returns-clause-sets g c t =
    made_sets c.args.name.now c.reserve.new.self.name (g.D.Device.disk c.make_gate.new.dev) (g.D.Device.disk c.append_reserved.new.dev)
    (ap (λ (k : Kept). k.name) c.in_ok-reserve.ensures.same ∙ c.in_ok-gate.ensures.name)
    (none_sealed_at c.args.name.now c.in_ok-gate.ensures.name (c.in_ok-gate.ensures.stands t) c.in_ok-gate.ensures.spans)
    (c.in_ok-append_reserved.ensures.sealed t)
