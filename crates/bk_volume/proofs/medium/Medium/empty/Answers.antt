use Rattle.std.proofs.Common.{false, ap}
use Rattle.bk_gate.specs.Gate.{Kept}
use Rattle.bk_volume.proofs.Steps.{emptied_crash, made_medium, medium_flag, sets_at}
use Rattle.bk_volume.proofs.medium.Medium.empty.Goals as goal

pub returns-in_err-start_again-clause-crash : goal.returns-in_err-start_again-clause-crash
returns-in_err-start_again-clause-crash g c t =
    emptied_crash c.args.self.now.name c.self.inside.gate.name (g.D.Device.disk c.args.dev.now) (g.D.Device.disk c.start_again.new.dev) (ap (λ (k : Kept). k.name) c.self.view_is) (c.requires.stands t).sets (c.start_again.ensures.crash t)

pub returns-clause-crash : goal.returns-clause-crash
returns-clause-crash g c t =
    emptied_crash c.args.self.now.name c.self.inside.gate.name (g.D.Device.disk c.args.dev.now) (g.D.Device.disk c.start_again.new.dev) (ap (λ (k : Kept). k.name) c.self.view_is) (c.requires.stands t).sets (c.start_again.ensures.crash t)

pub returns-clause-sets : goal.returns-clause-sets
returns-clause-sets g c t = sets_at (g.D.Device.disk c.start_again.new.dev) (ap (λ (k : Kept). k.name) c.self.view_is) (c.in_ok-start_again.ensures.sets t)

pub returns-clause-stands : goal.returns-clause-stands
returns-clause-stands g c t =
    medium_flag false (made_medium c.self.inside.gate.name c.start_again.ensures.name (c.in_ok-start_again.ensures.stands t) (c.in_ok-start_again.ensures.sets t))
