use Rattle.bk_executing.proofs.Results.{of-ok, on-all}
use Rattle.bk_executing.proofs.PartsDone.{medium-cuts, medium-does}
use Rattle.bk_executing.proofs.following.make_medium.Goals as goal

pub returns-clause-does : goal.returns-clause-does
returns-clause-does g c tells = on-all c.make_medium.result (λ value ok. medium-does c.args.engine.now c.make_medium.new.self (g.D.Device.disk c.args.dev.now) (g.D.Device.disk c.make_medium.new.dev) c.args.path.now (λ w stands absent. of-ok c.make_medium.result value ok (c.make_medium.ensures.stands tells w stands absent)))

pub returns-clause-crash : goal.returns-clause-crash
returns-clause-crash g c tells = medium-cuts c.args.engine.now (g.D.Device.disk c.args.dev.now) (g.D.Device.disk c.make_medium.new.dev) c.args.path.now (c.make_medium.ensures.crash tells)
