use Rattle.bk_executing.proofs.Results.{of-ok, on-all}
use Rattle.bk_executing.proofs.PartsDone.{drawn-cuts, drawn-does}
use Rattle.bk_executing.proofs.following.draw_set.Goals as goal

pub returns-clause-does : goal.returns-clause-does
returns-clause-does g c tells = on-all c.draw_set.result (λ value ok. drawn-does c.args.engine.now c.draw_set.new.self (g.D.Device.disk c.args.dev.now) (g.D.Device.disk c.draw_set.new.dev) (λ w stands. of-ok c.draw_set.result value ok (c.draw_set.ensures.stands tells w stands)))

pub returns-clause-crash : goal.returns-clause-crash
returns-clause-crash g c tells = drawn-cuts c.args.engine.now (g.D.Device.disk c.args.dev.now) (g.D.Device.disk c.draw_set.new.dev) (c.draw_set.ensures.crash tells)
