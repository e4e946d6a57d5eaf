use Rattle.bk_executing.proofs.Results.{of-ok, on-all}
use Rattle.bk_executing.proofs.PartsDone.{set-cuts, set-does}
use Rattle.bk_executing.proofs.following.seal_set.Goals as goal

pub returns-clause-does : goal.returns-clause-does
returns-clause-does g c tells = on-all c.seal_database.result (λ value ok. set-does c.args.engine.now c.seal_database.new.engine (g.D.Device.disk c.args.dev.now) (g.D.Device.disk c.seal_database.new.dev) c.args.path.now c.args.header.now (λ w stands is apart. of-ok c.seal_database.result value ok (c.seal_database.ensures.stands tells w stands is apart)))

pub returns-clause-crash : goal.returns-clause-crash
returns-clause-crash g c tells = set-cuts c.args.engine.now (g.D.Device.disk c.args.dev.now) (g.D.Device.disk c.seal_database.new.dev) c.args.path.now c.args.header.now (c.seal_database.ensures.crash tells)
