use Rattle.bk_device.specs.Compose.{effect_then}
use Rattle.bk_engine.specs.TouchLaws.{wider-touch}
use Rattle.bk_executing.proofs.Results.{of-ok, on-all}
use Rattle.bk_executing.proofs.Waited.{ended-cuts, sealed-cuts, sealed-does}
use Rattle.bk_executing.proofs.waiting.seal_finished.Goals as goal

pub returns-in_err-finishing-clause-crash : goal.returns-in_err-finishing-clause-crash
returns-in_err-finishing-clause-crash g c tells w stands may = ended-cuts w c.args.finish.now (c.say_stamp.ensures.crash tells w stands may)

pub returns-in_err-finishing-clause-touches : goal.returns-in_err-finishing-clause-touches
returns-in_err-finishing-clause-touches g c tells = wider-touch (λ path none. absurd none) (c.say_stamp.ensures.touches tells)

pub returns-clause-does : goal.returns-clause-does
returns-clause-does g c tells w stands may =
    on-all c.seal_finishing.result (λ value ok. sealed-does w c.args.finish.now may (g.D.Device.disk c.say_stamp.new.dev) (g.D.Device.disk c.seal_finishing.new.dev) c.say_stamp.new.engine c.in_ok-finishing.finishing (c.in_ok-finishing.ensures.ended tells w may stands) c.seal_finishing.new.engine (λ v is held apart front. of-ok c.seal_finishing.result value ok (c.seal_finishing.ensures.stands tells v is held apart front)))

pub returns-clause-crash : goal.returns-clause-crash
returns-clause-crash g c tells w stands may =
    sealed-cuts w c.args.finish.now may (g.D.Device.disk c.say_stamp.new.dev) (g.D.Device.disk c.seal_finishing.new.dev) c.say_stamp.new.engine c.in_ok-finishing.finishing (c.in_ok-finishing.ensures.ended tells w may stands) (c.say_stamp.ensures.crash tells w stands may) (c.seal_finishing.ensures.crash tells)

pub returns-clause-touches : goal.returns-clause-touches
returns-clause-touches g c tells = effect_then (wider-touch (λ path none. absurd none) (c.say_stamp.ensures.touches tells)) (c.seal_finishing.ensures.touches tells)
