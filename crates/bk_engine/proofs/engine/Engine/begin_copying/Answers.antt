use Rattle.bk_device.specs.Compose.{effect_then}
use Rattle.bk_engine.specs.TouchLaws.{stores-touch}
use Rattle.bk_engine.proofs.engine.Engine.begin_copying.Goals as goal

pub returns-clause-stands : goal.returns-clause-stands
returns-clause-stands g c = λ tells w is apart. c.begin_staged.ensures.stands tells w c.in_ok-name_copying.ensures.ready (c.in_ok-name_copying.ensures.stands tells w is) apart

pub returns-in_err-begin_staged-clause-crash : goal.returns-in_err-begin_staged-clause-crash
returns-in_err-begin_staged-clause-crash g c = λ tells w is. effect_then (c.name_copying.ensures.crash tells w is) (c.begin_staged.ensures.crash tells w c.in_ok-name_copying.ensures.ready (c.in_ok-name_copying.ensures.stands tells w is))

pub returns-clause-crash : goal.returns-clause-crash
returns-clause-crash g c = λ tells w is. effect_then (c.name_copying.ensures.crash tells w is) (c.begin_staged.ensures.crash tells w c.in_ok-name_copying.ensures.ready (c.in_ok-name_copying.ensures.stands tells w is))

pub returns-in_err-name_copying-clause-touches : goal.returns-in_err-name_copying-clause-touches
returns-in_err-name_copying-clause-touches g c = λ tells. stores-touch (c.name_copying.ensures.touches tells)

pub returns-in_err-begin_staged-clause-touches : goal.returns-in_err-begin_staged-clause-touches
returns-in_err-begin_staged-clause-touches g c = λ tells. effect_then (stores-touch (c.name_copying.ensures.touches tells)) (c.begin_staged.ensures.touches tells)

pub returns-clause-touches : goal.returns-clause-touches
returns-clause-touches g c = λ tells. effect_then (stores-touch (c.name_copying.ensures.touches tells)) (c.begin_staged.ensures.touches tells)
