use Rattle.bk_device.specs.Compose.{effect_then}
use Rattle.bk_engine.proofs.Named.{on-all}
use Rattle.bk_engine.specs.TouchLaws.{stores-touch}
use Rattle.bk_engine.proofs.engine.Engine.begin_set.Goals as goal

pub returns-clause-standing : goal.returns-clause-standing
returns-clause-standing g c = λ tells. on-all c.begin_staged.result (λ value ok. c.begin_staged.ensures.standing tells)

pub returns-clause-stands : goal.returns-clause-stands
returns-clause-stands g c = λ tells w is apart. on-all c.begin_staged.result (λ value ok. c.begin_staged.ensures.stands tells w c.in_ok-name_set.ensures.ready (c.in_ok-name_set.ensures.stands tells w is) apart)

pub returns-clause-crash : goal.returns-clause-crash
returns-clause-crash g c = λ tells w is. effect_then (c.name_set.ensures.crash tells w is) (c.begin_staged.ensures.crash tells w c.in_ok-name_set.ensures.ready (c.in_ok-name_set.ensures.stands tells w is))

pub returns-clause-own : goal.returns-clause-own
returns-clause-own g c = on-all c.begin_staged.result (λ value ok. c.in_ok-name_set.ensures.own)

pub returns-in_err-name_set-clause-touches : goal.returns-in_err-name_set-clause-touches
returns-in_err-name_set-clause-touches g c = λ tells. stores-touch (c.name_set.ensures.touches tells)

pub returns-clause-touches : goal.returns-clause-touches
returns-clause-touches g c = λ tells. effect_then (stores-touch (c.name_set.ensures.touches tells)) (c.begin_staged.ensures.touches tells)
