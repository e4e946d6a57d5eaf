use Rattle.std.proofs.Common.{sym, subst}
use Rattle.bk_device.specs.Compose.{effect_then}
use Rattle.bk_stores.specs.Stores.{TouchesOurs}
use Rattle.bk_stores.specs.TouchLaws.{none-touched}
use Rattle.bk_engine.specs.Stands.{StandsFor}
use Rattle.bk_engine.proofs.Named.{moved}
use Rattle.bk_engine.proofs.engine.Engine.name_set.Goals as goal

pub returns-clause-stands : goal.returns-clause-stands
returns-clause-stands g c = λ tells w is. c.put_sets.ensures.stands tells w (subst (λ d. StandsFor (g.D.Device.disk d) c.args.self.now w) (sym c.at_rest.ensures.same) is)

pub returns-in_err-copying-clause-touches : goal.returns-in_err-copying-clause-touches
returns-in_err-copying-clause-touches g c = λ tells. subst (λ d. TouchesOurs (g.D.Device.disk c.args.dev.now) (g.D.Device.disk d)) (sym c.at_rest.ensures.same) (none-touched (g.D.Device.disk c.args.dev.now))

pub returns-clause-crash : goal.returns-clause-crash
returns-clause-crash g c = λ tells w is. effect_then (c.at_rest.ensures.crash tells w is) (c.put_sets.ensures.crash tells w (subst (λ d. StandsFor (g.D.Device.disk d) c.args.self.now w) (sym c.at_rest.ensures.same) is))

pub returns-clause-touches : goal.returns-clause-touches
returns-clause-touches g c = λ tells. moved g.D.Device.disk c.args.dev.now c.at_rest.new.dev c.at_rest.ensures.same (c.put_sets.ensures.touches tells)
