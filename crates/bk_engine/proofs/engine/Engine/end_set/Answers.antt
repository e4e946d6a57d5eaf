use Rattle.std.proofs.Common.{◌∙◌, inr, sym, subst}
use Rattle.bk_device.specs.Compose.{effect_then}
use Rattle.bk_engine.specs.BesideLaws.{beside-store}
use Rattle.bk_engine.specs.Stands.{StandsFor}
use Rattle.bk_engine.specs.TouchLaws.{rest-touch, stores-touch}
use Rattle.bk_engine.proofs.Named.{on-all}
use Rattle.bk_engine.proofs.engine.Engine.end_set.Goals as goal

pub returns-in_err-remove_staged-clause-crash : goal.returns-in_err-remove_staged-clause-crash
returns-in_err-remove_staged-clause-crash g c = λ tells w is.
    let rests : StandsFor (g.D.Device.disk c.at_rest.new.dev) c.args.self.now w = subst (λ d. StandsFor (g.D.Device.disk d) c.args.self.now w) (sym c.at_rest.ensures.same) is in
    effect_then (c.at_rest.ensures.crash tells w is) (c.remove_staged.ensures.crash tells w c.requires.ready rests)

pub returns-clause-stands : goal.returns-clause-stands
returns-clause-stands g c = λ tells w is set guid named apart.
    let rests : StandsFor (g.D.Device.disk c.at_rest.new.dev) c.args.self.now w = subst (λ d. StandsFor (g.D.Device.disk d) c.args.self.now w) (sym c.at_rest.ensures.same) is in
    c.put_sets.ensures.stands tells w (c.remove_staged.ensures.stands tells w c.requires.ready rests set guid named apart)

pub returns-clause-crash : goal.returns-clause-crash
returns-clause-crash g c = λ tells w is.
    let rests : StandsFor (g.D.Device.disk c.at_rest.new.dev) c.args.self.now w = subst (λ d. StandsFor (g.D.Device.disk d) c.args.self.now w) (sym c.at_rest.ensures.same) is in
    effect_then (effect_then (c.at_rest.ensures.crash tells w is) (c.remove_staged.ensures.crash tells w c.requires.ready rests)) (c.put_sets.ensures.bare tells w (c.remove_staged.ensures.bare tells w c.requires.ready rests))

pub returns-in_err-copying-clause-touches : goal.returns-in_err-copying-clause-touches
returns-in_err-copying-clause-touches g c = λ tells. rest-touch g.D.Device.disk c.args.dev.now c.at_rest.new.dev c.at_rest.ensures.same

pub returns-in_err-remove_staged-clause-touches : goal.returns-in_err-remove_staged-clause-touches
returns-in_err-remove_staged-clause-touches g c = λ tells. effect_then (rest-touch g.D.Device.disk c.args.dev.now c.at_rest.new.dev c.at_rest.ensures.same) (c.remove_staged.ensures.touches tells)

pub returns-clause-touches : goal.returns-clause-touches
returns-clause-touches g c = λ tells. effect_then (effect_then (rest-touch g.D.Device.disk c.args.dev.now c.at_rest.new.dev c.at_rest.ensures.same) (c.remove_staged.ensures.touches tells)) (stores-touch (c.put_sets.ensures.touches tells))

pub returns-clause-gone : goal.returns-clause-gone
returns-clause-gone g c = λ tells. on-all c.put_sets.result (λ value ok.
    (c.put_sets.ensures.touches tells).others c.args.staged.name (λ store. beside-store c.args.staged.name (inr c.requires.named) store) ∙ c.in_ok-remove_staged.ensures.removed tells)
