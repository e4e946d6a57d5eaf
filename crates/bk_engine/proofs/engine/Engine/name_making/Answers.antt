use Rattle.std.proofs.Common.{◌∙◌, inl, refl, sym, ap, subst}
use Rattle.bk_device.specs.Compose.{effect_weaken}
use Rattle.bk_hosting.specs.Hosting.{IsHosting, own_of, IsReady as AreReady}
use Rattle.bk_master.specs.declared.record.Own.{Own}
use Rattle.bk_engine.specs.Amid.{Amid}
use Rattle.bk_engine.specs.Stands.{Kept}
use Rattle.bk_engine.proofs.Named.{moved, of-ok, on-all}
use Rattle.bk_engine.proofs.Reserved.{few-copied}
use Rattle.bk_engine.specs.AmidLaws.{named-amid, named-crash}
use Rattle.bk_engine.specs.TouchLaws.{rest-touch, stores-touch}
use Rattle.bk_engine.proofs.engine.Engine.name_making.Goals as goal

pub put_own-requires-clause-own : goal.put_own-requires-clause-own
put_own-requires-clause-own g c =
    let ready = subst (λ (k : Kept). AreReady k.hosting) (sym c.self.view_is) c.requires.ready in
    record { path = c.requires.short; copying = few-copied c.self.inside.hosting c.own-own.result.now c.in_ok-copying.copying ready c.own-own.ensures (c.in_ok-copying.ensures ∙ c.as_slice.ensures) }

pub returns-in_err-copying-clause-crash : goal.returns-in_err-copying-clause-crash
returns-in_err-copying-clause-crash g c = λ tells w is media.
    let a = g.D.Device.disk c.args.dev.now in
    let is' : Amid a c.self.inside.hosting w = subst (λ (k : Kept). Amid a k.hosting w) (sym c.self.view_is) is in
    named-crash a (g.D.Device.disk c.at_rest.new.dev) c.self.inside.hosting w (own_of c.self.inside.hosting) is' refl refl is'.media (effect_weaken (λ image left. inl left) (c.at_rest.ensures.crash tells is'.hosted is'.hosting))

pub returns-in_err-copying-clause-touches : goal.returns-in_err-copying-clause-touches
returns-in_err-copying-clause-touches g c = λ tells. rest-touch g.D.Device.disk c.args.dev.now c.at_rest.new.dev c.at_rest.ensures.same

pub returns-clause-stands : goal.returns-clause-stands
returns-clause-stands g c = λ tells w is media.
    let a = g.D.Device.disk c.args.dev.now in
    let is' : Amid a c.self.inside.hosting w = subst (λ (k : Kept). Amid a k.hosting w) (sym c.self.view_is) is in
    let hosting : IsHosting (g.D.Device.disk c.at_rest.new.dev) c.self.inside.hosting is'.hosted = subst (λ d. IsHosting (g.D.Device.disk d) c.self.inside.hosting is'.hosted) (sym c.at_rest.ensures.same) is'.hosting in
    on-all c.put_own.result (λ value ok.
    named-amid a (g.D.Device.disk c.put_own.new.dev) c.self.inside.hosting c.put_own.new.self w _ is' (ap (λ (o : Own). o.number) c.own-own.ensures) (ap (λ (o : Own). o.counter) c.own-own.ensures) media
    (of-ok c.put_own.result value ok c.put_own.ensures.own) (of-ok c.put_own.result value ok (c.put_own.ensures.stands tells is'.hosted hosting)) (moved g.D.Device.disk c.args.dev.now c.at_rest.new.dev c.at_rest.ensures.same (c.put_own.ensures.crash tells is'.hosted hosting)))

pub returns-clause-crash : goal.returns-clause-crash
returns-clause-crash g c = λ tells w is media.
    let a = g.D.Device.disk c.args.dev.now in
    let is' : Amid a c.self.inside.hosting w = subst (λ (k : Kept). Amid a k.hosting w) (sym c.self.view_is) is in
    let hosting : IsHosting (g.D.Device.disk c.at_rest.new.dev) c.self.inside.hosting is'.hosted = subst (λ d. IsHosting (g.D.Device.disk d) c.self.inside.hosting is'.hosted) (sym c.at_rest.ensures.same) is'.hosting in
    named-crash a (g.D.Device.disk c.put_own.new.dev) c.self.inside.hosting w _ is' (ap (λ (o : Own). o.number) c.own-own.ensures) (ap (λ (o : Own). o.counter) c.own-own.ensures) media (moved g.D.Device.disk c.args.dev.now c.at_rest.new.dev c.at_rest.ensures.same (c.put_own.ensures.crash tells is'.hosted hosting))

pub returns-clause-touches : goal.returns-clause-touches
returns-clause-touches g c = λ tells. moved g.D.Device.disk c.args.dev.now c.at_rest.new.dev c.at_rest.ensures.same (stores-touch (c.put_own.ensures.touches tells))
