use Rattle.std.proofs.Common.{◌∙◌, sym, ap, subst}
use Rattle.bk_device.specs.Compose.{effect_then_nothing}
use Rattle.bk_stores.specs.Standing.{AreStanding}
use Rattle.bk_engine.specs.PartLaws.{rest-crash}
use Rattle.bk_engine.specs.Stands.{IsReady, Kept, StandsFor}
use Rattle.bk_engine.proofs.Named.{moved}
use Rattle.bk_engine.proofs.Taken.{standing-nothing, stands-nothing, touches-nothing}
use Rattle.bk_engine.proofs.engine.Engine.take_up.Goals as goal

pub returns-clause-files : goal.returns-clause-files
returns-clause-files g c = λ tells name. (c.again_at.ensures.effect tells).files name ∙ ap (λ d. (g.D.Device.disk d).files name) c.at_rest.ensures.same

pub returns-clause-standing : goal.returns-clause-standing
returns-clause-standing g c = λ tells.
    standing-nothing (g.D.Device.disk c.at_rest.new.dev) (g.D.Device.disk c.again_at.new.dev) c.args.self.now.hosting.stores (c.again_at.ensures.effect tells) (subst (λ d. AreStanding (g.D.Device.disk d) c.args.self.now.hosting.stores) (sym c.at_rest.ensures.same) (c.requires.standing tells))

pub returns-clause-stands : goal.returns-clause-stands
returns-clause-stands g c = λ tells w ready is.
    stands-nothing (g.D.Device.disk c.at_rest.new.dev) (g.D.Device.disk c.again_at.new.dev) c.args.self.now w (c.again_at.ensures.effect tells) (subst (λ d. StandsFor (g.D.Device.disk d) c.args.self.now w) (sym c.at_rest.ensures.same) is)

pub returns-clause-crash : goal.returns-clause-crash
returns-clause-crash g c = λ tells w ready is.
    let a = g.D.Device.disk c.args.dev.now in
    let e : Kept = record { hosting = c.self.inside.hosting; drawn = c.self.inside.drawn; session = c.self.inside.session; sessions = c.self.inside.sessions.items } in
    let is' : StandsFor a e w = subst (λ (k : Kept). StandsFor a k w) (sym c.self.view_is) is in
    let ready' : IsReady e = subst IsReady (sym c.self.view_is) ready in
    effect_then_nothing (rest-crash a (g.D.Device.disk c.at_rest.new.dev) e w ready' is' (c.at_rest.ensures.crash tells is'.hosted is'.hosting)) (c.again_at.ensures.effect tells)

pub returns-clause-touches : goal.returns-clause-touches
returns-clause-touches g c = λ tells. moved g.D.Device.disk c.args.dev.now c.at_rest.new.dev c.at_rest.ensures.same (touches-nothing (c.again_at.ensures.effect tells))
