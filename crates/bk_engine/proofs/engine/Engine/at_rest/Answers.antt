use Rattle.std.proofs.Common.{sym, subst}
use Rattle.bk_engine.specs.PartLaws.{rest-crash}
use Rattle.bk_engine.specs.Stands.{IsReady, Kept, StandsFor}
use Rattle.bk_engine.proofs.engine.Engine.at_rest.Goals as goal

pub returns-clause-crash : goal.returns-clause-crash
returns-clause-crash g c = λ tells w is.
    let a = g.D.Device.disk c.args.dev.now in
    let e : Kept = record { hosting = c.self.inside.hosting; drawn = c.self.inside.drawn; session = c.self.inside.session; sessions = c.self.inside.sessions.items } in
    let is' : StandsFor a e w = subst (λ (k : Kept). StandsFor a k w) (sym c.self.view_is) is in
    let ready' : IsReady e = subst IsReady (sym c.self.view_is) c.requires.ready in
    rest-crash a (g.D.Device.disk c.at_rest.new.dev) e w ready' is' (c.at_rest.ensures.crash tells is'.hosted is'.hosting)
