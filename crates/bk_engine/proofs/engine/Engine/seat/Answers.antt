use Rattle.std.proofs.Common.{sym, subst}
use Rattle.bk_machine.specs.Acts.{seated}
use Rattle.bk_engine.specs.SeatLaws.{seated-stands}
use Rattle.bk_engine.specs.Stands.{Kept, StandsFor}
use Rattle.bk_engine.proofs.engine.Engine.seat.Goals as goal

pub returns-clause-stands : goal.returns-clause-stands
returns-clause-stands g c = λ tells w is may.
    let a = g.D.Device.disk c.args.dev.now in
    let e : Kept = record { hosting = c.self.inside.hosting; drawn = c.self.inside.drawn; session = c.self.inside.session; sessions = c.self.inside.sessions.items } in
    let is' : StandsFor a e w = subst (λ (k : Kept). StandsFor a k w) (sym c.self.view_is) is in
    seated-stands a e w c.args.session is' (c.acts_keep_worlds_sound.ensures.act w (seated c.args.session) is'.sound may)
