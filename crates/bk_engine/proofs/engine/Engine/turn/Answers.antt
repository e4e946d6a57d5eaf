use Rattle.std.proofs.Common.{sym, subst}
use Rattle.bk_machine.specs.Acts.{turned}
use Rattle.bk_engine.specs.SeatLaws.{turned-stands}
use Rattle.bk_engine.specs.Stands.{Kept, StandsFor}
use Rattle.bk_engine.proofs.Named.{of-ok, on-all}
use Rattle.bk_engine.proofs.engine.Engine.turn.Goals as goal

pub returns-clause-stands : goal.returns-clause-stands
returns-clause-stands g c = λ tells. on-all c.set_current.result (λ value ok. λ w is may.
    let a = g.D.Device.disk c.args.dev.now in
    let e : Kept = record { hosting = c.self.inside.hosting; drawn = c.self.inside.drawn; session = c.self.inside.session; sessions = c.self.inside.sessions.items } in
    let is' : StandsFor a e w = subst (λ (k : Kept). StandsFor a k w) (sym c.self.view_is) is in
    turned-stands a e w c.args.name c.set_current.new.sessions.items is' (of-ok c.set_current.result value ok c.set_current.ensures.ok) (c.acts_keep_worlds_sound.ensures.act w (turned c.args.name) is'.sound may))
