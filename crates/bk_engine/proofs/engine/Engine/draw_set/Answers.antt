use Rattle.std.proofs.Common.{inl, sym, subst}
use Rattle.bk_device.specs.Compose.{effect_weaken}
use Rattle.bk_machine.specs.Acts.{set_drawn}
use Rattle.bk_engine.specs.Stands.{Kept, StandsFor}
use Rattle.bk_engine.proofs.Drawn.{drawn-stands}
use Rattle.bk_engine.proofs.engine.Engine.draw_set.Goals as goal

pub returns-in_err-reserve-clause-crash : goal.returns-in_err-reserve-clause-crash
returns-in_err-reserve-clause-crash g c = λ tells w is. effect_weaken (λ image covers. inl covers) (c.reserve.ensures.crash tells w is)

pub returns-clause-crash : goal.returns-clause-crash
returns-clause-crash g c = λ tells w is. effect_weaken (λ image covers. inl covers) (c.reserve.ensures.crash tells w is)

pub returns-clause-stands : goal.returns-clause-stands
returns-clause-stands g c = λ tells w is.
    let d = g.D.Device.disk c.reserve.new.dev in
    let e : Kept = record { hosting = c.self.inside.hosting; drawn = c.self.inside.drawn; session = c.self.inside.session; sessions = c.self.inside.sessions.items } in
    let is' : StandsFor d e w = subst (λ (k : Kept). StandsFor d k w) (sym c.self.view_is) (c.in_ok-reserve.ensures.stands tells w is) in
    drawn-stands d e w is' (c.acts_keep_worlds_sound.ensures.act w set_drawn is'.sound tt)
