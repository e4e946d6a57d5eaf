use Rattle.std.proofs.Common.{sym, subst}
use Rattle.bk_machine.specs.Acts.{readied}
use Rattle.bk_engine.specs.SeatLaws.{readied-stands}
use Rattle.bk_engine.specs.Stands.{Kept, StandsFor}
use Rattle.bk_engine.proofs.Named.{of-ok, on-all}
use Rattle.bk_engine.proofs.engine.Engine.ready_backup.Goals as goal

pub returns-clause-stands : goal.returns-clause-stands
returns-clause-stands g c = λ tells. on-all c.set_starts.result (λ value ok. λ w is may.
    let a = g.D.Device.disk c.args.dev.now in
    let e : Kept = record { hosting = c.self.inside.hosting; drawn = c.self.inside.drawn; session = c.self.inside.session; sessions = c.self.inside.sessions.items } in
    let is' : StandsFor a e w = subst (λ (k : Kept). StandsFor a k w) (sym c.self.view_is) is in
    readied-stands a e w c.args.starts c.set_starts.new.sessions.items is' (of-ok c.set_starts.result value ok c.set_starts.ensures.ok) (c.acts_keep_worlds_sound.ensures.act w (readied c.args.starts) is'.sound may))
