use Rattle.std.proofs.Common.{◌∙◌, ℕ, List, refl, sym, ap, subst}
use Rattle.bk_engine.specs.Stands.{IsReady, Kept, StandsFor}
use Rattle.bk_engine.proofs.Named.{of-ok, on-all}
use Rattle.bk_device.specs.Effects.{IsName}
use Rattle.bk_engine.specs.Copied.{SparesSets}
use Rattle.bk_engine.specs.CopiedLaws.{apart-spares}
use Rattle.bk_engine.specs.AmidLaws.{amid-stands, copied-amid, copied-crash, stands-amid}
use Rattle.bk_engine.proofs.Copied.{there-is}
use Rattle.bk_volume.specs.Laws.{staging_letter}
use Rattle.bk_volume.specs.Names.{letter}
use Rattle.bk_engine.specs.TouchLaws.{copied-touch}
use Rattle.bk_engine.proofs.engine.Engine.copy_log.Goals as goal

pub copy_log-requires-clause-named : goal.copy_log-requires-clause-named
copy_log-requires-clause-named g c = ap letter c.requires.named.1 ∙ staging_letter c.requires.named.0

pub returns-clause-stands : goal.returns-clause-stands
unfolding stands-amid
returns-clause-stands g c = λ tells w is set guid named apart.
    let a = g.D.Device.disk c.args.dev.now in
    let e : Kept = record { hosting = c.self.inside.hosting; drawn = c.self.inside.drawn; session = c.self.inside.session; sessions = c.self.inside.sessions.items } in
    let is' : StandsFor a e w = subst (λ (k : Kept). StandsFor a k w) (sym c.self.view_is) is in
    let ready' : IsReady e = subst IsReady (sym c.self.view_is) c.requires.ready in
    let b = g.D.Device.disk c.copy_log.new.dev in
    subst (λ (k : Kept). StandsFor b k w) c.self.view_is
    (amid-stands b e w
    (copied-amid a b e.hosting e.hosting w c.args.staged.now (stands-amid a e w ready' is') c.requires.named refl (c.copy_log.ensures.stands tells is'.hosted is'.hosting) (subst (λ (name : List ℕ). SparesSets (IsName name) is'.hosted) (sym named) (apart-spares w set is'.hosted is'.hosts guid apart)) (c.copy_log.ensures.crash tells is'.hosted is'.hosting))
    is'.sound ready'.no_medium is'.counter is'.session is'.sessions)

pub returns-clause-added : goal.returns-clause-added
returns-clause-added g c = λ tells w db is here extents before holds.
    let a = g.D.Device.disk c.args.dev.now in
    let e : Kept = record { hosting = c.self.inside.hosting; drawn = c.self.inside.drawn; session = c.self.inside.session; sessions = c.self.inside.sessions.items } in
    let is' : StandsFor a e w = subst (λ (k : Kept). StandsFor a k w) (sym c.self.view_is) is in
    let ready' : IsReady e = subst IsReady (sym c.self.view_is) c.requires.ready in
    let there = there-is w is'.hosted c.args.at db is'.hosts here in
    on-all c.copy_log.result (λ value ok.
    subst (λ rs. Rattle.bk_hosting.specs.Copying.HoldsLog (g.D.Device.disk c.copy_log.new.dev) c.copy_log.new.staged extents before rs c.args.from c.args.to) (sym there.log) (of-ok c.copy_log.result value ok (c.copy_log.ensures.added tells is'.hosted there.one is'.hosting there.there extents before holds)))

pub returns-clause-crash : goal.returns-clause-crash
unfolding stands-amid
returns-clause-crash g c = λ tells w is.
    let a = g.D.Device.disk c.args.dev.now in
    let e : Kept = record { hosting = c.self.inside.hosting; drawn = c.self.inside.drawn; session = c.self.inside.session; sessions = c.self.inside.sessions.items } in
    let is' : StandsFor a e w = subst (λ (k : Kept). StandsFor a k w) (sym c.self.view_is) is in
    let ready' : IsReady e = subst IsReady (sym c.self.view_is) c.requires.ready in
    copied-crash a (g.D.Device.disk c.copy_log.new.dev) e.hosting w c.args.staged.now (stands-amid a e w ready' is') c.requires.named (c.copy_log.ensures.crash tells is'.hosted is'.hosting)

pub returns-clause-touches : goal.returns-clause-touches
returns-clause-touches g c = λ tells. copied-touch c.args.staged.now c.requires.named (c.copy_log.ensures.touches tells)
