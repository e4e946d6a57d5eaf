use Rattle.std.proofs.Common.{◌∙◌, ℕ, List, sym, ap, subst}
use Rattle.bk_master.specs.declared.record.Own.{Own}
use Rattle.bk_engine.specs.Amid.{Amid}
use Rattle.bk_engine.specs.Stands.{IsReady, Kept, StandsFor}
use Rattle.bk_engine.proofs.Named.{of-ok, on-all, own-kept}
use Rattle.bk_device.specs.Effects.{IsName}
use Rattle.bk_engine.specs.Copied.{SparesSets}
use Rattle.bk_engine.specs.CopiedLaws.{apart-spares}
use Rattle.bk_engine.specs.AmidLaws.{amid-stands, copied-amid, copied-crash, stands-amid}
use Rattle.bk_engine.proofs.Copied.{there-is, told-there}
use Rattle.bk_hosting.specs.Copying.{HaveExtents}
use Rattle.bk_volume.specs.Laws.{staging_letter}
use Rattle.bk_volume.specs.Names.{letter}
use Rattle.bk_engine.specs.TouchLaws.{copied-touch}
use Rattle.bk_engine.proofs.engine.Engine.copy_extents.Goals as goal

pub copy_extents-requires-clause-named : goal.copy_extents-requires-clause-named
copy_extents-requires-clause-named g c = ap letter c.requires.named.1 ∙ staging_letter c.requires.named.0

pub copy_extents-requires-clause-there : goal.copy_extents-requires-clause-there
copy_extents-requires-clause-there g c = subst (λ (k : Kept). HaveExtents k.hosting.stores.slots c.args.at c.args.extents.now) (sym c.self.view_is) c.requires.there

pub returns-clause-stands : goal.returns-clause-stands
unfolding stands-amid
returns-clause-stands g c = λ tells w is set guid named apart.
    let a = g.D.Device.disk c.args.dev.now in
    let e : Kept = record { hosting = c.self.inside.hosting; drawn = c.self.inside.drawn; session = c.self.inside.session; sessions = c.self.inside.sessions.items } in
    let is' : StandsFor a e w = subst (λ (k : Kept). StandsFor a k w) (sym c.self.view_is) is in
    let ready' : IsReady e = subst IsReady (sym c.self.view_is) c.requires.ready in
    let b = g.D.Device.disk c.copy_extents.new.dev in
    let amid : Amid a e.hosting w = stands-amid a e w ready' is' in
    on-all c.copy_extents.result (λ value ok.
    let own = of-ok c.copy_extents.result value ok c.copy_extents.ensures.own in
    amid-stands b (record { hosting = c.copy_extents.new.self; drawn = c.self.inside.drawn; session = c.self.inside.session; sessions = c.self.inside.sessions.items }) w
    (copied-amid a b e.hosting c.copy_extents.new.self w c.args.staged.now amid c.requires.named own (of-ok c.copy_extents.result value ok (c.copy_extents.ensures.stands tells is'.hosted is'.hosting)) (subst (λ (name : List ℕ). SparesSets (IsName name) is'.hosted) (sym named) (apart-spares w set is'.hosted is'.hosts guid apart)) (c.copy_extents.ensures.crash tells is'.hosted is'.hosting))
    is'.sound (ap (λ (o : Own). o.making) own ∙ ready'.no_medium) is'.counter is'.session is'.sessions)

pub returns-clause-added : goal.returns-clause-added
returns-clause-added g c = λ tells w db is here before holds.
    let a = g.D.Device.disk c.args.dev.now in
    let e : Kept = record { hosting = c.self.inside.hosting; drawn = c.self.inside.drawn; session = c.self.inside.session; sessions = c.self.inside.sessions.items } in
    let is' : StandsFor a e w = subst (λ (k : Kept). StandsFor a k w) (sym c.self.view_is) is in
    let ready' : IsReady e = subst IsReady (sym c.self.view_is) c.requires.ready in
    let there = there-is w is'.hosted c.args.at db is'.hosts here in
    on-all c.copy_extents.result (λ value ok.
    let its = of-ok c.copy_extents.result value ok (c.copy_extents.ensures.added tells is'.hosted there.one is'.hosting there.there before holds) in
    (its.0, told-there w db its.0 is'.hosted c.args.at there its.1, its.2))

pub returns-clause-crash : goal.returns-clause-crash
unfolding stands-amid
returns-clause-crash g c = λ tells w is.
    let a = g.D.Device.disk c.args.dev.now in
    let e : Kept = record { hosting = c.self.inside.hosting; drawn = c.self.inside.drawn; session = c.self.inside.session; sessions = c.self.inside.sessions.items } in
    let is' : StandsFor a e w = subst (λ (k : Kept). StandsFor a k w) (sym c.self.view_is) is in
    let ready' : IsReady e = subst IsReady (sym c.self.view_is) c.requires.ready in
    copied-crash a (g.D.Device.disk c.copy_extents.new.dev) e.hosting w c.args.staged.now (stands-amid a e w ready' is') c.requires.named (c.copy_extents.ensures.crash tells is'.hosted is'.hosting)

pub returns-clause-own : goal.returns-clause-own
returns-clause-own g c =
    own-kept c.copy_extents.result (record { hosting = c.self.inside.hosting; drawn = c.self.inside.drawn; session = c.self.inside.session; sessions = c.self.inside.sessions.items }) _ (record { hosting = c.copy_extents.new.self; drawn = c.self.inside.drawn; session = c.self.inside.session; sessions = c.self.inside.sessions.items }) c.self.view_is c.copy_extents.ensures.own

pub returns-clause-touches : goal.returns-clause-touches
returns-clause-touches g c = λ tells. copied-touch c.args.staged.now c.requires.named (c.copy_extents.ensures.touches tells)
