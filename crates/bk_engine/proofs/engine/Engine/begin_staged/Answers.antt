use Rattle.std.proofs.Common.{inr, refl, sym, subst}
use Rattle.bk_hosting.specs.Hosting.{own_of}
use Rattle.bk_engine.specs.Stands.{IsReady, Kept, StandsFor}
use Rattle.bk_engine.proofs.Named.{moved}
use Rattle.bk_device.specs.Effects.{MayLeaveOwn}
use Rattle.bk_hosting.specs.Hosting.{LeavesHosted}
use Rattle.bk_stores.specs.Stores.{IsOurs as IsOfStores}
use Rattle.bk_engine.specs.AmidLaws.{amid-stands, staging-amid, staging-crash, stands-amid}
use Rattle.bk_engine.specs.CopiedLaws.{apart-spares}
use Rattle.bk_engine.specs.BesideLaws.{stores-keep, stores-stand}
use Rattle.bk_engine.specs.TouchLaws.{staged-touch}
use Rattle.bk_volume.specs.Names.{staging_file}
use Rattle.bk_engine.proofs.engine.Engine.begin_staged.Goals as goal

pub returns-clause-standing : goal.returns-clause-standing
returns-clause-standing g c = λ tells.
    stores-stand c.args.self.now.hosting.stores (stores-keep (λ name at. inr (c.args.set, at)) (moved g.D.Device.disk c.args.dev.now c.at_rest.new.dev c.at_rest.ensures.same (c.begin_at.ensures.crash tells))) (c.requires.standing tells)

pub returns-clause-stands : goal.returns-clause-stands
unfolding stands-amid
returns-clause-stands g c = λ tells w ready is apart.
    let a = g.D.Device.disk c.args.dev.now in
    let b = g.D.Device.disk c.begin_at.new.dev in
    let e : Kept = record { hosting = c.self.inside.hosting; drawn = c.self.inside.drawn; session = c.self.inside.session; sessions = c.self.inside.sessions.items } in
    let is' : StandsFor a e w = subst (λ (k : Kept). StandsFor a k w) (sym c.self.view_is) is in
    let ready' : IsReady e = subst IsReady (sym c.self.view_is) ready in
    let effect = moved g.D.Device.disk c.args.dev.now c.at_rest.new.dev c.at_rest.ensures.same (c.begin_at.ensures.crash tells) in
    subst (λ (k : Kept). StandsFor b k w) c.self.view_is
    (amid-stands b e w (staging-amid a b e.hosting w (stands-amid a e w ready' is') (λ name at. (c.args.set, at)) (apart-spares w c.args.set is'.hosted is'.hosts c.begin_at.ensures.guid apart) effect) is'.sound ready'.no_medium is'.counter is'.session is'.sessions)

pub returns-clause-crash : goal.returns-clause-crash
unfolding stands-amid
returns-clause-crash g c = λ tells w ready is.
    let a = g.D.Device.disk c.args.dev.now in
    let b = g.D.Device.disk c.begin_at.new.dev in
    let e : Kept = record { hosting = c.self.inside.hosting; drawn = c.self.inside.drawn; session = c.self.inside.session; sessions = c.self.inside.sessions.items } in
    let is' : StandsFor a e w = subst (λ (k : Kept). StandsFor a k w) (sym c.self.view_is) is in
    let ready' : IsReady e = subst IsReady (sym c.self.view_is) ready in
    let effect = moved g.D.Device.disk c.args.dev.now c.at_rest.new.dev c.at_rest.ensures.same (c.begin_at.ensures.crash tells) in
    let left = subst (λ d. (image : _) → MayLeaveOwn IsOfStores (g.D.Device.disk d) image → LeavesHosted (own_of e.hosting) is'.hosted image) c.at_rest.ensures.same (λ image mine. (c.at_rest.ensures.crash tells is'.hosted is'.hosting).now image mine) in
    staging-crash a b e.hosting w (stands-amid a e w ready' is') (λ name at. (c.args.set, at)) left effect

pub returns-clause-touches : goal.returns-clause-touches
returns-clause-touches g c = λ tells. moved g.D.Device.disk c.args.dev.now c.at_rest.new.dev c.at_rest.ensures.same (staged-touch (staging_file c.args.set) (c.args.set, refl) (c.begin_at.ensures.crash tells))
