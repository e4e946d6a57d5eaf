use Rattle.std.proofs.Common.{ℕ, List, inr, sym, subst}
use Rattle.bk_hosting.specs.Hosting.{own_of}
use Rattle.bk_engine.specs.Stands.{IsReady, Kept, StandsFor}
use Rattle.bk_engine.proofs.Named.{moved}
use Rattle.bk_device.specs.Effects.{IsName, MayLeaveOwn}
use Rattle.bk_hosting.specs.Hosting.{LeavesHosted}
use Rattle.bk_stores.specs.Stores.{IsOurs as IsOfStores}
use Rattle.bk_engine.specs.Amid.{AmidBare}
use Rattle.bk_engine.specs.AmidLaws.{amid-stands, staging-amid, staging-bare, staging-crash, stands-amid}
use Rattle.bk_engine.specs.Copied.{SparesSets}
use Rattle.bk_engine.specs.CopiedLaws.{apart-spares}
use Rattle.bk_engine.specs.BesideLaws.{stores-keep, stores-stand}
use Rattle.bk_engine.specs.Stands.{IsStagingFile}
use Rattle.bk_engine.specs.TouchLaws.{staged-touch}
use Rattle.bk_engine.proofs.engine.Engine.remove_staged.Goals as goal

pub returns-clause-standing : goal.returns-clause-standing
returns-clause-standing g c = λ tells.
    stores-stand c.args.self.now.hosting.stores (stores-keep (λ name at. inr (subst IsStagingFile (sym at) c.requires.named)) (moved g.D.Device.disk c.args.dev.now c.at_rest.new.dev c.at_rest.ensures.same (c.remove_file.ensures.crash tells))) (c.requires.standing tells)

pub returns-clause-stands : goal.returns-clause-stands
unfolding stands-amid
returns-clause-stands g c = λ tells w ready is set guid named apart.
    let a = g.D.Device.disk c.args.dev.now in
    let b = g.D.Device.disk c.remove_file.new.dev in
    let e : Kept = record { hosting = c.self.inside.hosting; drawn = c.self.inside.drawn; session = c.self.inside.session; sessions = c.self.inside.sessions.items } in
    let is' : StandsFor a e w = subst (λ (k : Kept). StandsFor a k w) (sym c.self.view_is) is in
    let ready' : IsReady e = subst IsReady (sym c.self.view_is) ready in
    let effect = moved g.D.Device.disk c.args.dev.now c.at_rest.new.dev c.at_rest.ensures.same (c.remove_file.ensures.crash tells) in
    subst (λ (k : Kept). StandsFor b k w) c.self.view_is
    (amid-stands b e w (staging-amid a b e.hosting w (stands-amid a e w ready' is') (λ name at. subst IsStagingFile (sym at) c.requires.named) (subst (λ (name : List ℕ). SparesSets (IsName name) is'.hosted) (sym named) (apart-spares w set is'.hosted is'.hosts guid apart)) effect) is'.sound ready'.no_medium is'.counter is'.session is'.sessions)

pub returns-clause-crash : goal.returns-clause-crash
unfolding stands-amid
returns-clause-crash g c = λ tells w ready is.
    let a = g.D.Device.disk c.args.dev.now in
    let b = g.D.Device.disk c.remove_file.new.dev in
    let e : Kept = record { hosting = c.self.inside.hosting; drawn = c.self.inside.drawn; session = c.self.inside.session; sessions = c.self.inside.sessions.items } in
    let is' : StandsFor a e w = subst (λ (k : Kept). StandsFor a k w) (sym c.self.view_is) is in
    let ready' : IsReady e = subst IsReady (sym c.self.view_is) ready in
    let effect = moved g.D.Device.disk c.args.dev.now c.at_rest.new.dev c.at_rest.ensures.same (c.remove_file.ensures.crash tells) in
    let left = subst (λ d. (image : _) → MayLeaveOwn IsOfStores (g.D.Device.disk d) image → LeavesHosted (own_of e.hosting) is'.hosted image) c.at_rest.ensures.same (λ image mine. (c.at_rest.ensures.crash tells is'.hosted is'.hosting).now image mine) in
    staging-crash a b e.hosting w (stands-amid a e w ready' is') (λ name at. subst IsStagingFile (sym at) c.requires.named) left effect

pub returns-clause-touches : goal.returns-clause-touches
returns-clause-touches g c = λ tells. moved g.D.Device.disk c.args.dev.now c.at_rest.new.dev c.at_rest.ensures.same (staged-touch c.args.staged.name c.requires.named (c.remove_file.ensures.crash tells))

pub returns-clause-bare : goal.returns-clause-bare
returns-clause-bare g c = λ tells w ready is.
    let a = g.D.Device.disk c.args.dev.now in
    let b = g.D.Device.disk c.remove_file.new.dev in
    let e : Kept = record { hosting = c.self.inside.hosting; drawn = c.self.inside.drawn; session = c.self.inside.session; sessions = c.self.inside.sessions.items } in
    let is' : StandsFor a e w = subst (λ (k : Kept). StandsFor a k w) (sym c.self.view_is) is in
    let ready' : IsReady e = subst IsReady (sym c.self.view_is) ready in
    let effect = moved g.D.Device.disk c.args.dev.now c.at_rest.new.dev c.at_rest.ensures.same (c.remove_file.ensures.crash tells) in
    subst (λ (k : Kept). AmidBare b k.hosting w) c.self.view_is (staging-bare a b e.hosting w (stands-amid a e w ready' is') (λ name at. subst IsStagingFile (sym at) c.requires.named) effect)
