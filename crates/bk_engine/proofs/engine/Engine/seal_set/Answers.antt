use Rattle.std.proofs.Common.{◌∙◌, ℕ, List, sym, subst, arith, refl}
use Rattle.bk_hosting.specs.Hosting.{own_of}
use Rattle.bk_engine.specs.Amid.{Amid}
use Rattle.bk_engine.specs.Stands.{IsReady, Kept, StandsFor}
use Rattle.bk_engine.proofs.Named.{moved, of-ok, on-all}
use Rattle.bk_archive.specs.Calls.{HasSealed, LeavesSealing}
use Rattle.bk_archive.specs.Media.{IfDurable, IsMediumFile, MediaAreDurable}
use Rattle.bk_device.specs.Compose.{keeps_by_effect}
use Rattle.bk_device.specs.Effects.{Effect, MayLeaveOwn}
use Rattle.bk_hosting.specs.Hosting.{LeavesHosted}
use Rattle.bk_machine.specs.Acts.{done, set_sealed}
use Rattle.bk_stores.specs.Stores.{IsOurs as IsOfStores}
use Rattle.bk_volume.specs.Laws.{staging_apart}
use Rattle.bk_volume.specs.Staging.{IsSetOf}
use Rattle.bk_world.specs.declared.header.Header.{Header}
use Rattle.bk_engine.specs.ActLaws.{done-behind}
use Rattle.bk_engine.specs.Acts.{CutsAct}
use Rattle.bk_engine.specs.AmidLaws.{amid-stands, stands-amid}
use Rattle.bk_engine.specs.BesideLaws.{stores-stand}
use Rattle.bk_engine.specs.NameLaws.{store-medium}
use Rattle.bk_engine.specs.Stands.{IsOurs}
use Rattle.bk_engine.proofs.Sealed.{sealed-amid, sealed-crash}
use Rattle.bk_engine.specs.TouchLaws.{medium-touch}
use Rattle.bk_engine.proofs.engine.Engine.seal_set.Goals as goal

pub seal_at-requires-clause-apart : goal.seal_at-requires-clause-apart
seal_at-requires-clause-apart g c = λ same. staging_apart c.args.path.now c.requires.named.0 (sym c.requires.named.1 ∙ same)

pub returns-clause-standing : goal.returns-clause-standing
returns-clause-standing g c = λ tells.
    stores-stand c.args.self.now.hosting.stores (keeps_by_effect (λ name store own. store-medium c.args.path.now (subst IsOfStores own store)) (moved g.D.Device.disk c.args.dev.now c.at_rest.new.dev c.at_rest.ensures.same (c.seal_at.ensures.spares tells))) (c.requires.standing tells)

pub returns-clause-stands : goal.returns-clause-stands
unfolding stands-amid
returns-clause-stands g c = λ tells w body is may.
    let a = g.D.Device.disk c.args.dev.now in
    let b = g.D.Device.disk c.seal_at.new.dev in
    let e : Kept = record { hosting = c.self.inside.hosting; drawn = c.self.inside.drawn; session = c.self.inside.session; sessions = c.self.inside.sessions.items } in
    let is' : StandsFor a e w = subst (λ (k : Kept). StandsFor a k w) (sym c.self.view_is) is in
    let ready' : IsReady e = subst IsReady (sym c.self.view_is) c.requires.ready in
    let path : List ℕ = c.args.path.now in
    let set : IsSetOf (g.D.Device.disk c.at_rest.new.dev) c.args.staged.now c.args.header.now c.args.tables.now body = subst (λ d. IsSetOf (g.D.Device.disk d) c.args.staged.now c.args.header.now c.args.tables.now body) (sym c.at_rest.ensures.same) may.is in
    let hosts = c.hosted_databases_follow_acts.ensures.set_sealed w path body.header is'.hosted is'.hosts in
    let effect = subst (λ d. Effect IsMediumFile (IfDurable (g.D.Device.disk d) (LeavesSealing path body (g.D.Device.disk d).files)) (g.D.Device.disk d) b) c.at_rest.ensures.same (c.seal_at.ensures.crash tells body set) in
    let behind = done-behind w (set_sealed path c.args.header.now) may.sound (λ turn. turn) in
    on-all c.seal_at.result (λ value ok.
    let sealed = subst (λ d. HasSealed path body (g.D.Device.disk d).files b.files) c.at_rest.ensures.same (of-ok c.seal_at.result value ok (c.seal_at.ensures.sealed tells body set)) in
    let calm = of-ok c.seal_at.result value ok (c.seal_at.ensures.calm tells body set (subst (λ d. MediaAreDurable (g.D.Device.disk d)) (sym c.at_rest.ensures.same) is'.calm.media)) in
    let amid : Amid b e.hosting (done w (set_sealed path body.header)) = sealed-amid a b e.hosting w path body (stands-amid a e w ready' is') ready'.no_medium may.carries hosts sealed calm effect in
    subst (λ (k : Kept). StandsFor b k (done w (set_sealed path c.args.header.now))) c.self.view_is
    (amid-stands b e (done w (set_sealed path c.args.header.now)) (subst (λ (h : Header). Amid b e.hosting (done w (set_sealed path h))) may.is.header amid) (c.acts_keep_worlds_sound.ensures.act w (set_sealed path c.args.header.now) is'.sound may.sound) ready'.no_medium
    (let now = behind.counter in let drawn = is'.counter in omega (arith, now, drawn)) (behind.session ∙ is'.session) (behind.sessions ∙ is'.sessions)))

pub returns-clause-crash : goal.returns-clause-crash
unfolding stands-amid
returns-clause-crash g c = λ tells w body is may.
    let a = g.D.Device.disk c.args.dev.now in
    let b = g.D.Device.disk c.seal_at.new.dev in
    let e : Kept = record { hosting = c.self.inside.hosting; drawn = c.self.inside.drawn; session = c.self.inside.session; sessions = c.self.inside.sessions.items } in
    let is' : StandsFor a e w = subst (λ (k : Kept). StandsFor a k w) (sym c.self.view_is) is in
    let ready' : IsReady e = subst IsReady (sym c.self.view_is) c.requires.ready in
    let path : List ℕ = c.args.path.now in
    let set : IsSetOf (g.D.Device.disk c.at_rest.new.dev) c.args.staged.now c.args.header.now c.args.tables.now body = subst (λ d. IsSetOf (g.D.Device.disk d) c.args.staged.now c.args.header.now c.args.tables.now body) (sym c.at_rest.ensures.same) may.is in
    let hosts = c.hosted_databases_follow_acts.ensures.set_sealed w path body.header is'.hosted is'.hosts in
    let effect = subst (λ d. Effect IsMediumFile (IfDurable (g.D.Device.disk d) (LeavesSealing path body (g.D.Device.disk d).files)) (g.D.Device.disk d) b) c.at_rest.ensures.same (c.seal_at.ensures.crash tells body set) in
    let left = subst (λ d. (image : _) → MayLeaveOwn IsOfStores (g.D.Device.disk d) image → LeavesHosted (own_of e.hosting) is'.hosted image) c.at_rest.ensures.same (λ image mine. (c.at_rest.ensures.crash tells is'.hosted is'.hosting).now image mine) in
    subst (λ (h : Header). Effect IsOurs (CutsAct w (set_sealed path h)) a b) may.is.header
    (sealed-crash a b e.hosting w path body (stands-amid a e w ready' is') ready'.no_medium may.carries hosts left effect)

pub returns-clause-touches : goal.returns-clause-touches
returns-clause-touches g c = λ tells.
    moved g.D.Device.disk c.args.dev.now c.at_rest.new.dev c.at_rest.ensures.same (medium-touch c.args.path.now refl c.path_law.ensures (c.seal_at.ensures.spares tells))
