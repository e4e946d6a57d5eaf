use Rattle.std.proofs.Common.{◌≡◌, ◌∙◌, ℕ, Some, None, refl, inl, sym, ap, subst, arith}
use Rattle.std.specs.Prelude.{set}
use Rattle.std.specs.List.{position}
use Rattle.bk_archive.specs.Media.{KeepsMedia}
use Rattle.bk_archive.specs.MediaLaws.{media-in}
use Rattle.bk_device.specs.Compose.{effect_weaken}
use Rattle.bk_hosted.specs.Hosted.{basing, folding, names}
use Rattle.bk_hosting.specs.AskLaws.{described}
use Rattle.bk_machine.specs.Acts.{done, based}
use Rattle.bk_master.specs.declared.record.Own.{Own}
use Rattle.bk_engine.specs.ActLaws.{done-behind}
use Rattle.bk_engine.specs.CopiedLaws.{copied-on, goes-same}
use Rattle.bk_engine.specs.PartLaws.{act-crash, calm-beside, copied-beside, media-beside, rest-crash, world-stands}
use Rattle.bk_engine.specs.Stands.{IsReady, Kept, StandsFor}
use Rattle.bk_engine.proofs.Named.{found-at, of-ok, on-all, own-kept}
use Rattle.bk_engine.proofs.Changed.{based-hosts}
use Rattle.bk_engine.specs.TouchLaws.{rest-touch, stores-touch}
use Rattle.bk_engine.proofs.engine.Engine.base.Goals as goal

pub returns-in_default-clause-crash : goal.returns-in_default-clause-crash
returns-in_default-clause-crash g c = λ tells w is.
    let a = g.D.Device.disk c.args.dev.now in
    let e : Kept = record { hosting = c.self.inside.hosting; drawn = c.self.inside.drawn; session = c.self.inside.session; sessions = c.self.inside.sessions.items } in
    let is' : StandsFor a e w = subst (λ (k : Kept). StandsFor a k w) (sym c.self.view_is) is in
    let ready' : IsReady e = subst IsReady (sym c.self.view_is) c.requires.ready in
    effect_weaken (λ image covers. inl covers) (rest-crash a (g.D.Device.disk c.at_rest.new.dev) e w ready' is' (c.at_rest.ensures.crash tells is'.hosted is'.hosting))

pub returns-clause-stands : goal.returns-clause-stands
returns-clause-stands g c = λ tells. on-all c.base.result (λ value ok. λ w is may.
    let a = g.D.Device.disk c.args.dev.now in
    let e : Kept = record { hosting = c.self.inside.hosting; drawn = c.self.inside.drawn; session = c.self.inside.session; sessions = c.self.inside.sessions.items } in
    let is' : StandsFor a e w = subst (λ (k : Kept). StandsFor a k w) (sym c.self.view_is) is in
    let ready' : IsReady e = subst IsReady (sym c.self.view_is) c.requires.ready in
    let at : ℕ = c.in-Some.at in
    let place : position (names c.args.name.now) is'.hosted ≡ Some at = sym (c.find.ensures.found is'.hosted (described a c.self.inside.hosting is'.hosted is'.hosting)) ∙ c.in-Some.is in
    let there = found-at c.args.name.now is'.hosted at place in
    let b = g.D.Device.disk c.base.new.dev in
    let effect = c.base.ensures.crash tells is'.hosted there.0 is'.hosting there.1 in
    let media : KeepsMedia (done w (based c.args.name.now c.args.header.now)) None b.files = c.acts_keep_media.ensures.act w (based c.args.name.now c.args.header.now) None b.files is'.sound may (λ path bad. bad) (media-in w None a.files b.files (media-beside effect) is'.media) in
    world-stands a b e (record { hosting = c.base.new.self; drawn = c.self.inside.drawn; session = c.self.inside.session; sessions = c.self.inside.sessions.items }) w (done w (based c.args.name.now c.args.header.now)) 0 (set is'.hosted at (basing c.args.header.now (folding there.0))) is'
    (done-behind w (based c.args.name.now c.args.header.now) may (λ turn. turn)) (c.acts_keep_worlds_sound.ensures.act w (based c.args.name.now c.args.header.now) is'.sound may)
    (based-hosts c.hosted_databases_follow_acts.ensures.folded c.hosted_databases_follow_acts.ensures.based w c.args.name.now c.args.header.now is'.hosted at there.0 is'.sound is'.hosts place there.1)
    (of-ok c.base.result value ok (c.base.ensures.stands tells is'.hosted there.0 is'.hosting there.1)) (ap (λ (o : Own). o.number) (of-ok c.base.result value ok c.base.ensures.own))
    (omega arith) refl refl media (calm-beside effect is'.calm)
    (copied-on b is'.hosted at there.0 (basing c.args.header.now (folding there.0)) there.1 (goes-same there.0 (basing c.args.header.now (folding there.0)) refl refl refl) (copied-beside is'.hosted effect is'.copied)))

pub returns-clause-crash : goal.returns-clause-crash
returns-clause-crash g c = λ tells w is.
    let a = g.D.Device.disk c.args.dev.now in
    let e : Kept = record { hosting = c.self.inside.hosting; drawn = c.self.inside.drawn; session = c.self.inside.session; sessions = c.self.inside.sessions.items } in
    let is' : StandsFor a e w = subst (λ (k : Kept). StandsFor a k w) (sym c.self.view_is) is in
    let ready' : IsReady e = subst IsReady (sym c.self.view_is) c.requires.ready in
    let at : ℕ = c.in-Some.at in
    let place : position (names c.args.name.now) is'.hosted ≡ Some at = sym (c.find.ensures.found is'.hosted (described a c.self.inside.hosting is'.hosted is'.hosting)) ∙ c.in-Some.is in
    let there = found-at c.args.name.now is'.hosted at place in
    let b = g.D.Device.disk c.base.new.dev in
    act-crash a b e w (based c.args.name.now c.args.header.now) (set is'.hosted at (basing c.args.header.now (folding there.0))) ready' is' (done-behind w (based c.args.name.now c.args.header.now) tt (λ turn. turn)) (let low = ready'.no_less in omega (arith, low))
    (based-hosts c.hosted_databases_follow_acts.ensures.folded c.hosted_databases_follow_acts.ensures.based w c.args.name.now c.args.header.now is'.hosted at there.0 is'.sound is'.hosts place there.1)
    (c.acts_keep_media.ensures.act w (based c.args.name.now c.args.header.now) None a.files is'.sound tt (λ path bad. bad) is'.media) (λ image left. left) (c.base.ensures.crash tells is'.hosted there.0 is'.hosting there.1)

pub returns-clause-own : goal.returns-clause-own
returns-clause-own g c =
    own-kept c.base.result (record { hosting = c.self.inside.hosting; drawn = c.self.inside.drawn; session = c.self.inside.session; sessions = c.self.inside.sessions.items }) _ (record { hosting = c.base.new.self; drawn = c.self.inside.drawn; session = c.self.inside.session; sessions = c.self.inside.sessions.items }) c.self.view_is c.base.ensures.own

pub returns-in_default-clause-touches : goal.returns-in_default-clause-touches
returns-in_default-clause-touches g c = λ tells. rest-touch g.D.Device.disk c.args.dev.now c.at_rest.new.dev c.at_rest.ensures.same

pub returns-clause-touches : goal.returns-clause-touches
returns-clause-touches g c = λ tells. stores-touch (c.base.ensures.touches tells)
