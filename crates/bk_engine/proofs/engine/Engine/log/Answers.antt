use Rattle.std.proofs.Common.{◌≡◌, ◌∙◌, ℕ, Some, None, refl, inl, sym, ap, subst, arith}
use Rattle.std.specs.Prelude.{set}
use Rattle.std.specs.List.{position}
use Rattle.bk_archive.specs.Media.{KeepsMedia}
use Rattle.bk_archive.specs.MediaLaws.{media-in}
use Rattle.bk_device.specs.Compose.{effect_weaken}
use Rattle.bk_hosted.specs.Hosted.{names, saying}
use Rattle.bk_hosting.specs.AskLaws.{described}
use Rattle.bk_machine.specs.Acts.{done, logged}
use Rattle.bk_master.specs.declared.record.Own.{Own}
use Rattle.bk_engine.specs.ActLaws.{said-behind}
use Rattle.bk_engine.specs.CopiedLaws.{copied-on, goes-says}
use Rattle.bk_volume.specs.Names.{staging_file}
use Rattle.bk_engine.specs.NameLaws.{store-staging}
use Rattle.bk_engine.specs.PartLaws.{calm-beside, copied-beside, media-beside, rest-crash, world-stands}
use Rattle.bk_engine.specs.Stands.{IsReady, Kept, StandsFor}
use Rattle.bk_engine.proofs.Named.{found-at, of-ok, on-all, own-kept, says-now, says-up}
use Rattle.bk_engine.proofs.Logged.{said-crash, said-kept}
use Rattle.bk_engine.specs.TouchLaws.{rest-touch, stores-touch}
use Rattle.bk_engine.proofs.engine.Engine.log.Goals as goal

pub returns-in_default-clause-crash : goal.returns-in_default-clause-crash
returns-in_default-clause-crash g c = λ tells w said is may.
    let a = g.D.Device.disk c.args.dev.now in
    let e : Kept = record { hosting = c.self.inside.hosting; drawn = c.self.inside.drawn; session = c.self.inside.session; sessions = c.self.inside.sessions.items } in
    let is' : StandsFor a e w = subst (λ (k : Kept). StandsFor a k w) (sym c.self.view_is) is in
    let ready' : IsReady e = subst IsReady (sym c.self.view_is) c.requires.ready in
    effect_weaken (λ image covers. inl covers) (rest-crash a (g.D.Device.disk c.at_rest.new.dev) e w ready' is' (c.at_rest.ensures.crash tells is'.hosted is'.hosting))

pub returns-clause-stands : goal.returns-clause-stands
returns-clause-stands g c = λ tells w said is may.
    let a = g.D.Device.disk c.args.dev.now in
    let e : Kept = record { hosting = c.self.inside.hosting; drawn = c.self.inside.drawn; session = c.self.inside.session; sessions = c.self.inside.sessions.items } in
    let is' : StandsFor a e w = subst (λ (k : Kept). StandsFor a k w) (sym c.self.view_is) is in
    let ready' : IsReady e = subst IsReady (sym c.self.view_is) c.requires.ready in
    let at : ℕ = c.in-Some.at in
    let place : position (names c.args.name.now) is'.hosted ≡ Some at = sym (c.find.ensures.found is'.hosted (described a c.self.inside.hosting is'.hosted is'.hosting)) ∙ c.in-Some.is in
    let there = found-at c.args.name.now is'.hosted at place in
    let b = g.D.Device.disk c.log.new.dev in
    let now = says-now w c.args.name.now said c.args.transactions c.args.records.now c.args.lasting is'.hosted at there.0 is'.hosts place there.1 may in
    let up = says-up w c.args.name.now said c.args.transactions c.args.records.now c.args.lasting is'.hosted at there.0 is'.hosts place there.1 may in
    let effect = c.log.ensures.crash tells is'.hosted there.0 said is'.hosting there.1 now in
    let kept : KeepsMedia (done w (logged c.args.name.now said c.args.transactions)) None a.files =
    said-kept a e w c.args.name.now said c.args.transactions at there.0 c.hosted_databases_follow_acts.ensures.front c.hosted_databases_follow_acts.ensures.grows c.sets_that_stay.ensures.grown is' place there.1 up may.plain said in
    on-all c.log.result (λ value ok.
    world-stands a b e (record { hosting = c.log.new.self; drawn = c.self.inside.drawn; session = c.self.inside.session; sessions = c.self.inside.sessions.items }) w (done w (logged c.args.name.now said c.args.transactions)) 0 (set is'.hosted at (saying said c.args.transactions there.0)) is'
    (said-behind w c.args.name.now said c.args.transactions) (c.acts_keep_worlds_sound.ensures.act w (logged c.args.name.now said c.args.transactions) is'.sound may.may)
    (c.hosted_databases_follow_acts.ensures.front w c.args.name.now said c.args.transactions is'.hosted at there.0 is'.sound is'.hosts place there.1 up may.plain)
    (of-ok c.log.result value ok (c.log.ensures.stands tells is'.hosted there.0 said is'.hosting there.1 now)) (ap (λ (o : Own). o.number) (of-ok c.log.result value ok c.log.ensures.own))
    (omega arith) refl refl (media-in (done w (logged c.args.name.now said c.args.transactions)) None a.files b.files (media-beside effect) kept) (calm-beside effect is'.calm)
    (copied-on b is'.hosted at there.0 (saying said c.args.transactions there.0) there.1 (goes-says said c.args.transactions there.0) (copied-beside is'.hosted effect is'.copied)))

pub returns-clause-crash : goal.returns-clause-crash
returns-clause-crash g c = λ tells w said is may.
    let a = g.D.Device.disk c.args.dev.now in
    let e : Kept = record { hosting = c.self.inside.hosting; drawn = c.self.inside.drawn; session = c.self.inside.session; sessions = c.self.inside.sessions.items } in
    let is' : StandsFor a e w = subst (λ (k : Kept). StandsFor a k w) (sym c.self.view_is) is in
    let ready' : IsReady e = subst IsReady (sym c.self.view_is) c.requires.ready in
    let at : ℕ = c.in-Some.at in
    let place : position (names c.args.name.now) is'.hosted ≡ Some at = sym (c.find.ensures.found is'.hosted (described a c.self.inside.hosting is'.hosted is'.hosting)) ∙ c.in-Some.is in
    let there = found-at c.args.name.now is'.hosted at place in
    let now = says-now w c.args.name.now said c.args.transactions c.args.records.now c.args.lasting is'.hosted at there.0 is'.hosts place there.1 may in
    let up = says-up w c.args.name.now said c.args.transactions c.args.records.now c.args.lasting is'.hosted at there.0 is'.hosts place there.1 may in
    said-crash a e w c.args.name.now said c.args.transactions at there.0 c.hosted_databases_follow_acts.ensures.front c.hosted_databases_follow_acts.ensures.grows c.sets_that_stay.ensures.grown is' place there.1 up may.plain ready'
    (c.log.ensures.crash tells is'.hosted there.0 said is'.hosting there.1 now)

pub returns-clause-own : goal.returns-clause-own
returns-clause-own g c =
    own-kept c.log.result (record { hosting = c.self.inside.hosting; drawn = c.self.inside.drawn; session = c.self.inside.session; sessions = c.self.inside.sessions.items }) _ (record { hosting = c.log.new.self; drawn = c.self.inside.drawn; session = c.self.inside.session; sessions = c.self.inside.sessions.items }) c.self.view_is c.log.ensures.own

pub returns-in_default-clause-touches : goal.returns-in_default-clause-touches
returns-in_default-clause-touches g c = λ tells. rest-touch g.D.Device.disk c.args.dev.now c.at_rest.new.dev c.at_rest.ensures.same

pub returns-clause-touches : goal.returns-clause-touches
returns-clause-touches g c = λ tells. stores-touch (c.log.ensures.touches tells)

pub returns-in_default-clause-sets : goal.returns-in_default-clause-sets
returns-in_default-clause-sets g c = λ tells set. ap (λ d. (g.D.Device.disk d).files (staging_file set)) c.at_rest.ensures.same

pub returns-clause-sets : goal.returns-clause-sets
returns-clause-sets g c = λ tells set. (c.log.ensures.touches tells).others (staging_file set) (λ store. store-staging (staging_file set) (set, refl) store)
