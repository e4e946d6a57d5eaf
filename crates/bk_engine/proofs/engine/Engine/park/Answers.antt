use Rattle.std.proofs.Common.{◌≡◌, ◌∙◌, ℕ, List, Some, None, refl, inl, sym, ap, subst, arith}
use Rattle.bk_archive.specs.Media.{KeepsMedia}
use Rattle.bk_master.specs.declared.record.Own.{Own}
use Rattle.bk_engine.specs.Stands.{IsReady, Kept, StandsFor}
use Rattle.bk_engine.proofs.Named.{found-at, moved, of-ok, on-all, own-kept}
use Rattle.std.specs.Prelude.{set, ◌++◌, ◌∷◌, []}
use Rattle.std.specs.List.{position}
use Rattle.bk_archive.specs.MediaLaws.{media-in}
use Rattle.bk_device.specs.Compose.{effect_weaken}
use Rattle.bk_hosted.specs.Hosted.{Hosted, names, parking, set_log}
use Rattle.bk_hosting.specs.AskLaws.{described}
use Rattle.bk_hosting.specs.Hosting.{IsHosting}
use Rattle.bk_machine.specs.Acts.{done, replaced}
use Rattle.bk_engine.specs.ActLaws.{done-behind}
use Rattle.bk_engine.specs.CopiedLaws.{copied-more, copied-set}
use Rattle.bk_engine.specs.PartLaws.{act-crash, calm-beside, copied-beside, media-beside, rest-crash, world-stands}
use Rattle.bk_engine.proofs.Made.{parked-as}
use Rattle.bk_engine.specs.TouchLaws.{rest-touch, stores-touch}
use Rattle.bk_engine.proofs.engine.Engine.park.Goals as goal

pub returns-in_err-points-clause-crash : goal.returns-in_err-points-clause-crash
returns-in_err-points-clause-crash g c = λ tells w is may known.
    let a = g.D.Device.disk c.args.dev.now in
    let e : Kept = record { hosting = c.self.inside.hosting; drawn = c.self.inside.drawn; session = c.self.inside.session; sessions = c.self.inside.sessions.items } in
    let is' : StandsFor a e w = subst (λ (k : Kept). StandsFor a k w) (sym c.self.view_is) is in
    let ready' : IsReady e = subst IsReady (sym c.self.view_is) c.requires.ready in
    effect_weaken (λ image covers. inl covers) (rest-crash a (g.D.Device.disk c.at_rest.new.dev) e w ready' is' (c.at_rest.ensures.crash tells is'.hosted is'.hosting))

pub returns-in-Some-clause-stands : goal.returns-in-Some-clause-stands
returns-in-Some-clause-stands g c = λ tells w is may known.
    let a = g.D.Device.disk c.args.dev.now in
    let e : Kept = record { hosting = c.self.inside.hosting; drawn = c.self.inside.drawn; session = c.self.inside.session; sessions = c.self.inside.sessions.items } in
    let is' : StandsFor a e w = subst (λ (k : Kept). StandsFor a k w) (sym c.self.view_is) is in
    let ready' : IsReady e = subst IsReady (sym c.self.view_is) c.requires.ready in
    let at : ℕ = c.in-Some.at in
    let hosting : IsHosting (g.D.Device.disk c.at_rest.new.dev) e.hosting is'.hosted = subst (λ d. IsHosting (g.D.Device.disk d) e.hosting is'.hosted) (sym c.at_rest.ensures.same) is'.hosting in
    let header = c.args.header.now in
    let name : List ℕ = c.args.known.spec.name in
    let act = replaced name header in
    let h : Hosted = parking (set_log w header) name header in
    let place : position (names name) is'.hosted ≡ Some at = subst (λ (n : List ℕ). position (names n) is'.hosted ≡ Some at) c.as_str.ensures.spelling (sym (c.find.ensures.found is'.hosted (described a c.self.inside.hosting is'.hosted is'.hosting)) ∙ c.in-Some.is) in
    let there = found-at name is'.hosted at place in
    let b = g.D.Device.disk c.park_at.new.dev in
    let parked = parked-as w header c.args.known c.in_ok-points.points c.in_ok-points.ensures known in
    let effect = moved g.D.Device.disk c.args.dev.now c.at_rest.new.dev c.at_rest.ensures.same (c.park_at.ensures.crash tells is'.hosted there.0 h hosting there.1 parked) in
    let media : KeepsMedia (done w act) None b.files = c.acts_keep_media.ensures.act w act None b.files is'.sound may (λ path bad. bad) (media-in w None a.files b.files (media-beside effect) is'.media) in
    on-all c.park_at.result (λ value ok.
    world-stands a b e (record { hosting = c.park_at.new.self; drawn = c.self.inside.drawn; session = c.self.inside.session; sessions = c.self.inside.sessions.items }) w (done w act) 0 (set is'.hosted at h) is'
    (done-behind w act may (λ turn. turn)) (c.acts_keep_worlds_sound.ensures.act w act is'.sound may)
    (c.hosted_databases_follow_restores.ensures.replaced w name header is'.hosted at is'.sound is'.hosts may place)
    (of-ok c.park_at.result value ok (c.park_at.ensures.stands tells is'.hosted there.0 h hosting there.1 parked)) (ap (λ (o : Own). o.number) (of-ok c.park_at.result value ok c.park_at.ensures.own))
    (omega arith) refl refl media (calm-beside effect is'.calm) (copied-set b is'.hosted at h refl (copied-beside is'.hosted effect is'.copied)))

pub returns-in-Some-clause-crash : goal.returns-in-Some-clause-crash
returns-in-Some-clause-crash g c = λ tells w is may known.
    let a = g.D.Device.disk c.args.dev.now in
    let e : Kept = record { hosting = c.self.inside.hosting; drawn = c.self.inside.drawn; session = c.self.inside.session; sessions = c.self.inside.sessions.items } in
    let is' : StandsFor a e w = subst (λ (k : Kept). StandsFor a k w) (sym c.self.view_is) is in
    let ready' : IsReady e = subst IsReady (sym c.self.view_is) c.requires.ready in
    let at : ℕ = c.in-Some.at in
    let hosting : IsHosting (g.D.Device.disk c.at_rest.new.dev) e.hosting is'.hosted = subst (λ d. IsHosting (g.D.Device.disk d) e.hosting is'.hosted) (sym c.at_rest.ensures.same) is'.hosting in
    let header = c.args.header.now in
    let name : List ℕ = c.args.known.spec.name in
    let act = replaced name header in
    let h : Hosted = parking (set_log w header) name header in
    let place : position (names name) is'.hosted ≡ Some at = subst (λ (n : List ℕ). position (names n) is'.hosted ≡ Some at) c.as_str.ensures.spelling (sym (c.find.ensures.found is'.hosted (described a c.self.inside.hosting is'.hosted is'.hosting)) ∙ c.in-Some.is) in
    let there = found-at name is'.hosted at place in
    let parked = parked-as w header c.args.known c.in_ok-points.points c.in_ok-points.ensures known in
    let low = ready'.no_less in
    act-crash a (g.D.Device.disk c.park_at.new.dev) e w act (set is'.hosted at h) ready' is' (done-behind w act may (λ turn. turn)) (omega (arith, low))
    (c.hosted_databases_follow_restores.ensures.replaced w name header is'.hosted at is'.sound is'.hosts may place)
    (c.acts_keep_media.ensures.act w act None a.files is'.sound may (λ path bad. bad) is'.media) (λ image left. left) (moved g.D.Device.disk c.args.dev.now c.at_rest.new.dev c.at_rest.ensures.same (c.park_at.ensures.crash tells is'.hosted there.0 h hosting there.1 parked))

pub returns-in-None-clause-stands : goal.returns-in-None-clause-stands
returns-in-None-clause-stands g c = λ tells w is may known.
    let a = g.D.Device.disk c.args.dev.now in
    let e : Kept = record { hosting = c.self.inside.hosting; drawn = c.self.inside.drawn; session = c.self.inside.session; sessions = c.self.inside.sessions.items } in
    let is' : StandsFor a e w = subst (λ (k : Kept). StandsFor a k w) (sym c.self.view_is) is in
    let ready' : IsReady e = subst IsReady (sym c.self.view_is) c.requires.ready in
    let hosting : IsHosting (g.D.Device.disk c.at_rest.new.dev) e.hosting is'.hosted = subst (λ d. IsHosting (g.D.Device.disk d) e.hosting is'.hosted) (sym c.at_rest.ensures.same) is'.hosting in
    let header = c.args.header.now in
    let name : List ℕ = c.args.known.spec.name in
    let act = replaced name header in
    let h : Hosted = parking (set_log w header) name header in
    let place : position (names name) is'.hosted ≡ None = subst (λ (n : List ℕ). position (names n) is'.hosted ≡ None) c.as_str.ensures.spelling (sym (c.find.ensures.found is'.hosted (described a c.self.inside.hosting is'.hosted is'.hosting)) ∙ c.in-None.is) in
    let b = g.D.Device.disk c.park.new.dev in
    let parked = parked-as w header c.args.known c.in_ok-points.points c.in_ok-points.ensures known in
    let effect = moved g.D.Device.disk c.args.dev.now c.at_rest.new.dev c.at_rest.ensures.same (c.park.ensures.crash tells is'.hosted h hosting parked) in
    let media : KeepsMedia (done w act) None b.files = c.acts_keep_media.ensures.act w act None b.files is'.sound may (λ path bad. bad) (media-in w None a.files b.files (media-beside effect) is'.media) in
    on-all c.park.result (λ value ok.
    world-stands a b e (record { hosting = c.park.new.self; drawn = c.self.inside.drawn; session = c.self.inside.session; sessions = c.self.inside.sessions.items }) w (done w act) 0 (is'.hosted ++ h ∷ []) is'
    (done-behind w act may (λ turn. turn)) (c.acts_keep_worlds_sound.ensures.act w act is'.sound may)
    (c.hosted_databases_follow_restores.ensures.new w name header is'.hosted is'.sound is'.hosts may place)
    (of-ok c.park.result value ok (c.park.ensures.stands tells is'.hosted h hosting parked)) (ap (λ (o : Own). o.number) (of-ok c.park.result value ok c.park.ensures.own))
    (omega arith) refl refl media (calm-beside effect is'.calm) (copied-more b is'.hosted h refl (copied-beside is'.hosted effect is'.copied)))

pub returns-in-None-clause-crash : goal.returns-in-None-clause-crash
returns-in-None-clause-crash g c = λ tells w is may known.
    let a = g.D.Device.disk c.args.dev.now in
    let e : Kept = record { hosting = c.self.inside.hosting; drawn = c.self.inside.drawn; session = c.self.inside.session; sessions = c.self.inside.sessions.items } in
    let is' : StandsFor a e w = subst (λ (k : Kept). StandsFor a k w) (sym c.self.view_is) is in
    let ready' : IsReady e = subst IsReady (sym c.self.view_is) c.requires.ready in
    let hosting : IsHosting (g.D.Device.disk c.at_rest.new.dev) e.hosting is'.hosted = subst (λ d. IsHosting (g.D.Device.disk d) e.hosting is'.hosted) (sym c.at_rest.ensures.same) is'.hosting in
    let header = c.args.header.now in
    let name : List ℕ = c.args.known.spec.name in
    let act = replaced name header in
    let h : Hosted = parking (set_log w header) name header in
    let place : position (names name) is'.hosted ≡ None = subst (λ (n : List ℕ). position (names n) is'.hosted ≡ None) c.as_str.ensures.spelling (sym (c.find.ensures.found is'.hosted (described a c.self.inside.hosting is'.hosted is'.hosting)) ∙ c.in-None.is) in
    let parked = parked-as w header c.args.known c.in_ok-points.points c.in_ok-points.ensures known in
    let low = ready'.no_less in
    act-crash a (g.D.Device.disk c.park.new.dev) e w act (is'.hosted ++ h ∷ []) ready' is' (done-behind w act may (λ turn. turn)) (omega (arith, low))
    (c.hosted_databases_follow_restores.ensures.new w name header is'.hosted is'.sound is'.hosts may place)
    (c.acts_keep_media.ensures.act w act None a.files is'.sound may (λ path bad. bad) is'.media) (λ image left. left) (moved g.D.Device.disk c.args.dev.now c.at_rest.new.dev c.at_rest.ensures.same (c.park.ensures.crash tells is'.hosted h hosting parked))

pub returns-in-Some-clause-own : goal.returns-in-Some-clause-own
returns-in-Some-clause-own g c =
    own-kept c.park_at.result (record { hosting = c.self.inside.hosting; drawn = c.self.inside.drawn; session = c.self.inside.session; sessions = c.self.inside.sessions.items }) _ (record { hosting = c.park_at.new.self; drawn = c.self.inside.drawn; session = c.self.inside.session; sessions = c.self.inside.sessions.items }) c.self.view_is c.park_at.ensures.own

pub returns-in-None-clause-own : goal.returns-in-None-clause-own
returns-in-None-clause-own g c =
    own-kept c.park.result (record { hosting = c.self.inside.hosting; drawn = c.self.inside.drawn; session = c.self.inside.session; sessions = c.self.inside.sessions.items }) _ (record { hosting = c.park.new.self; drawn = c.self.inside.drawn; session = c.self.inside.session; sessions = c.self.inside.sessions.items }) c.self.view_is c.park.ensures.own

pub returns-in_err-points-clause-touches : goal.returns-in_err-points-clause-touches
returns-in_err-points-clause-touches g c = λ tells. rest-touch g.D.Device.disk c.args.dev.now c.at_rest.new.dev c.at_rest.ensures.same

pub returns-in-Some-clause-touches : goal.returns-in-Some-clause-touches
returns-in-Some-clause-touches g c = λ tells. moved g.D.Device.disk c.args.dev.now c.at_rest.new.dev c.at_rest.ensures.same (stores-touch (c.park_at.ensures.touches tells))

pub returns-in-None-clause-touches : goal.returns-in-None-clause-touches
returns-in-None-clause-touches g c = λ tells. moved g.D.Device.disk c.args.dev.now c.at_rest.new.dev c.at_rest.ensures.same (stores-touch (c.park.ensures.touches tells))
