use Rattle.std.proofs.Common.{◌∙◌, refl, inl, sym, ap, subst}
use Rattle.bk_device.specs.Compose.{effect_weaken}
use Rattle.bk_hosting.specs.Hosting.{IsHosting}
use Rattle.bk_master.specs.declared.record.Own.{Own}
use Rattle.bk_engine.specs.PartLaws.{rest-crash}
use Rattle.bk_engine.specs.Stands.{IsReady, Kept, StandsFor}
use Rattle.bk_engine.proofs.Closed.{closed-crash}
use Rattle.bk_engine.proofs.Named.{moved, of-ok, on-all}
use Rattle.bk_engine.proofs.Reserved.{few-copied, reserved-stands}
use Rattle.bk_engine.specs.TouchLaws.{rest-touch, stores-touch}
use Rattle.bk_engine.proofs.engine.Engine.release.Goals as goal

pub returns-then-own-self-clause-crash : goal.returns-then-own-self-clause-crash
returns-then-own-self-clause-crash g c = λ tells number w is idle.
    let a = g.D.Device.disk c.args.dev.now in
    let e : Kept = record { hosting = c.self.inside.hosting; drawn = c.self.inside.drawn; session = c.self.inside.session; sessions = c.self.inside.sessions.items } in
    let is' : StandsFor a e w = subst (λ (k : Kept). StandsFor a k w) (sym c.self.view_is) is in
    let ready' : IsReady e = subst IsReady (sym c.self.view_is) c.requires.ready in
    effect_weaken (λ image covers. inl covers) (rest-crash a (g.D.Device.disk c.at_rest.new.dev) e w ready' is' (c.at_rest.ensures.crash tells is'.hosted is'.hosting))

pub returns-clause-stands : goal.returns-clause-stands
returns-clause-stands g c = λ tells w is.
    let a = g.D.Device.disk c.args.dev.now in
    let e : Kept = record { hosting = c.self.inside.hosting; drawn = c.self.inside.drawn; session = c.self.inside.session; sessions = c.self.inside.sessions.items } in
    let is' : StandsFor a e w = subst (λ (k : Kept). StandsFor a k w) (sym c.self.view_is) is in
    let hosting : IsHosting (g.D.Device.disk c.at_rest.new.dev) e.hosting is'.hosted = subst (λ d. IsHosting (g.D.Device.disk d) e.hosting is'.hosted) (sym c.at_rest.ensures.same) is'.hosting in
    on-all c.put_own.result (λ value ok.
    reserved-stands a (g.D.Device.disk c.put_own.new.dev) e (record { hosting = c.put_own.new.self; drawn = c.self.inside.drawn; session = c.self.inside.session; sessions = c.self.inside.sessions.items }) w is'
    (of-ok c.put_own.result value ok (c.put_own.ensures.stands tells is'.hosted hosting)) (ap (λ (o : Own). o.number) (of-ok c.put_own.result value ok c.put_own.ensures.own) ∙ ap (λ (o : Own). o.number) c.own-own.ensures) refl refl refl
    (moved g.D.Device.disk c.args.dev.now c.at_rest.new.dev c.at_rest.ensures.same (c.put_own.ensures.crash tells is'.hosted hosting)))

pub returns-clause-crash : goal.returns-clause-crash
returns-clause-crash g c = λ tells number w is idle.
    let a = g.D.Device.disk c.args.dev.now in
    let e : Kept = record { hosting = c.self.inside.hosting; drawn = c.self.inside.drawn; session = c.self.inside.session; sessions = c.self.inside.sessions.items } in
    let is' : StandsFor a e w = subst (λ (k : Kept). StandsFor a k w) (sym c.self.view_is) is in
    let ready' : IsReady e = subst IsReady (sym c.self.view_is) c.requires.ready in
    let hosting : IsHosting (g.D.Device.disk c.at_rest.new.dev) e.hosting is'.hosted = subst (λ d. IsHosting (g.D.Device.disk d) e.hosting is'.hosted) (sym c.at_rest.ensures.same) is'.hosting in
    closed-crash number a e w _ is' idle (c.runs_begin_and_end_in_sound_worlds.ensures.ends w is'.sound) (c.hosted_databases_follow_acts.ensures.ended w is'.hosted is'.hosts) (ap (λ (o : Own). o.number) c.own-own.ensures) refl refl (g.D.Device.disk c.put_own.new.dev) ready'
    (moved g.D.Device.disk c.args.dev.now c.at_rest.new.dev c.at_rest.ensures.same (c.put_own.ensures.crash tells is'.hosted hosting))

pub returns-then-own-self-clause-touches : goal.returns-then-own-self-clause-touches
returns-then-own-self-clause-touches g c = λ tells. rest-touch g.D.Device.disk c.args.dev.now c.at_rest.new.dev c.at_rest.ensures.same

pub returns-clause-touches : goal.returns-clause-touches
returns-clause-touches g c = λ tells. moved g.D.Device.disk c.args.dev.now c.at_rest.new.dev c.at_rest.ensures.same (stores-touch (c.put_own.ensures.touches tells))

pub put_own-requires-clause-own : goal.put_own-requires-clause-own
put_own-requires-clause-own g c =
    let ready = subst IsReady (sym c.self.view_is) c.requires.ready in
    record { path = tt; copying = few-copied c.self.inside.hosting c.own-own.result.now c.in_ok-copying.copying ready.hosting c.own-own.ensures (c.in_ok-copying.ensures ∙ c.as_slice.ensures) }

pub returns-in_err-copying-clause-touches : goal.returns-in_err-copying-clause-touches
returns-in_err-copying-clause-touches g c = λ tells. rest-touch g.D.Device.disk c.args.dev.now c.at_rest.new.dev c.at_rest.ensures.same

pub returns-in_err-copying-clause-crash : goal.returns-in_err-copying-clause-crash
returns-in_err-copying-clause-crash g c = λ tells number w is idle.
    let a = g.D.Device.disk c.args.dev.now in
    let e : Kept = record { hosting = c.self.inside.hosting; drawn = c.self.inside.drawn; session = c.self.inside.session; sessions = c.self.inside.sessions.items } in
    let is' : StandsFor a e w = subst (λ (k : Kept). StandsFor a k w) (sym c.self.view_is) is in
    let ready' : IsReady e = subst IsReady (sym c.self.view_is) c.requires.ready in
    effect_weaken (λ image covers. inl covers) (rest-crash a (g.D.Device.disk c.at_rest.new.dev) e w ready' is' (c.at_rest.ensures.crash tells is'.hosted is'.hosting))
