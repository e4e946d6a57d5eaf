use Rattle.std.proofs.Common.{◌∙◌, refl, sym, ap, subst}
use Rattle.bk_master.specs.declared.record.Own.{Own}
use Rattle.bk_engine.specs.Stands.{IsReady, Kept, StandsFor, own_in}
use Rattle.bk_engine.proofs.Named.{moved, of-ok, on-all, own-put}
use Rattle.bk_hosting.specs.Hosting.{IsHosting}
use Rattle.bk_engine.specs.PartLaws.{media-beside, rest-crash}
use Rattle.bk_engine.proofs.Reserved.{few-copied, reserved-crash, reserved-stands}
use Rattle.bk_engine.specs.TouchLaws.{rest-touch, stores-touch}
use Rattle.bk_engine.proofs.engine.Engine.reserve.Goals as goal

pub returns-then-self-ge-KEPT_NUMBERS-clause-crash : goal.returns-then-self-ge-KEPT_NUMBERS-clause-crash
returns-then-self-ge-KEPT_NUMBERS-clause-crash g c = λ tells w is.
    let a = g.D.Device.disk c.args.dev.now in
    let e : Kept = record { hosting = c.self.inside.hosting; drawn = c.self.inside.drawn; session = c.self.inside.session; sessions = c.self.inside.sessions.items } in
    let is' : StandsFor a e w = subst (λ (k : Kept). StandsFor a k w) (sym c.self.view_is) is in
    let ready' : IsReady e = subst IsReady (sym c.self.view_is) c.requires.ready in
    rest-crash a (g.D.Device.disk c.at_rest.new.dev) e w ready' is' (c.at_rest.ensures.crash tells is'.hosted is'.hosting)

pub returns-then-self-n-clause-crash : goal.returns-then-self-n-clause-crash
returns-then-self-n-clause-crash g c = λ tells w is.
    let a = g.D.Device.disk c.args.dev.now in
    let e : Kept = record { hosting = c.self.inside.hosting; drawn = c.self.inside.drawn; session = c.self.inside.session; sessions = c.self.inside.sessions.items } in
    let is' : StandsFor a e w = subst (λ (k : Kept). StandsFor a k w) (sym c.self.view_is) is in
    let ready' : IsReady e = subst IsReady (sym c.self.view_is) c.requires.ready in
    rest-crash a (g.D.Device.disk c.at_rest.new.dev) e w ready' is' (c.at_rest.ensures.crash tells is'.hosted is'.hosting)

pub returns-clause-stands : goal.returns-clause-stands
returns-clause-stands g c = λ tells w is.
    let a = g.D.Device.disk c.args.dev.now in
    let e : Kept = record { hosting = c.self.inside.hosting; drawn = c.self.inside.drawn; session = c.self.inside.session; sessions = c.self.inside.sessions.items } in
    let is' : StandsFor a e w = subst (λ (k : Kept). StandsFor a k w) (sym c.self.view_is) is in
    let ready' : IsReady e = subst IsReady (sym c.self.view_is) c.requires.ready in
    let hosting : IsHosting (g.D.Device.disk c.at_rest.new.dev) e.hosting is'.hosted = subst (λ d. IsHosting (g.D.Device.disk d) e.hosting is'.hosted) (sym c.at_rest.ensures.same) is'.hosting in
    on-all c.put_own.result (λ value ok.
    reserved-stands a (g.D.Device.disk c.put_own.new.dev) e (record { hosting = c.put_own.new.self; drawn = c.self.inside.drawn; session = c.self.inside.session; sessions = c.self.inside.sessions.items }) w is'
    (of-ok c.put_own.result value ok (c.put_own.ensures.stands tells is'.hosted hosting)) (ap (λ (o : Own). o.number) (of-ok c.put_own.result value ok c.put_own.ensures.own) ∙ ap (λ (o : Own). o.number) c.own-own.ensures) refl refl refl
    (moved g.D.Device.disk c.args.dev.now c.at_rest.new.dev c.at_rest.ensures.same (c.put_own.ensures.crash tells is'.hosted hosting)))

pub returns-clause-crash : goal.returns-clause-crash
returns-clause-crash g c = λ tells w is.
    let a = g.D.Device.disk c.args.dev.now in
    let e : Kept = record { hosting = c.self.inside.hosting; drawn = c.self.inside.drawn; session = c.self.inside.session; sessions = c.self.inside.sessions.items } in
    let is' : StandsFor a e w = subst (λ (k : Kept). StandsFor a k w) (sym c.self.view_is) is in
    let ready' : IsReady e = subst IsReady (sym c.self.view_is) c.requires.ready in
    let hosting : IsHosting (g.D.Device.disk c.at_rest.new.dev) e.hosting is'.hosted = subst (λ d. IsHosting (g.D.Device.disk d) e.hosting is'.hosted) (sym c.at_rest.ensures.same) is'.hosting in
    reserved-crash a (g.D.Device.disk c.put_own.new.dev) e w _ ready' is' (ap (λ (o : Own). o.number) c.own-own.ensures) refl refl
    (moved g.D.Device.disk c.args.dev.now c.at_rest.new.dev c.at_rest.ensures.same (c.put_own.ensures.crash tells is'.hosted hosting))

pub returns-clause-own : goal.returns-clause-own
returns-clause-own g c =
    own-put c.put_own.result (record { hosting = c.self.inside.hosting; drawn = c.self.inside.drawn; session = c.self.inside.session; sessions = c.self.inside.sessions.items }) _ (record { hosting = c.put_own.new.self; drawn = c.self.inside.drawn; session = c.self.inside.session; sessions = c.self.inside.sessions.items }) _ _ c.self.view_is (ap (λ (o : Own). o.number) c.own-own.ensures) (ap (λ (o : Own). o.staging) c.own-own.ensures ∙ ap (λ (k : Kept). (own_in k).staging) c.self.view_is) c.put_own.ensures.own

pub returns-then-self-ge-KEPT_NUMBERS-clause-touches : goal.returns-then-self-ge-KEPT_NUMBERS-clause-touches
returns-then-self-ge-KEPT_NUMBERS-clause-touches g c = λ tells. rest-touch g.D.Device.disk c.args.dev.now c.at_rest.new.dev c.at_rest.ensures.same

pub returns-then-self-n-clause-touches : goal.returns-then-self-n-clause-touches
returns-then-self-n-clause-touches g c = λ tells. rest-touch g.D.Device.disk c.args.dev.now c.at_rest.new.dev c.at_rest.ensures.same

pub returns-clause-touches : goal.returns-clause-touches
returns-clause-touches g c = λ tells. moved g.D.Device.disk c.args.dev.now c.at_rest.new.dev c.at_rest.ensures.same (stores-touch (c.put_own.ensures.touches tells))

pub returns-clause-media : goal.returns-clause-media
returns-clause-media g c = λ tells w is.
    let a = g.D.Device.disk c.args.dev.now in
    let e : Kept = record { hosting = c.self.inside.hosting; drawn = c.self.inside.drawn; session = c.self.inside.session; sessions = c.self.inside.sessions.items } in
    let is' : StandsFor a e w = subst (λ (k : Kept). StandsFor a k w) (sym c.self.view_is) is in
    let hosting : IsHosting (g.D.Device.disk c.at_rest.new.dev) e.hosting is'.hosted = subst (λ d. IsHosting (g.D.Device.disk d) e.hosting is'.hosted) (sym c.at_rest.ensures.same) is'.hosting in
    media-beside (moved g.D.Device.disk c.args.dev.now c.at_rest.new.dev c.at_rest.ensures.same (c.put_own.ensures.crash tells is'.hosted hosting))

pub put_own-requires-clause-own : goal.put_own-requires-clause-own
put_own-requires-clause-own g c =
    let ready = subst IsReady (sym c.self.view_is) c.requires.ready in
    record { path = tt; copying = few-copied c.self.inside.hosting c.own-own.result.now c.in_ok-copying.copying ready.hosting c.own-own.ensures (c.in_ok-copying.ensures ∙ c.as_slice.ensures) }

pub returns-in_err-copying-clause-touches : goal.returns-in_err-copying-clause-touches
returns-in_err-copying-clause-touches g c = λ tells. rest-touch g.D.Device.disk c.args.dev.now c.at_rest.new.dev c.at_rest.ensures.same

pub returns-in_err-copying-clause-crash : goal.returns-in_err-copying-clause-crash
returns-in_err-copying-clause-crash g c = λ tells w is.
    let a = g.D.Device.disk c.args.dev.now in
    let e : Kept = record { hosting = c.self.inside.hosting; drawn = c.self.inside.drawn; session = c.self.inside.session; sessions = c.self.inside.sessions.items } in
    let is' : StandsFor a e w = subst (λ (k : Kept). StandsFor a k w) (sym c.self.view_is) is in
    let ready' : IsReady e = subst IsReady (sym c.self.view_is) c.requires.ready in
    rest-crash a (g.D.Device.disk c.at_rest.new.dev) e w ready' is' (c.at_rest.ensures.crash tells is'.hosted is'.hosting)
