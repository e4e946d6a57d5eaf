use Rattle.std.proofs.Common.{◌≡◌, ◌∙◌, ℕ, List, Some, inl, sym, ap, subst}
use Rattle.std.specs.List.{position}
use Rattle.bk_device.specs.Compose.{effect_weaken}
use Rattle.bk_hosted.specs.Hosted.{names}
use Rattle.bk_hosting.specs.AskLaws.{described}
use Rattle.bk_engine.specs.PartLaws.{rest-crash}
use Rattle.bk_world.specs.declared.transaction.Open.{Open}
use Rattle.bk_engine.specs.Saying.{may_wait}
use Rattle.bk_engine.specs.Stands.{IsReady, Kept, StandsFor}
use Rattle.bk_engine.proofs.Named.{found-at}
use Rattle.bk_engine.proofs.Said.{says-so}
use Rattle.bk_engine.specs.TouchLaws.{rest-touch}
use Rattle.bk_engine.proofs.engine.Engine.say.Goals as goal

pub returns-in_default-clause-crash : goal.returns-in_default-clause-crash
returns-in_default-clause-crash g c = λ tells w said is may.
    let a = g.D.Device.disk c.args.dev.now in
    let e : Kept = record { hosting = c.self.inside.hosting; drawn = c.self.inside.drawn; session = c.self.inside.session; sessions = c.self.inside.sessions.items } in
    let is' : StandsFor a e w = subst (λ (k : Kept). StandsFor a k w) (sym c.self.view_is) is in
    let ready' : IsReady e = subst IsReady (sym c.self.view_is) c.requires.ready in
    effect_weaken (λ image covers. inl covers) (rest-crash a (g.D.Device.disk c.at_rest.new.dev) e w ready' is' (c.at_rest.ensures.crash tells is'.hosted is'.hosting))

pub returns-clause-stands : goal.returns-clause-stands
returns-clause-stands g c = λ tells w said is may.
    let a = g.D.Device.disk c.args.dev.now in
    let e : Kept = record { hosting = c.self.inside.hosting; drawn = c.self.inside.drawn; session = c.self.inside.session; sessions = c.self.inside.sessions.items } in
    let is' : StandsFor a e w = subst (λ (k : Kept). StandsFor a k w) (sym c.self.view_is) is in
    let at : ℕ = c.in-Some.at in
    let place : position (names c.args.name.now) is'.hosted ≡ Some at = sym (c.find.ensures.found is'.hosted (described a c.self.inside.hosting is'.hosted is'.hosting)) ∙ c.in-Some.is in
    let there = found-at c.args.name.now is'.hosted at place in
    let test : c.may_wait-waits.result ≡ may_wait c.args.records.now c.args.transactions c.state.result.now.transactions =
    c.may_wait-waits.ensures ∙ ap (λ (ts : List Open). may_wait c.args.records.now ts c.as_slice-2.result.now) c.as_slice.ensures ∙ ap (λ (ts : List Open). may_wait c.args.records.now c.args.transactions ts) c.as_slice-2.ensures in
    c.log.ensures.stands tells w said is (says-so w c.args.name.now said c.args.transactions c.args.records.now is'.hosted at there.0 is'.hosts place there.1 c.self.inside.hosting.states c.state.result.now is'.hosting.states c.state.ensures c.may_wait-waits.result test may)

pub returns-clause-crash : goal.returns-clause-crash
returns-clause-crash g c = λ tells w said is may.
    let a = g.D.Device.disk c.args.dev.now in
    let e : Kept = record { hosting = c.self.inside.hosting; drawn = c.self.inside.drawn; session = c.self.inside.session; sessions = c.self.inside.sessions.items } in
    let is' : StandsFor a e w = subst (λ (k : Kept). StandsFor a k w) (sym c.self.view_is) is in
    let at : ℕ = c.in-Some.at in
    let place : position (names c.args.name.now) is'.hosted ≡ Some at = sym (c.find.ensures.found is'.hosted (described a c.self.inside.hosting is'.hosted is'.hosting)) ∙ c.in-Some.is in
    let there = found-at c.args.name.now is'.hosted at place in
    let test : c.may_wait-waits.result ≡ may_wait c.args.records.now c.args.transactions c.state.result.now.transactions =
    c.may_wait-waits.ensures ∙ ap (λ (ts : List Open). may_wait c.args.records.now ts c.as_slice-2.result.now) c.as_slice.ensures ∙ ap (λ (ts : List Open). may_wait c.args.records.now c.args.transactions ts) c.as_slice-2.ensures in
    c.log.ensures.crash tells w said is (says-so w c.args.name.now said c.args.transactions c.args.records.now is'.hosted at there.0 is'.hosts place there.1 c.self.inside.hosting.states c.state.result.now is'.hosting.states c.state.ensures c.may_wait-waits.result test may)

pub returns-in_default-clause-touches : goal.returns-in_default-clause-touches
returns-in_default-clause-touches g c = λ tells. rest-touch g.D.Device.disk c.args.dev.now c.at_rest.new.dev c.at_rest.ensures.same

pub returns-clause-touches : goal.returns-clause-touches
returns-clause-touches g c = λ tells. c.log.ensures.touches tells
