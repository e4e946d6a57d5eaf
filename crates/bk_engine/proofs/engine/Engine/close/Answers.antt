use Rattle.std.proofs.Common.{◌≡◌, ◌⊎◌, sym, subst}
use Rattle.bk_device.specs.Calls.{ChangesNothing}
use Rattle.bk_device.specs.Effects.{Effect}
use Rattle.bk_machine.specs.World.{ended}
use Rattle.bk_engine.specs.Loading.{Stands}
use Rattle.bk_engine.specs.Stands.{Covers, IsOurs, IsReady, Kept, StandsFor, own_in}
use Rattle.bk_engine.proofs.Closed.{rest-leaves}
use Rattle.bk_engine.specs.Touched.{NoMedium, TouchesOnly}
use Rattle.bk_engine.proofs.engine.Engine.close.Goals as goal

pub returns-in_err-release-clause-crash : goal.returns-in_err-release-clause-crash
returns-in_err-release-clause-crash g c = λ tells number w is idle. c.release.ensures.crash tells number w is idle

pub returns-clause-crash : goal.returns-clause-crash
returns-clause-crash g c = λ tells number w is idle.
    subst (λ d. Effect IsOurs (λ image. Covers w image ⊎ Stands number image (ended w)) (g.D.Device.disk c.args.dev.now) (g.D.Device.disk d)) (sym c.at_rest.ensures.same) (c.release.ensures.crash tells number w is idle)

pub returns-clause-still : goal.returns-clause-still
returns-clause-still g c = λ tells none. subst (λ d. ChangesNothing (g.D.Device.disk c.args.dev.now) (g.D.Device.disk d)) (sym c.at_rest.ensures.same) (c.release.ensures.still tells none)

pub returns-clause-leaves : goal.returns-clause-leaves
returns-clause-leaves g c = λ tells number w is idle.
    let b = g.D.Device.disk c.release.new.dev in
    let e : Kept = record { hosting = c.self.inside.hosting; drawn = c.self.inside.drawn; session = c.self.inside.session; sessions = c.self.inside.sessions.items } in
    let is' : StandsFor b e w = subst (λ (k : Kept). StandsFor b k w) (sym c.self.view_is) (c.in_ok-release.ensures.stands tells w is) in
    let ready' : IsReady e = subst IsReady (sym c.self.view_is) c.in_ok-release.ensures.ready in
    rest-leaves number b (g.D.Device.disk c.at_rest.new.dev) e w ready' is' (subst (λ (k : Kept). (own_in k).counter ≡ k.drawn) (sym c.self.view_is) c.in_ok-release.ensures.exact) idle
    (c.runs_begin_and_end_in_sound_worlds.ensures.ends w is'.sound) (c.hosted_databases_follow_acts.ensures.ended w is'.hosted is'.hosts) (c.at_rest.ensures.crash tells is'.hosted is'.hosting)

pub returns-in_err-release-clause-touches : goal.returns-in_err-release-clause-touches
returns-in_err-release-clause-touches g c = λ tells. c.release.ensures.touches tells

pub returns-clause-touches : goal.returns-clause-touches
returns-clause-touches g c = λ tells. subst (λ d. TouchesOnly NoMedium (g.D.Device.disk c.args.dev.now) (g.D.Device.disk d)) (sym c.at_rest.ensures.same) (c.release.ensures.touches tells)
