use Rattle.std.proofs.Common.{List, refl, subst, sym}
use Rattle.bk_device.specs.Compose.{effect_weaken}
use Rattle.bk_device.specs.Laws.{nothing_yet}
use Rattle.bk_engine.specs.Stands.{StandsFor}
use Rattle.bk_engine.specs.TouchLaws.{rest-touch, wider-touch}
use Rattle.bk_engine.specs.Touched.{TouchesOnly}
use Rattle.bk_machine.specs.Acts.{Act, done_all}
use Rattle.bk_plans.specs.declared.parts.Part.{Part}
use Rattle.bk_plans.specs.declared.parts.Plan.{Plan}
use Rattle.bk_restarts.specs.CutLaws.{cut-first}
use Rattle.bk_stores.specs.Standing.{AreStanding}
use Rattle.bk_executing.specs.Executing.{Rests}
use Rattle.bk_executing.specs.Parts.{CutsParts, CutsPlan, CutsReadying, DoesPlan, PartsWrite, PlanWrites}
use Rattle.bk_executing.proofs.following.follow.Goals as goal

pub returns-in-Refused-clause-standing : goal.returns-in-Refused-clause-standing
returns-in-Refused-clause-standing g c tells = subst (λ d. AreStanding (g.D.Device.disk d) c.args.engine.now.hosting.stores) (sym c.at_rest.ensures.same) (c.requires.standing tells)

pub returns-in-Refused-clause-own : goal.returns-in-Refused-clause-own
returns-in-Refused-clause-own g c = (refl, c.requires.none)

pub returns-in-Refused-clause-does : goal.returns-in-Refused-clause-does
returns-in-Refused-clause-does g c tells =
    subst (λ (p : Plan). DoesPlan c.args.engine.now (g.D.Device.disk c.args.dev.now) p c.args.engine.now (g.D.Device.disk c.at_rest.new.dev)) (sym c.in-Refused.is)
    (λ w acts stands are. subst (λ (all : List Act). StandsFor (g.D.Device.disk c.at_rest.new.dev) c.args.engine.now (done_all w all)) (sym are) (subst (λ d. StandsFor (g.D.Device.disk d) c.args.engine.now w) (sym c.at_rest.ensures.same) stands))

pub returns-in-Refused-clause-crash : goal.returns-in-Refused-clause-crash
returns-in-Refused-clause-crash g c tells w acts stands are = effect_weaken (λ image covers. cut-first w acts image covers) (c.at_rest.ensures.crash tells w stands)

pub returns-in-Refused-clause-still : goal.returns-in-Refused-clause-still
returns-in-Refused-clause-still g c tells none = subst (λ d. Rests c.args.engine.now (g.D.Device.disk c.args.dev.now) c.args.engine.now (g.D.Device.disk d)) (sym c.at_rest.ensures.same) (record { device = nothing_yet (g.D.Device.disk c.args.dev.now); own = refl; drawn = refl })

pub returns-in-Refused-clause-touches : goal.returns-in-Refused-clause-touches
returns-in-Refused-clause-touches g c tells = rest-touch g.D.Device.disk c.args.dev.now c.at_rest.new.dev c.at_rest.ensures.same

pub returns-in-Answered-clause-standing : goal.returns-in-Answered-clause-standing
returns-in-Answered-clause-standing g c tells = subst (λ d. AreStanding (g.D.Device.disk d) c.args.engine.now.hosting.stores) (sym c.at_rest-in-Answered.ensures.same) (c.requires.standing tells)

pub returns-in-Answered-clause-own : goal.returns-in-Answered-clause-own
returns-in-Answered-clause-own g c = (refl, c.requires.none)

pub returns-in-Answered-clause-does : goal.returns-in-Answered-clause-does
returns-in-Answered-clause-does g c tells =
    subst (λ (p : Plan). DoesPlan c.args.engine.now (g.D.Device.disk c.args.dev.now) p c.args.engine.now (g.D.Device.disk c.at_rest-in-Answered.new.dev)) (sym c.in-Answered.is)
    (λ w acts stands are. subst (λ (all : List Act). StandsFor (g.D.Device.disk c.at_rest-in-Answered.new.dev) c.args.engine.now (done_all w all)) (sym are) (subst (λ d. StandsFor (g.D.Device.disk d) c.args.engine.now w) (sym c.at_rest-in-Answered.ensures.same) stands))

pub returns-in-Answered-clause-crash : goal.returns-in-Answered-clause-crash
returns-in-Answered-clause-crash g c tells w acts stands are = effect_weaken (λ image covers. cut-first w acts image covers) (c.at_rest-in-Answered.ensures.crash tells w stands)

pub returns-in-Answered-clause-still : goal.returns-in-Answered-clause-still
returns-in-Answered-clause-still g c tells none = subst (λ d. Rests c.args.engine.now (g.D.Device.disk c.args.dev.now) c.args.engine.now (g.D.Device.disk d)) (sym c.at_rest-in-Answered.ensures.same) (record { device = nothing_yet (g.D.Device.disk c.args.dev.now); own = refl; drawn = refl })

pub returns-in-Answered-clause-touches : goal.returns-in-Answered-clause-touches
returns-in-Answered-clause-touches g c tells = rest-touch g.D.Device.disk c.args.dev.now c.at_rest-in-Answered.new.dev c.at_rest-in-Answered.ensures.same

pub returns-in_err-turn-in-Turned-clause-crash : goal.returns-in_err-turn-in-Turned-clause-crash
returns-in_err-turn-in-Turned-clause-crash g c tells = subst (λ (p : Plan). CutsPlan c.args.engine.now (g.D.Device.disk c.args.dev.now) p (g.D.Device.disk c.turn.new.dev)) (sym c.in-Turned.is) (c.turn.ensures.crash tells)

pub returns-in_err-turn-in-Turned-clause-touches : goal.returns-in_err-turn-in-Turned-clause-touches
returns-in_err-turn-in-Turned-clause-touches g c tells = wider-touch (λ path none. absurd none) (c.turn.ensures.touches tells)

pub returns-in_ok-turn-in-Turned-clause-crash : goal.returns-in_ok-turn-in-Turned-clause-crash
returns-in_ok-turn-in-Turned-clause-crash g c tells = subst (λ (p : Plan). CutsPlan c.args.engine.now (g.D.Device.disk c.args.dev.now) p (g.D.Device.disk c.turn.new.dev)) (sym c.in-Turned.is) (c.turn.ensures.crash tells)

pub returns-in_ok-turn-in-Turned-clause-touches : goal.returns-in_ok-turn-in-Turned-clause-touches
returns-in_ok-turn-in-Turned-clause-touches g c tells = wider-touch (λ path none. absurd none) (c.turn.ensures.touches tells)

pub returns-in-Seated-clause-crash : goal.returns-in-Seated-clause-crash
returns-in-Seated-clause-crash g c tells = subst (λ (p : Plan). CutsPlan c.args.engine.now (g.D.Device.disk c.args.dev.now) p (g.D.Device.disk c.seat.new.dev)) (sym c.in-Seated.is) (c.seat.ensures.crash tells)

pub returns-in-Seated-clause-touches : goal.returns-in-Seated-clause-touches
returns-in-Seated-clause-touches g c tells = wider-touch (λ path none. absurd none) (c.seat.ensures.touches tells)

pub returns-in_ok-turn-in-Turned-clause-does : goal.returns-in_ok-turn-in-Turned-clause-does
returns-in_ok-turn-in-Turned-clause-does g c tells = subst (λ (p : Plan). DoesPlan c.args.engine.now (g.D.Device.disk c.args.dev.now) p c.turn.new.engine (g.D.Device.disk c.turn.new.dev)) (sym c.in-Turned.is) (c.in_ok-turn-in-Turned.ensures.does tells)

pub returns-in-Seated-clause-does : goal.returns-in-Seated-clause-does
returns-in-Seated-clause-does g c tells = subst (λ (p : Plan). DoesPlan c.args.engine.now (g.D.Device.disk c.args.dev.now) p c.seat.new.engine (g.D.Device.disk c.seat.new.dev)) (sym c.in-Seated.is) (c.seat.ensures.does tells)

pub returns-in_ok-done-in-Parts-clause-crash : goal.returns-in_ok-done-in-Parts-clause-crash
returns-in_ok-done-in-Parts-clause-crash g c tells =
    subst (λ (p : Plan). CutsPlan c.args.engine.now (g.D.Device.disk c.args.dev.now) p (g.D.Device.disk c.carry_out-done.new.dev)) (sym c.in-Parts.is)
    (subst (λ (ps : List Part). CutsParts c.args.engine.now (g.D.Device.disk c.args.dev.now) ps (g.D.Device.disk c.carry_out-done.new.dev)) c.deref.ensures.value (c.carry_out-done.ensures.crash tells))

pub returns-in_ok-done-in-Parts-clause-touches : goal.returns-in_ok-done-in-Parts-clause-touches
returns-in_ok-done-in-Parts-clause-touches g c tells =
    subst (λ (p : Plan). TouchesOnly (PlanWrites p) (g.D.Device.disk c.args.dev.now) (g.D.Device.disk c.carry_out-done.new.dev)) (sym c.in-Parts.is)
    (subst (λ (ps : List Part). TouchesOnly (PartsWrite ps) (g.D.Device.disk c.args.dev.now) (g.D.Device.disk c.carry_out-done.new.dev)) c.deref.ensures.value (c.carry_out-done.ensures.touches tells))

pub returns-in_err-done-in-Parts-clause-crash : goal.returns-in_err-done-in-Parts-clause-crash
returns-in_err-done-in-Parts-clause-crash g c tells =
    subst (λ (p : Plan). CutsPlan c.args.engine.now (g.D.Device.disk c.args.dev.now) p (g.D.Device.disk c.carry_out-done.new.dev)) (sym c.in-Parts.is)
    (subst (λ (ps : List Part). CutsParts c.args.engine.now (g.D.Device.disk c.args.dev.now) ps (g.D.Device.disk c.carry_out-done.new.dev)) c.deref.ensures.value (c.carry_out-done.ensures.crash tells))

pub returns-in_err-done-in-Parts-clause-touches : goal.returns-in_err-done-in-Parts-clause-touches
returns-in_err-done-in-Parts-clause-touches g c tells =
    subst (λ (p : Plan). TouchesOnly (PlanWrites p) (g.D.Device.disk c.args.dev.now) (g.D.Device.disk c.carry_out-done.new.dev)) (sym c.in-Parts.is)
    (subst (λ (ps : List Part). TouchesOnly (PartsWrite ps) (g.D.Device.disk c.args.dev.now) (g.D.Device.disk c.carry_out-done.new.dev)) c.deref.ensures.value (c.carry_out-done.ensures.touches tells))

pub returns-in_ok-done-in-Readied-clause-crash : goal.returns-in_ok-done-in-Readied-clause-crash
returns-in_ok-done-in-Readied-clause-crash g c tells =
    subst (λ (p : Plan). CutsPlan c.args.engine.now (g.D.Device.disk c.args.dev.now) p (g.D.Device.disk c.carry_out_readying-done.new.dev)) (sym c.in-Readied.is)
    (subst (λ (ps : List Part). CutsReadying c.args.engine.now (g.D.Device.disk c.args.dev.now) ps c.in-Readied.starts (g.D.Device.disk c.carry_out_readying-done.new.dev)) c.deref-in-Readied.ensures.value (c.carry_out_readying-done.ensures.crash tells))

pub returns-in_ok-done-in-Readied-clause-touches : goal.returns-in_ok-done-in-Readied-clause-touches
returns-in_ok-done-in-Readied-clause-touches g c tells =
    subst (λ (p : Plan). TouchesOnly (PlanWrites p) (g.D.Device.disk c.args.dev.now) (g.D.Device.disk c.carry_out_readying-done.new.dev)) (sym c.in-Readied.is)
    (subst (λ (ps : List Part). TouchesOnly (PartsWrite ps) (g.D.Device.disk c.args.dev.now) (g.D.Device.disk c.carry_out_readying-done.new.dev)) c.deref-in-Readied.ensures.value (c.carry_out_readying-done.ensures.touches tells))

pub returns-in_err-done-in-Readied-clause-crash : goal.returns-in_err-done-in-Readied-clause-crash
returns-in_err-done-in-Readied-clause-crash g c tells =
    subst (λ (p : Plan). CutsPlan c.args.engine.now (g.D.Device.disk c.args.dev.now) p (g.D.Device.disk c.carry_out_readying-done.new.dev)) (sym c.in-Readied.is)
    (subst (λ (ps : List Part). CutsReadying c.args.engine.now (g.D.Device.disk c.args.dev.now) ps c.in-Readied.starts (g.D.Device.disk c.carry_out_readying-done.new.dev)) c.deref-in-Readied.ensures.value (c.carry_out_readying-done.ensures.crash tells))

pub returns-in_err-done-in-Readied-clause-touches : goal.returns-in_err-done-in-Readied-clause-touches
returns-in_err-done-in-Readied-clause-touches g c tells =
    subst (λ (p : Plan). TouchesOnly (PlanWrites p) (g.D.Device.disk c.args.dev.now) (g.D.Device.disk c.carry_out_readying-done.new.dev)) (sym c.in-Readied.is)
    (subst (λ (ps : List Part). TouchesOnly (PartsWrite ps) (g.D.Device.disk c.args.dev.now) (g.D.Device.disk c.carry_out_readying-done.new.dev)) c.deref-in-Readied.ensures.value (c.carry_out_readying-done.ensures.touches tells))
