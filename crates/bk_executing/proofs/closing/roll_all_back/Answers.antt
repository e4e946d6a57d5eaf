use Rattle.std.proofs.Common.{rules, ◌≡◌, ◌∙◌, refl, sym, subst, arith}
use Rattle.bk_device.specs.Compose.{effect_then}
use Rattle.bk_device.specs.Laws.{cause_then}
use Rattle.bk_engine.specs.Stands.{StandsFor}
use Rattle.bk_engine.specs.TouchLaws.{rest-touch}
use Rattle.bk_engine.specs.ViewLaws.{remembers}
use Rattle.bk_machine.specs.Closing.{count_open}
use Rattle.bk_stores.specs.Standing.{AreStanding}
use Rattle.bk_executing.proofs.Closings.{CloseLaws, all-rolled, by-cut, cuts-none, idle-count, more-cuts, more-rolls, none-rolled}
use Rattle.bk_executing.proofs.closing.roll_all_back.Goals as goal

pub returns-in_err-count-clause-crash : goal.returns-in_err-count-clause-crash
returns-in_err-count-clause-crash g c tells w stands = cuts-none w (c.at_rest.ensures.crash tells w stands)

pub loop-round-init : goal.loop-round-init
loop-round-init g c = record {
  ready = c.requires.ready;
  own = (refl, refl);
  standing = λ tells. subst (λ d. AreStanding (g.D.Device.disk d) c.args.engine.now.hosting.stores) (sym c.at_rest.ensures.same) (c.requires.standing tells);
  rolls = λ tells w stands. none-rolled w c.args.engine.now (c.at_rest.ensures.crash tells w stands) (subst (λ d. StandsFor (g.D.Device.disk d) c.args.engine.now w) (sym c.at_rest.ensures.same) stands);
  still = λ tells w stands idle. (c.at_rest.ensures.same, refl);
  touches = λ tells. rest-touch g.D.Device.disk c.args.dev.now c.at_rest.new.dev c.at_rest.ensures.same;
  cause = search rules;
}

pub returns-in_err-roll_back-clause-crash : goal.returns-in_err-roll_back-clause-crash
returns-in_err-roll_back-clause-crash g c tells w stands =
    let laws : CloseLaws = record { comes = c.runs_are_closed_one_by_one.ensures.comes; alone = c.runs_are_closed_one_by_one.ensures.alone; fewer = c.runs_are_closed_one_by_one.ensures.fewer; more = c.runs_are_closed_one_by_one.ensures.front_more } in
    let counted : c.in_ok-count.count ≡ count_open w.databases = c.in_ok-count.ensures w (remembers (g.D.Device.disk c.args.dev.now) c.args.engine.now w stands) in
    more-cuts laws w c.loop-round._round c.in_ok-count.count c.loop-round-test.true counted (g.D.Device.disk c.args.dev.now) (g.D.Device.disk c.loop-round.dev) (g.D.Device.disk c.roll_back.new.dev) c.loop-round.engine (c.loop-round.invariant.rolls tells w stands) (c.roll_back.ensures.crash tells)

pub returns-in_err-roll_back-clause-still : goal.returns-in_err-roll_back-clause-still
returns-in_err-roll_back-clause-still g c tells w stands idle =
    let counted : c.in_ok-count.count ≡ count_open w.databases = c.in_ok-count.ensures w (remembers (g.D.Device.disk c.args.dev.now) c.args.engine.now w stands) in
    absurd (omega (arith, counted, idle-count w idle, c.loop-round-test.true))

pub loop-round-preserved : goal.loop-round-preserved
loop-round-preserved g c = record {
  ready = c.in_ok-roll_back.ensures.ready;
  own = (c.in_ok-roll_back.ensures.own.0 ∙ c.loop-round.invariant.own.0, c.in_ok-roll_back.ensures.own.1 ∙ c.loop-round.invariant.own.1);
  standing = λ tells. c.in_ok-roll_back.ensures.standing tells;
  rolls = λ tells w stands.
      let laws : CloseLaws = record { comes = c.runs_are_closed_one_by_one.ensures.comes; alone = c.runs_are_closed_one_by_one.ensures.alone; fewer = c.runs_are_closed_one_by_one.ensures.fewer; more = c.runs_are_closed_one_by_one.ensures.front_more } in
      let counted : c.in_ok-count.count ≡ count_open w.databases = c.in_ok-count.ensures w (remembers (g.D.Device.disk c.args.dev.now) c.args.engine.now w stands) in
      more-rolls laws w c.loop-round._round c.in_ok-count.count c.loop-round-test.true counted (g.D.Device.disk c.args.dev.now) (g.D.Device.disk c.loop-round.dev) (g.D.Device.disk c.roll_back.new.dev) c.loop-round.engine (c.loop-round.invariant.rolls tells w stands) c.roll_back.new.engine
      (c.in_ok-roll_back.ensures.rolls tells) (c.roll_back.ensures.crash tells);
  still = λ tells w stands idle.
      let counted : c.in_ok-count.count ≡ count_open w.databases = c.in_ok-count.ensures w (remembers (g.D.Device.disk c.args.dev.now) c.args.engine.now w stands) in
      absurd (omega (arith, counted, idle-count w idle, c.loop-round-test.true));
  touches = λ tells. effect_then (c.loop-round.invariant.touches tells) (c.roll_back.ensures.touches tells);
  cause = cause_then c.loop-round.invariant.cause c.roll_back.ensures.cause (λ none. absurd none);
}

pub returns-clause-rolls : goal.returns-clause-rolls
returns-clause-rolls g c tells w stands =
    all-rolled c.in_ok-count.count c.loop-round._round w (g.D.Device.disk c.args.dev.now) (g.D.Device.disk c.loop-round.dev) c.loop-round.engine c.loop-round-test.false
    (c.in_ok-count.ensures w (remembers (g.D.Device.disk c.args.dev.now) c.args.engine.now w stands)) (c.loop-round.invariant.rolls tells w stands)

pub returns-clause-crash : goal.returns-clause-crash
returns-clause-crash g c tells w stands = by-cut (c.loop-round.invariant.rolls tells w stands).by
