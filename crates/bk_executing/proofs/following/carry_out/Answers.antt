use Rattle.std.proofs.Common.{rules, ◌≡◌, ◌∙◌, ℕ, suc, ◌+◌, [], Some, length, take, slice_get, refl, sym, subst, arith}
use Rattle.std.proofs.lemmas.Option.{slice_get_read}
use Rattle.bk_device.specs.Compose.{effect_then}
use Rattle.bk_device.specs.Laws.{nothing_yet}
use Rattle.bk_engine.specs.TouchLaws.{rest-touch, wider-touch}
use Rattle.bk_stores.specs.Standing.{AreStanding}
use Rattle.bk_executing.specs.Executing.{Rests}
use Rattle.bk_executing.specs.Parts.{DoesParts}
use Rattle.bk_executing.proofs.PartByPart.{next-does, none-does, none-there, part-among, parts-cut, parts-none}
use Rattle.bk_executing.proofs.following.carry_out.Goals as goal

pub loop-part-init : goal.loop-part-init
loop-part-init g c = record {
  ready = c.requires.ready;
  none = c.requires.none;
  own = (refl, c.requires.none);
  standing = λ tells. subst (λ d. AreStanding (g.D.Device.disk d) c.args.engine.now.hosting.stores) (sym c.at_rest.ensures.same) (c.requires.standing tells);
  does = λ tells. subst (λ d. DoesParts c.args.engine.now (g.D.Device.disk c.args.dev.now) [] c.args.engine.now (g.D.Device.disk d)) (sym c.at_rest.ensures.same) (none-does c.args.engine.now (g.D.Device.disk c.args.dev.now));
  crash = λ tells. parts-none c.args.engine.now (g.D.Device.disk c.args.dev.now) (g.D.Device.disk c.at_rest.new.dev) c.args.parts.now (c.at_rest.ensures.crash tells);
  still = λ tells none. subst (λ d. Rests c.args.engine.now (g.D.Device.disk c.args.dev.now) c.args.engine.now (g.D.Device.disk d)) (sym c.at_rest.ensures.same)
      (record { device = nothing_yet (g.D.Device.disk c.args.dev.now); own = refl; drawn = refl });
  touches = λ tells. rest-touch g.D.Device.disk c.args.dev.now c.at_rest.new.dev c.at_rest.ensures.same;
  cause = search rules;
}

pub returns-in_err-do_part-clause-touches : goal.returns-in_err-do_part-clause-touches
returns-in_err-do_part-clause-touches g c tells =
    let there : slice_get c.args.parts.now c.loop-part.part-index ≡ Some c.part-item.result =
    slice_get_read c.args.parts.now (length c.args.parts.now) c.loop-part.part-index c.part-item.result refl c.loop-part-test.true c.part-item.is in
    effect_then (c.loop-part.invariant.touches tells) (wider-touch (part-among c.args.parts.now c.loop-part.part-index c.part-item.result there) (c.do_part.ensures.touches tells))

pub returns-in_err-do_part-clause-crash : goal.returns-in_err-do_part-clause-crash
returns-in_err-do_part-clause-crash g c tells w acts stands are =
    let there : slice_get c.args.parts.now c.loop-part.part-index ≡ Some c.part-item.result =
    slice_get_read c.args.parts.now (length c.args.parts.now) c.loop-part.part-index c.part-item.result refl c.loop-part-test.true c.part-item.is in
    effect_then (c.loop-part.invariant.crash tells w acts stands are)
    (parts-cut c.args.engine.now c.loop-part.engine (g.D.Device.disk c.args.dev.now) (g.D.Device.disk c.loop-part.dev) (g.D.Device.disk c.do_part.new.dev) c.args.parts.now c.loop-part.part-index c.part-item.result there
    (c.loop-part.invariant.does tells) (c.do_part.ensures.crash tells) w acts stands are)

pub loop-part-preserved : goal.loop-part-preserved
loop-part-preserved g c =
    let there : slice_get c.args.parts.now c.loop-part.part-index ≡ Some c.part-item.result =
    slice_get_read c.args.parts.now (length c.args.parts.now) c.loop-part.part-index c.part-item.result refl c.loop-part-test.true c.part-item.is in
    let next : suc c.loop-part.part-index ≡ c.loop-part.part-index + 1 = omega arith in
    record {
      ready = c.in_ok-do_part.ensures.ready;
      none = c.in_ok-do_part.ensures.own.1;
      own = (c.in_ok-do_part.ensures.own.0 ∙ c.loop-part.invariant.own.0, c.in_ok-do_part.ensures.own.1);
      standing = λ tells. c.in_ok-do_part.ensures.standing tells;
      does = λ tells. subst (λ (n : ℕ). DoesParts c.args.engine.now (g.D.Device.disk c.args.dev.now) (take n c.args.parts.now) c.do_part.new.engine (g.D.Device.disk c.do_part.new.dev)) next
          (next-does c.args.engine.now c.loop-part.engine c.do_part.new.engine (g.D.Device.disk c.args.dev.now) (g.D.Device.disk c.loop-part.dev) (g.D.Device.disk c.do_part.new.dev) c.args.parts.now c.loop-part.part-index c.part-item.result there
          (c.loop-part.invariant.does tells) (c.in_ok-do_part.ensures.does tells));
      crash = λ tells w acts stands are. effect_then (c.loop-part.invariant.crash tells w acts stands are)
          (parts-cut c.args.engine.now c.loop-part.engine (g.D.Device.disk c.args.dev.now) (g.D.Device.disk c.loop-part.dev) (g.D.Device.disk c.do_part.new.dev) c.args.parts.now c.loop-part.part-index c.part-item.result there
          (c.loop-part.invariant.does tells) (c.do_part.ensures.crash tells) w acts stands are);
      still = λ tells none. absurd (none-there c.args.parts.now c.loop-part.part-index c.part-item.result none there);
      touches = λ tells. effect_then (c.loop-part.invariant.touches tells) (wider-touch (part-among c.args.parts.now c.loop-part.part-index c.part-item.result there) (c.do_part.ensures.touches tells));
      cause = search rules;
    }
