use Rattle.std.proofs.Common.{refl, arith}
use Rattle.std.proofs.lemmas.Option.{slice_get_within}
use Rattle.bk_device.specs.Laws.{cause_then}
use Rattle.bk_segments.proofs.Removals.{named_none, named_more, named_gone}
use Rattle.bk_segments.proofs.removing.remove_named.Goals as goal

pub loop-i-init : goal.loop-i-init
loop-i-init g c = record {
  gone = λ t j s low. absurd (omega (arith, low));
  effect = λ t. named_none c.args.segments.now (g.D.Device.disk c.args.dev.now);
  cause = record { rose = λ none. absurd none; never_falls = omega arith; tell_faults = refl };
}

pub loop-i-preserved : goal.loop-i-preserved
loop-i-preserved g c = record {
  gone = λ t. named_gone c.args.segments.now c.loop-i.i (g.D.Device.disk c.loop-i.dev) (g.D.Device.disk c.remove_one.new.dev) c.loop-i-test.true (c.loop-i.invariant.gone t) (c.remove_one.ensures.crash t) (c.in_ok-remove_one.ensures.gone t);
  effect = λ t. named_more c.args.segments.now c.loop-i.i (g.D.Device.disk c.args.dev.now) (g.D.Device.disk c.loop-i.dev) (g.D.Device.disk c.remove_one.new.dev) c.loop-i-test.true (c.loop-i.invariant.effect t) (c.remove_one.ensures.crash t);
  cause = cause_then c.loop-i.invariant.cause c.remove_one.ensures.cause (λ none. absurd none);
}

pub returns-in_err-remove_one-clause-crash : goal.returns-in_err-remove_one-clause-crash
returns-in_err-remove_one-clause-crash g c t =
    named_more c.args.segments.now c.loop-i.i (g.D.Device.disk c.args.dev.now) (g.D.Device.disk c.loop-i.dev) (g.D.Device.disk c.remove_one.new.dev) c.loop-i-test.true (c.loop-i.invariant.effect t) (c.remove_one.ensures.crash t)

pub returns-clause-gone : goal.returns-clause-gone
returns-clause-gone g c t i s there = c.loop-i.invariant.gone t i s (omega (arith, slice_get_within c.args.segments.now i s there, c.loop-i-test.false)) there
