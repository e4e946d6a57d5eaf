use Rattle.std.proofs.Common.{◌≤◌, refl, arith}
use Rattle.bk_device.specs.Laws.{cause_then, nothing_yet}
use Rattle.bk_segments.proofs.Removals.{between_none, between_more, gone_more, still_more}
use Rattle.bk_segments.proofs.removing.remove_segments.Goals as goal

pub loop-n-init : goal.loop-n-init
loop-n-init g c = record {
  gone = λ t n low high. absurd (omega (arith, low, high));
  effect = λ t. between_none c.args.db c.args.from c.args.to (g.D.Device.disk c.args.dev.now);
  still = λ t none. nothing_yet (g.D.Device.disk c.args.dev.now);
  cause = record { rose = λ none. absurd none; never_falls = omega arith; tell_faults = refl };
}

pub loop-n-preserved : goal.loop-n-preserved
loop-n-preserved g c = record {
  gone = λ t. gone_more c.args.db c.args.from c.loop-n.n (g.D.Device.disk c.loop-n.dev) (g.D.Device.disk c.remove_segment.new.dev) (c.loop-n.invariant.gone t) (c.remove_segment.ensures.crash t) (c.in_ok-remove_segment.ensures.gone t);
  effect = λ t. between_more c.args.db c.args.from c.args.to c.loop-n.n (g.D.Device.disk c.args.dev.now) (g.D.Device.disk c.loop-n.dev) (g.D.Device.disk c.remove_segment.new.dev) c.loop-n.auto.n c.loop-n-test.true (c.loop-n.invariant.effect t) (c.remove_segment.ensures.crash t);
  still = λ t none. still_more c.args.db c.args.from c.args.to c.loop-n.n (g.met.D.Device.lawful t c.args.dev.now) none c.loop-n.auto.n c.loop-n-test.true (c.loop-n.invariant.still t none) (c.remove_segment.ensures.still t);
  cause = cause_then c.loop-n.invariant.cause c.remove_segment.ensures.cause (λ none. absurd none);
}

pub returns-in_err-remove_segment-clause-crash : goal.returns-in_err-remove_segment-clause-crash
returns-in_err-remove_segment-clause-crash g c t =
    between_more c.args.db c.args.from c.args.to c.loop-n.n (g.D.Device.disk c.args.dev.now) (g.D.Device.disk c.loop-n.dev) (g.D.Device.disk c.remove_segment.new.dev) c.loop-n.auto.n c.loop-n-test.true (c.loop-n.invariant.effect t) (c.remove_segment.ensures.crash t)

pub returns-in_err-remove_segment-clause-still : goal.returns-in_err-remove_segment-clause-still
returns-in_err-remove_segment-clause-still g c t none =
    still_more c.args.db c.args.from c.args.to c.loop-n.n (g.met.D.Device.lawful t c.args.dev.now) none c.loop-n.auto.n c.loop-n-test.true (c.loop-n.invariant.still t none) (c.remove_segment.ensures.still t)

pub returns-clause-gone : goal.returns-clause-gone
returns-clause-gone g c t n low high =
    let past : c.args.to ≤ c.loop-n.n = c.loop-n-test.false in
    c.loop-n.invariant.gone t n low (omega (arith, high, past))
