use Rattle.std.proofs.Common.{◌≤◌, refl, arith}
use Rattle.bk_device.specs.Laws.{cause_then, nothing_then, nothing_yet}
use Rattle.bk_segments.proofs.Settled.{durable_more, left_nothing, left_then}
use Rattle.bk_segments.proofs.settling.sync_segments.Goals as goal

pub loop-n-init : goal.loop-n-init
loop-n-init g c = record {
  durable = λ t n low high. absurd (omega (arith, low, high));
  effect = λ t. nothing_yet (g.D.Device.disk c.args.dev.now);
  cause = record { rose = λ none. absurd none; never_falls = omega arith; tell_faults = refl };
}

pub loop-n-preserved : goal.loop-n-preserved
loop-n-preserved g c = record {
  durable = λ t. durable_more c.args.db c.args.from c.loop-n.n (c.loop-n.invariant.durable t) (c.in_ok-sync_segment.ensures.effect t) (c.in_ok-sync_segment.ensures.durable t);
  effect = λ t. nothing_then (g.met.D.Device.lawful t c.args.dev.now) (c.loop-n.invariant.effect t) (c.in_ok-sync_segment.ensures.effect t);
  cause = cause_then c.loop-n.invariant.cause c.sync_segment.ensures.cause (λ none. absurd none);
}

pub returns-in_err-sync_segment-clause-crash : goal.returns-in_err-sync_segment-clause-crash
returns-in_err-sync_segment-clause-crash g c t = left_then c.args.db (g.met.D.Device.lawful t c.args.dev.now) (c.loop-n.invariant.effect t) (c.sync_segment.ensures.crash t)

pub returns-clause-durable : goal.returns-clause-durable
returns-clause-durable g c t n low high =
    let past : c.args.to ≤ c.loop-n.n = c.loop-n-test.false in
    c.loop-n.invariant.durable t n low (omega (arith, high, past))

pub returns-clause-crash : goal.returns-clause-crash
returns-clause-crash g c t = left_nothing c.args.db (c.loop-n.invariant.effect t)
