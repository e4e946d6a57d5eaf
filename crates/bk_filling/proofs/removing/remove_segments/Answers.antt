use Rattle.std.proofs.Common.{refl, arith}
use Rattle.bk_device.specs.Laws.{cause_then}
use Rattle.bk_filling.proofs.Removed.{segments_effect, segments_more, segments_none}
use Rattle.bk_filling.proofs.removing.remove_segments.Goals as goal

pub segments-init : goal.segments-init
segments-init g c = record {
  removed = λ t. segments_none c.args.db c.args.from c.args.to (g.D.Device.disk c.args.dev.now);
  cause = record { rose = λ none. absurd none; never_falls = omega arith; tell_faults = refl };
}

pub segments-preserved : goal.segments-preserved
segments-preserved g c = record {
  removed = λ t. segments_more (g.D.Device.disk c.remove_segment.new.dev) (c.segments.invariant.removed t) c.segments.auto.n c.segments-test.true (c.remove_segment.ensures.crash t) (c.in_ok-remove_segment.ensures.gone t);
  cause = cause_then c.segments.invariant.cause c.remove_segment.ensures.cause (λ none. absurd none);
}

pub returns-in_err-remove_segment-clause-crash : goal.returns-in_err-remove_segment-clause-crash
returns-in_err-remove_segment-clause-crash g c t =
    segments_effect (g.D.Device.disk c.remove_segment.new.dev) (c.segments.invariant.removed t) c.segments.auto.n c.segments-test.true (c.remove_segment.ensures.crash t)
