use Rattle.std.proofs.Common.{◌≡◌, ◌<◌, ◌-◌, ◌+◌, ◌++◌, List, ℕ, length, refl, inl, inr, sym, ap, subst, ◌∙◌, arith}
use Rattle.std.proofs.lemmas.Result.{err_from_is_err_and}
use Rattle.bk_device.specs.Laws.{nothing_yet, nothing_then, cause_then}
use Rattle.bk_control.specs.LemmasTests.{equal_or_not, same_error}
use Rattle.bk_segments.specs.declared.error.LogError.TheVariants.{Foreign}
use Rattle.bk_segments.specs.FileLaws.{blobs_moved}
use Rattle.bk_segments.specs.Files.{blobs_at, blobs_from, AreSegments}
use Rattle.bk_segments.specs.Records.{IsRun, joined}
use Rattle.bk_segments.specs.RunLaws.{run_none, segment_next, segments_stuck}
use Rattle.bk_segments.specs.SegmentLaws.{segments_none, segments_added}
use Rattle.bk_segments.proofs.Joined.{joined_segment}
use Rattle.bk_segments.proofs.walk.walk_front.Goals as goal

pub returns-in_err-at-clause-foreign : goal.returns-in_err-at-clause-foreign
returns-in_err-at-clause-foreign g c t =
    let p = err_from_is_err_and c.from_residual-in_err-at.result c.from_residual-in_err-at.ensures.1 in
    rw (p.1, p.2) (λ is to run small begun.
    let same = blobs_moved c.args.db (c.args.head.front + c.loop-i.i) (c.loop-i.invariant.nothing t) in
    let inside : c.loop-i.i < c.args.head.back - c.args.head.front = c.loop-i-test.true in
    segments_stuck (blobs_at (g.D.Device.disk c.args.dev.now).files c.args.db) c.args.head.front c.args.head.first c.loop-i.at to c.loop-i.i (c.args.head.back - c.args.head.front + 1) (omega (arith, inside)) (c.loop-i.invariant.run t)
    (λ end here less. c.in_err-at.ensures.foreign t (same_error c.in_err-at.field-0.0 Foreign is) end (subst (λ (bs : List (List ℕ)). IsRun c.loop-i.at bs end) (sym same) here) less (λ none. begun (c.args.head.front + c.loop-i.i) (omega arith) (omega (arith, inside, c.requires.order)) (sym same ∙ none))) run small)

pub returns-in_err-at-clause-effect : goal.returns-in_err-at-clause-effect
returns-in_err-at-clause-effect g c t = nothing_then (g.met.D.Device.lawful t c.args.dev.now) (c.loop-i.invariant.nothing t) (c.walk_segment.ensures.effect t)

pub loop-i-init : goal.loop-i-init
loop-i-init g c = record {
  nothing = λ t. nothing_yet (g.D.Device.disk c.args.dev.now);
  run = λ t. run_none c.args.head.first;
  begun = λ t n low high. absurd (omega (arith, low, high));
  segments = λ t. subst (AreSegments (blobs_at (g.D.Device.disk c.args.dev.now).files c.args.db) c.args.db c.args.head.front c.args.head.first) (sym c.requires.none) (segments_none (blobs_at (g.D.Device.disk c.args.dev.now).files c.args.db) c.args.db c.args.head.front c.args.head.first);
  count = omega (arith, ap length c.requires.none);
  bytes = λ t all. c.requires.empty;
  cause = record { rose = λ none. absurd none; never_falls = omega arith; tell_faults = refl };
}

pub loop-i-preserved : goal.loop-i-preserved
loop-i-preserved g c = record {
  nothing = λ t. nothing_then (g.met.D.Device.lawful t c.args.dev.now) (c.loop-i.invariant.nothing t) (c.walk_segment.ensures.effect t);
  run = λ t.
      let same = blobs_moved c.args.db (c.args.head.front + c.loop-i.i) (c.loop-i.invariant.nothing t) in
      segment_next (blobs_at (g.D.Device.disk c.args.dev.now).files c.args.db) c.args.head.front c.args.head.first c.loop-i.at c.in_ok-at.at c.loop-i.i (c.loop-i.invariant.run t)
      (subst (λ (bs : List (List ℕ)). IsRun c.loop-i.at bs c.in_ok-at.at) same (c.in_ok-at.ensures.run t));
  begun = λ t n low high none. elim (equal_or_not n (c.args.head.front + c.loop-i.i)) [
    | inl same ↦ c.in_ok-at.ensures.begun t (blobs_moved c.args.db (c.args.head.front + c.loop-i.i) (c.loop-i.invariant.nothing t) ∙ ap (blobs_at (g.D.Device.disk c.args.dev.now).files c.args.db) (sym same) ∙ none)
    | inr differ ↦ c.loop-i.invariant.begun t n low (omega (arith, high, differ)) none
  ];
  segments = λ t.
      let place : c.args.head.front + c.loop-i.i ≡ c.args.head.front + length c.loop-i.segments.items = omega (arith, c.loop-i.invariant.count) in
      let count : length c.loop-i.segments.items ≡ c.loop-i.i = omega (arith, c.loop-i.invariant.count) in
      segments_added (blobs_at (g.D.Device.disk c.args.dev.now).files c.args.db) c.args.db c.args.head.front c.args.head.first (c.args.head.front + c.loop-i.i) c.loop-i.at c.loop-i.segments.items c.add_segment.new.segments.items
      (c.loop-i.invariant.segments t) place (subst (λ (k : ℕ). IsRun c.args.head.first (blobs_from (blobs_at (g.D.Device.disk c.args.dev.now).files c.args.db) c.args.head.front k) c.loop-i.at) (sym count) (c.loop-i.invariant.run t)) c.in_ok-add_segment.ensures.added;
  count = omega (arith, c.loop-i.invariant.count, c.in_ok-add_segment.ensures.len);
  bytes = λ t all.
      let same = blobs_moved c.args.db (c.args.head.front + c.loop-i.i) (c.loop-i.invariant.nothing t) in
      joined_segment (blobs_at (g.D.Device.disk c.args.dev.now).files c.args.db) c.args.head.front c.loop-i.i c.loop-i.bytes.items c.walk_segment.new.bytes.items (c.loop-i.invariant.bytes t all)
      (c.in_ok-at.ensures.added t all ∙ ap (λ (bs : List (List ℕ)). c.loop-i.bytes.items ++ joined bs) same);
  cause = cause_then c.loop-i.invariant.cause c.walk_segment.ensures.cause (λ none. absurd none);
}

pub returns-clause-begun : goal.returns-clause-begun
returns-clause-begun g c t n low high none = c.loop-i.invariant.begun t n low (omega (arith, high, c.loop-i-test.false, c.requires.order)) none
