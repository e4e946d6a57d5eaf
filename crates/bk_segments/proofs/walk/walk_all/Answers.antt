use Rattle.std.proofs.Common.{◌≡◌, ◌-◌, ◌+◌, ◌++◌, List, ℕ, length, inl, inr, sym, ap, subst, ◌∙◌, arith}
use Rattle.std.proofs.lemmas.Result.{err_from_is_err_and}
use Rattle.bk_control.specs.LemmasTests.{equal_or_not, same_error}
use Rattle.bk_segments.specs.declared.error.LogError.TheVariants.{Foreign}
use Rattle.bk_segments.specs.FileLaws.{blobs_moved}
use Rattle.bk_segments.specs.Files.{blobs_at, blobs_from}
use Rattle.bk_segments.specs.Records.{IsRun, joined}
use Rattle.bk_segments.specs.RunLaws.{segment_next, segments_stuck}
use Rattle.bk_segments.specs.SegmentLaws.{segments_added}
use Rattle.bk_segments.proofs.Joined.{joined_segment}
use Rattle.bk_segments.proofs.walk.walk_all.Goals as goal

pub returns-in_err-at-clause-foreign : goal.returns-in_err-at-clause-foreign
returns-in_err-at-clause-foreign g c t =
    let p = err_from_is_err_and c.from_residual.result c.from_residual.ensures.1 in
    rw (p.1, p.2) (λ is. c.in_err-at.ensures.foreign t (same_error c.in_err-at.field-0.0 Foreign is))

pub returns-in_err-gate-clause-foreign : goal.returns-in_err-gate-clause-foreign
returns-in_err-gate-clause-foreign g c t =
    let p = err_from_is_err_and c.from_residual-in_err-gate.result c.from_residual-in_err-gate.ensures.1 in
    let head = c.args.head in
    let blobs = blobs_at (g.D.Device.disk c.args.dev.now).files c.args.db in
    let last : head.front + (head.back - head.front) ≡ head.back = omega (arith, c.requires.order) in
    let same = blobs_moved c.args.db head.back (c.walk_front.ensures.effect t) in
    rw (p.1, p.2) (λ is to run small begun.
    segments_stuck blobs head.front head.first c.in_ok-at.at to (head.back - head.front) (head.back - head.front + 1) (omega arith) (c.in_ok-at.ensures.run t)
    (λ end here less. c.in_err-gate.ensures.foreign t (same_error c.in_err-gate.field-0.0 Foreign is) end (subst (λ (bs : List (List ℕ)). IsRun c.in_ok-at.at bs end) (ap blobs last ∙ sym same) here) less (λ none. begun head.back c.requires.order (omega arith) (sym same ∙ none))) run small)

pub returns-clause-run : goal.returns-clause-run
returns-clause-run g c t =
    let head = c.args.head in
    let blobs = blobs_at (g.D.Device.disk c.args.dev.now).files c.args.db in
    let last : head.front + (head.back - head.front) ≡ head.back = omega (arith, c.requires.order) in
    let same = blobs_moved c.args.db head.back (c.walk_front.ensures.effect t) in
    segment_next blobs head.front head.first c.in_ok-at.at c.in_ok-gate.end (head.back - head.front) (c.in_ok-at.ensures.run t)
    (subst (λ (bs : List (List ℕ)). IsRun c.in_ok-at.at bs c.in_ok-gate.end) (same ∙ ap blobs (sym last)) (c.in_ok-gate.ensures.run t))

pub returns-clause-begun : goal.returns-clause-begun
returns-clause-begun g c t n low high none =
    let blobs = blobs_at (g.D.Device.disk c.args.dev.now).files c.args.db in
    elim (equal_or_not n c.args.head.back) [
      | inl same ↦ c.in_ok-gate.ensures.begun t (blobs_moved c.args.db c.args.head.back (c.walk_front.ensures.effect t) ∙ ap blobs (sym same) ∙ none)
      | inr differ ↦ c.in_ok-at.ensures.begun t n low (omega (arith, high, differ)) none
    ]

pub returns-clause-segments : goal.returns-clause-segments
returns-clause-segments g c t =
    let head = c.args.head in
    let blobs = blobs_at (g.D.Device.disk c.args.dev.now).files c.args.db in
    let old = c.walk_front.new.segments.items in
    let place : head.back ≡ head.front + length old = omega (arith, c.in_ok-at.ensures.count) in
    let count : length old ≡ head.back - head.front = omega (arith, c.in_ok-at.ensures.count) in
    segments_added blobs c.args.db head.front head.first head.back c.in_ok-at.at old c.add_segment.new.segments.items (c.in_ok-at.ensures.segments t) place
    (subst (λ (k : ℕ). IsRun head.first (blobs_from blobs head.front k) c.in_ok-at.at) (sym count) (c.in_ok-at.ensures.run t)) c.in_ok-add_segment.ensures.added

pub returns-clause-bytes : goal.returns-clause-bytes
returns-clause-bytes g c t all =
    let head = c.args.head in
    let blobs = blobs_at (g.D.Device.disk c.args.dev.now).files c.args.db in
    let last : head.front + (head.back - head.front) ≡ head.back = omega (arith, c.requires.order) in
    let same : blobs_at (g.D.Device.disk c.walk_front.new.dev).files c.args.db head.back ≡ blobs (head.front + (head.back - head.front)) =
    blobs_moved c.args.db head.back (c.walk_front.ensures.effect t) ∙ ap blobs (sym last) in
    joined_segment blobs head.front (head.back - head.front) c.walk_front.new.bytes.items c.walk_last.new.bytes.items (c.in_ok-at.ensures.bytes t all)
    (c.in_ok-gate.ensures.added t all ∙ ap (λ (bs : List (List ℕ)). c.walk_front.new.bytes.items ++ joined bs) same)
