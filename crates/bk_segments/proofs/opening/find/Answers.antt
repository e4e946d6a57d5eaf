use Rattle.std.proofs.Common.{◌≡◌, ◌∙◌, List, ℕ, sym, ap, subst, arith}
use Rattle.std.proofs.lemmas.Result.{err_from_is_err_and}
use Rattle.bk_control.specs.Control.{control_kept}
use Rattle.bk_device.specs.Compose.{keeps_by_nothing}
use Rattle.bk_device.specs.Laws.{nothing_then}
use Rattle.bk_control.specs.LemmasTests.{same_error}
use Rattle.bk_segments.specs.declared.error.LogError.TheVariants.{Foreign}
use Rattle.bk_segments.specs.FileLaws.{foreign_record, foreign_run, all_moved, blobs_moved, begun_same, one_end}
use Rattle.bk_segments.specs.Files.{segment_file, blobs_at, blobs_of}
use Rattle.bk_segments.specs.SegmentLaws.{segments_same}
use Rattle.bk_segments.specs.Records.{IsRun, joined}
use Rattle.bk_segments.proofs.Walks.{settled}
use Rattle.bk_segments.proofs.opening.find.Goals as goal

pub returns-in_err-head-clause-foreign : goal.returns-in_err-head-clause-foreign
returns-in_err-head-clause-foreign g c t =
    let p = err_from_is_err_and c.from_residual-in_err-head.result c.from_residual-in_err-head.ensures.1 in
    rw (p.1, p.2) (λ is. foreign_record (g.D.Device.disk c.args.dev.now).files c.args.db c.in_ok-control.control.content (c.in_ok-control.ensures.content t) (c.in_err-head.ensures.foreign (same_error c.in_err-head.field-0.0 Foreign is)))

pub returns-in_err-walked-clause-foreign : goal.returns-in_err-walked-clause-foreign
returns-in_err-walked-clause-foreign g c t =
    let p = err_from_is_err_and c.from_residual-in_err-walked.result c.from_residual-in_err-walked.ensures.1 in
    rw (p.1, p.2) (λ is. foreign_run (g.D.Device.disk c.args.dev.now).files c.args.db c.in_ok-control.control.content c.in_ok-head.head c.in_ok-head.note.items (c.in_ok-control.ensures.content t) c.in_ok-head.ensures.reads
    (λ end begun run inside small. c.in_err-walked.ensures.foreign t (same_error c.in_err-walked.field-0.0 Foreign is) end
    (subst (λ (bs : List (List ℕ)). IsRun c.in_ok-head.head.first bs end) (sym (all_moved c.args.db c.in_ok-head.head c.in_ok-head.ensures.sound.front (c.load_control.ensures.effect t))) run) small
    (begun_same (g.D.Device.disk c.args.dev.now).files (g.D.Device.disk c.load_control.new.dev).files c.args.db c.in_ok-head.head (λ n low high. blobs_moved c.args.db n (c.load_control.ensures.effect t)) begun)))

pub returns-in_err-walked-clause-effect : goal.returns-in_err-walked-clause-effect
returns-in_err-walked-clause-effect g c t = nothing_then (g.met.D.Device.lawful t c.args.dev.now) (c.load_control.ensures.effect t) (c.walk_all.ensures.effect t)

pub returns-then-walked-head-clause-foreign : goal.returns-then-walked-head-clause-foreign
returns-then-walked-head-clause-foreign g c t is =
    foreign_run (g.D.Device.disk c.args.dev.now).files c.args.db c.in_ok-control.control.content c.in_ok-head.head c.in_ok-head.note.items (c.in_ok-control.ensures.content t) c.in_ok-head.ensures.reads
    (λ end begun run inside small.
    let here = subst (λ (bs : List (List ℕ)). IsRun c.in_ok-head.head.first bs c.in_ok-walked.walked.end) (all_moved c.args.db c.in_ok-head.head c.in_ok-head.ensures.sound.front (c.load_control.ensures.effect t)) (c.in_ok-walked.ensures.run t) in
    let same : end ≡ c.in_ok-walked.walked.end = one_end c.in_ok-head.head.first end c.in_ok-walked.walked.end (blobs_of (g.D.Device.disk c.args.dev.now).files c.args.db c.in_ok-head.head) run here in
    absurd (omega (arith, same, inside, c.if-walked-head.true)))

pub returns-then-walked-head-clause-effect : goal.returns-then-walked-head-clause-effect
returns-then-walked-head-clause-effect g c t = nothing_then (g.met.D.Device.lawful t c.args.dev.now) (c.load_control.ensures.effect t) (c.walk_all.ensures.effect t)

pub returns-clause-run : goal.returns-clause-run
returns-clause-run g c t =
    subst (λ (bs : List (List ℕ)). IsRun c.in_ok-head.head.first bs c.in_ok-walked.walked.end) (all_moved c.args.db c.in_ok-head.head c.in_ok-head.ensures.sound.front (c.load_control.ensures.effect t)) (c.in_ok-walked.ensures.run t)

pub returns-clause-begun : goal.returns-clause-begun
returns-clause-begun g c t =
    begun_same (g.D.Device.disk c.load_control.new.dev).files (g.D.Device.disk c.args.dev.now).files c.args.db c.in_ok-head.head (λ n low high. sym (blobs_moved c.args.db n (c.load_control.ensures.effect t))) (c.in_ok-walked.ensures.begun t)

pub returns-clause-effect : goal.returns-clause-effect
returns-clause-effect g c t = nothing_then (g.met.D.Device.lawful t c.args.dev.now) (c.load_control.ensures.effect t) (c.walk_all.ensures.effect t)

pub returns-clause-segments : goal.returns-clause-segments
returns-clause-segments g c t =
    segments_same (blobs_at (g.D.Device.disk c.load_control.new.dev).files c.args.db) (blobs_at (g.D.Device.disk c.args.dev.now).files c.args.db) c.args.db c.in_ok-head.head.front c.in_ok-head.head.first c.in_ok-walked.walked.segments.items
    (c.in_ok-walked.ensures.segments t) (λ n low high. sym (blobs_moved c.args.db n (c.load_control.ensures.effect t)))

pub returns-clause-last : goal.returns-clause-last
returns-clause-last g c t durable = c.in_ok-walked.ensures.stands t (settled (segment_file c.args.db c.in_ok-head.head.back) (c.load_control.ensures.effect t) durable)

pub returns-clause-stands : goal.returns-clause-stands
returns-clause-stands g c t durable = control_kept (keeps_by_nothing (c.walk_all.ensures.effect t)) (c.in_ok-control.ensures.stands t durable)

pub returns-clause-bytes : goal.returns-clause-bytes
returns-clause-bytes g c t all = c.in_ok-walked.ensures.bytes t all ∙ ap joined (all_moved c.args.db c.in_ok-head.head c.in_ok-head.ensures.sound.front (c.load_control.ensures.effect t))
