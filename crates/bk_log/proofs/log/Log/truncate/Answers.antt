use Rattle.std.proofs.lemmas.Result.{on_ok_weaker}
use Rattle.std.proofs.Common.{◌≡◌, List, drop, None, sym, ap, subst, ◌∙◌, arith}
use Rattle.bk_segments.specs.declared.segments.Segment.{Segment}
use Rattle.bk_log.specs.Log.{Kept}
use Rattle.bk_segments.specs.Files.{segment_file, BeginsAt}
use Rattle.bk_log.proofs.Cuts.{least_kept, least_cut, gone_cut}
use Rattle.bk_log.proofs.log.Log.truncate.Goals as goal

pub cut-requires-clause-first : goal.cut-requires-clause-first
cut-requires-clause-first g c n begins =
    c.count_below-count.ensures.first n c.if-count-eq0.false (subst (λ (xs : List Segment). BeginsAt xs c.count_below-count.result n) (sym (c.deref.ensures.value ∙ ap (λ (k : Kept). k.segments) c.self.view_is)) begins)

pub returns-then-count-eq0-clause-least : goal.returns-then-count-eq0-clause-least
returns-then-count-eq0-clause-least g c =
    on_ok_weaker c.move_kept.result (λ same. least_kept c.deref.result.now c.move_kept.new.self.segments c.args.to c.count_below-count.result c.count_below-count.ensures.rest c.if-count-eq0.true
    (same.0 ∙ sym (c.deref.ensures.value ∙ ap (λ (k : Kept). k.segments) c.self.view_is))) c.move_kept.ensures.segments

pub returns-then-count-eq0-clause-gone : goal.returns-then-count-eq0-clause-gone
returns-then-count-eq0-clause-gone g c t = on_ok_weaker c.move_kept.result (λ same n low high. absurd (omega (arith, same.1, low, high))) c.move_kept.ensures.segments

pub returns-then-count-eq0-clause-same : goal.returns-then-count-eq0-clause-same
returns-then-count-eq0-clause-same g c = on_ok_weaker c.move_kept.result (λ same. (same.db, same.stored, same.end, same.waiting)) c.move_kept.ensures.same

pub returns-clause-least : goal.returns-clause-least
returns-clause-least g c =
    on_ok_weaker c.cut.result (λ left. least_cut c.deref.result.now c.cut.new.self.segments c.args.to c.count_below-count.result c.count_below-count.ensures.rest
    (left ∙ ap (drop c.count_below-count.result) (sym (c.deref.ensures.value ∙ ap (λ (k : Kept). k.segments) c.self.view_is)))) c.cut.ensures.segments

pub returns-clause-same : goal.returns-clause-same
returns-clause-same g c = on_ok_weaker c.cut.result (λ same. (same.db, same.stored, same.end, same.waiting)) c.cut.ensures.same

pub returns-clause-gone : goal.returns-clause-gone
returns-clause-gone g c t =
    gone_cut c.cut.result (λ n. (g.D.Device.disk c.cut.new.dev).files (segment_file c.args.self.now.db n) ≡ None) c.args.self.now.head.front c.cut.new.self.head.front c.count_below-count.result c.cut.ensures.front (c.cut.ensures.gone t)
