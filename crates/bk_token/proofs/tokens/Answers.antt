use Rattle.std.proofs.Common.{◌≡◌, ◌+◌, ◌-◌, take, drop, ap, refl, subst, arith, ◌∙◌}
use Rattle.std.specs.Prelude.{count_by}
use Rattle.std.proofs.lemmas.List.{take_rest}
use Rattle.bk_token.specs.Bytes.{is_line_feed}
use Rattle.bk_token.specs.Reading.{Cuts}
use Rattle.bk_token.proofs.TokenLemmas.{turn, all_read, spans_rise, slices}
use Rattle.bk_token.proofs.tokens.Goals as goal

pub loop-at-preserved : goal.loop-at-preserved
loop-at-preserved c =
    let src = c.args.src.now in
    let at = c.loop-at.at in
    let piece = c.first_piece-piece.result in
    let cut : Cuts (take at src) (drop at src) piece.len piece.kind = subst (λ l. Cuts (take at src) l piece.len piece.kind) (take_rest src at) c.first_piece-piece.ensures in
    let size : at + piece.len - at ≡ piece.len = omega arith in
    let counted : c.line_feeds-feeds.result ≡ count_by is_line_feed (take piece.len (drop at src)) = c.line_feeds-feeds.ensures ∙ ap (λ n. count_by is_line_feed (take n (drop at src))) size in
    rw c.in_ok-add.ensures (turn src _ at _ piece.len _ _ piece.kind c.loop-at.invariant cut counted refl)

pub returns-clause-list : goal.returns-clause-list
returns-clause-list c = all_read c.args.src.now _ _ _ c.loop-at-test.false c.loop-at.invariant

pub returns-clause-spans : goal.returns-clause-spans
returns-clause-spans c = spans_rise c.args.src.now _ (all_read c.args.src.now _ _ _ c.loop-at-test.false c.loop-at.invariant)

pub returns-clause-slices : goal.returns-clause-slices
returns-clause-slices c = slices c.args.src.now _ (all_read c.args.src.now _ _ _ c.loop-at-test.false c.loop-at.invariant)
