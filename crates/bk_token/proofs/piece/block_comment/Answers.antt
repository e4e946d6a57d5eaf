use Rattle.std.proofs.Common.{◌+◌, ◌∙◌, ap}
use Rattle.std.proofs.lemmas.List.{take_rest}
use Rattle.bk_token.specs.Reading.{comment_from}
use Rattle.bk_token.proofs.PieceLemmas.{cuts_block_comment, two_within}
use Rattle.bk_token.proofs.piece.block_comment.Goals as goal

pub slice_bounds-open_comment_len-start : goal.slice_bounds-open_comment_len-start
slice_bounds-open_comment_len-start c = two_within 47 42 c.args.bytes.now c.requires

pub slice_bounds-open_comment_len-count : goal.slice_bounds-open_comment_len-count
slice_bounds-open_comment_len-count c = two_within 47 42 c.args.bytes.now c.requires

pub returns : goal.returns
returns c before =
    cuts_block_comment before c.args.bytes.now _ _ c.requires
    (c.passed.ensures.1 ∙ ap (λ k. 2 + k) (c.open_comment_len.ensures.value ∙ ap (comment_from 0 0) (take_rest c.args.bytes.now 2)))
    c.passed.ensures.0
