use Rattle.std.proofs.Common.{◌∙◌}
use Rattle.bk_token.proofs.PieceLemmas.{cuts_line_comment}
use Rattle.bk_token.proofs.piece.line_comment.Goals as goal

pub returns : goal.returns
returns c before = cuts_line_comment before c.args.bytes.now _ _ c.requires (c.passed.ensures.1 ∙ c.line_len.ensures.value) c.passed.ensures.0
