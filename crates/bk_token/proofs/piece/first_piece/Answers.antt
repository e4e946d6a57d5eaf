use Rattle.bk_token.specs.declared.opening.Opening.TheVariants.{DashComment, SlashComment, Digit}
use Rattle.bk_token.proofs.PieceLemmas.{cuts}
use Rattle.bk_token.proofs.piece.first_piece.Goals as goal

pub returns-in-DashComment : goal.returns-in-DashComment
returns-in-DashComment c = cuts c.args.before.now c.args.bytes.now _ _ DashComment c.in-DashComment.ensures.value (c.line_comment.ensures c.args.before.now)

pub returns-in-SlashComment : goal.returns-in-SlashComment
returns-in-SlashComment c = cuts c.args.before.now c.args.bytes.now _ _ SlashComment c.in-SlashComment.ensures.value (c.block_comment.ensures c.args.before.now)

pub returns-in-Digit : goal.returns-in-Digit
returns-in-Digit c = cuts c.args.before.now c.args.bytes.now _ _ Digit c.in-Digit.ensures.value (c.number.ensures c.args.before.now)
