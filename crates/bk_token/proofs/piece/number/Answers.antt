use Rattle.std.proofs.Common.{◌∙◌, ap, Some}
use Rattle.bk_token.proofs.PieceLemmas.{cuts_number}
use Rattle.bk_token.proofs.piece.number.Goals as goal

pub returns : goal.returns
returns c before =
    cuts_number before c.args.bytes.now _ _ c.requires (c.token.ensures.1 ∙ c.digits_len-len.ensures.value)
    (rw c.token.ensures.1 (c.token.ensures.0 ∙ ap Some c.number_kind.ensures))
