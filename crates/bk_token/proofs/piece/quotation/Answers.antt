use Rattle.std.proofs.Common.{◌∙◌}
use Rattle.bk_token.proofs.PieceLemmas.{cuts_bad_quotation}
use Rattle.bk_token.proofs.piece.quotation.Goals as goal

pub returns-in-None : goal.returns-in-None
returns-in-None c = cuts_bad_quotation _ _ _ _ _ _ c.in-None.ensures c.requires.begins (c.token-in-None.ensures.1 ∙ c.line_len.ensures.value) c.token-in-None.ensures.0
