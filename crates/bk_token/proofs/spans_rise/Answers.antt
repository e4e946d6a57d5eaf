use Rattle.bk_token.proofs.TokenLemmas.{spans_rise as law_of_spans_rise}
use Rattle.bk_token.proofs.spans_rise.Goals as goal

pub returns : goal.returns
returns c = law_of_spans_rise
