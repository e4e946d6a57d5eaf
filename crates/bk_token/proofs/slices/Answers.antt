use Rattle.bk_token.proofs.TokenLemmas.{slices as law_of_slices}
use Rattle.bk_token.proofs.slices.Goals as goal

pub returns : goal.returns
returns c = law_of_slices
