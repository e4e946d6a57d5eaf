use Rattle.bk_token.proofs.ContentLaw.{contents as law_of_contents}
use Rattle.bk_token.proofs.contents.Goals as goal

pub returns : goal.returns
returns c = law_of_contents
