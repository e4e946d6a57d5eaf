use Rattle.bk_token.proofs.OpeningLemmas.{opens_first}
use Rattle.bk_token.proofs.opening.opening_of.Goals as goal

pub returns-in-len1-up-4-clause-opens : goal.returns-in-len1-up-4-clause-opens
returns-in-len1-up-4-clause-opens c = opens_first c.args.bytes.now _ c.in-len1-up.len_at_least c.opening_mark_of.ensures
