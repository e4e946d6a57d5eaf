use Rattle.std.proofs.Common.{length, ◌-◌}
use Rattle.bk_token.proofs.TokenLemmas.{TokensSoFar}
use Rattle.bk_token.proofs.tokens.Given as goal

abbrev pub invariant-loop-at : goal.invariant-loop-at
invariant-loop-at l = TokensSoFar l.src l.found.items l.at l.feeds

abbrev pub decreases-loop-at : goal.decreases-loop-at
decreases-loop-at l = length l.src - l.at
