use Rattle.std.proofs.Common.{◌≡◌, ◌++◌, length}
use Rattle.bk_token.specs.Contents.{folded}
use Rattle.bk_token.proofs.words.folded.Given as goal

abbrev pub invariant-loop-rest : goal.invariant-loop-rest
invariant-loop-rest l = l.content.items ++ folded l.close l.rest ≡ folded l.close l.bytes

abbrev pub decreases-loop-rest : goal.decreases-loop-rest
decreases-loop-rest l = length l.rest
