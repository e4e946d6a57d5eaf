use Rattle.std.proofs.Common.{◌≡◌, length}
use Rattle.bk_token.specs.Contents.{is_plain, is_plain_from}
use Rattle.bk_token.proofs.plain.is_plain.Given as goal

abbrev pub invariant-loop-rest : goal.invariant-loop-rest
invariant-loop-rest l = is_plain_from l.from l.src l.rest ≡ is_plain l.src l.tokens

abbrev pub decreases-loop-rest : goal.decreases-loop-rest
decreases-loop-rest l = length l.rest
