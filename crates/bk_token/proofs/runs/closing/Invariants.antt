use Rattle.std.proofs.Common.{◌≡◌, ◌+◌, length, false}
use Rattle.bk_token.specs.Reading.{closing}
use Rattle.bk_token.proofs.runs.closing.Given as goal

abbrev pub invariant-loop-rest : goal.invariant-loop-rest
invariant-loop-rest l = (closing l.close l.is_second l.at l.rest ≡ closing l.close false 0 l.bytes) × (l.at + length l.rest ≡ length l.bytes)

abbrev pub decreases-loop-rest : goal.decreases-loop-rest
decreases-loop-rest l = length l.rest
