use Rattle.std.proofs.Common.{◌≡◌, ◌+◌, ◌≤◌, length}
use Rattle.bk_token.specs.Reading.{comment_from}
use Rattle.bk_token.proofs.runs.open_comment_len.Given as goal

abbrev pub invariant-loop-rest : goal.invariant-loop-rest
invariant-loop-rest l =
    (comment_from l.outer l.last l.rest + length l.bytes ≡ comment_from 0 0 l.bytes + length l.rest)
    × (l.outer + length l.rest ≤ length l.bytes)

abbrev pub decreases-loop-rest : goal.decreases-loop-rest
decreases-loop-rest l = length l.rest
