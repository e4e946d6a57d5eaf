use Rattle.std.proofs.Common.{◌≡◌, length}
use Rattle.bk_token.specs.Pieces.{is_blank_line}
use Rattle.bk_token.proofs.runs.is_blank_line.Given as goal

abbrev pub invariant-loop-rest : goal.invariant-loop-rest
invariant-loop-rest l = is_blank_line l.rest ≡ is_blank_line l.bytes

abbrev pub decreases-loop-rest : goal.decreases-loop-rest
decreases-loop-rest l = length l.rest
