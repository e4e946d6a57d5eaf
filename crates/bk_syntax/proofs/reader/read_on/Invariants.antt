use Rattle.std.proofs.Common.{length, ◌-◌}
use Rattle.bk_syntax.specs.Reader.{ReadsOn}
use Rattle.bk_syntax.proofs.reader.read_on.Given as goal

abbrev pub invariant-loop-place : goal.invariant-loop-place
invariant-loop-place l = ReadsOn l.src l.initial.place l.initial.tokens.items l.place l.tokens.items

abbrev pub decreases-loop-place : goal.decreases-loop-place
decreases-loop-place l = length l.src - l.place.at
