use Rattle.std.proofs.Common.{length, ◌-◌}
use Rattle.bk_syntax.specs.Reader.{Fills}
use Rattle.bk_syntax.proofs.reader.Reader.front.Given as goal

abbrev pub invariant-loop-self : goal.invariant-loop-self
invariant-loop-self l = Fills l.src l.initial.self l.self

abbrev pub decreases-loop-self : goal.decreases-loop-self
decreases-loop-self l = length l.src - l.self.place.at
