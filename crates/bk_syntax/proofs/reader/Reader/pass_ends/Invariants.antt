use Rattle.bk_syntax.specs.Reader.{Passes, work}
use Rattle.bk_syntax.proofs.reader.Reader.pass_ends.Given as goal

abbrev pub invariant-loop-first : goal.invariant-loop-first
invariant-loop-first l = Passes l.src l.initial.self l.self

abbrev pub decreases-loop-first : goal.decreases-loop-first
decreases-loop-first l = work l.src l.self
