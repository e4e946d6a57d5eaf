use Rattle.bk_syntax.specs.Reader.{work}
use Rattle.bk_syntax.proofs.ReaderLaws.{Recovering}
use Rattle.bk_syntax.proofs.reader.Reader.recover.Given as goal

abbrev pub invariant-loop-token : goal.invariant-loop-token
invariant-loop-token l = Recovering l.src l.initial.self l.self

abbrev pub decreases-loop-token : goal.decreases-loop-token
decreases-loop-token l = work l.src l.self
