use Rattle.bk_syntax.specs.Reader.{work}
use Rattle.bk_syntax.proofs.ReaderLaws.{ReadSoFar}
use Rattle.bk_syntax.proofs.entries.items.Given as goal

abbrev pub invariant-loop-found : goal.invariant-loop-found
invariant-loop-found l = ReadSoFar l.src l.reader l.found.items

abbrev pub decreases-loop-found : goal.decreases-loop-found
decreases-loop-found l = work l.src l.reader
