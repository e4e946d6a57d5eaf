use Rattle.bk_syntax.specs.Reader.{IsReader, work}
use Rattle.script_cases.proofs.reading.add_read.Given as goal

abbrev pub invariant-loop-reader : goal.invariant-loop-reader
invariant-loop-reader l = IsReader l.src l.reader

abbrev pub decreases-loop-reader : goal.decreases-loop-reader
decreases-loop-reader l = work l.src l.reader
