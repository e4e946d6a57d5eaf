use Rattle.std.proofs.Common.{◌≡◌, drop}
use Rattle.bk_shown.specs.Steps.{row_numbered}
use Rattle.bk_shown.proofs.ending.numbered.Given as goal

abbrev pub invariant-loop-write : goal.invariant-loop-write
invariant-loop-write l = row_numbered (drop l.write-index l.written) l.number ≡ row_numbered l.written l.number
