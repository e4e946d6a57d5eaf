use Rattle.std.proofs.Common.{◌≡◌, drop}
use Rattle.bk_shown.specs.Writes.{writer_of}
use Rattle.bk_shown.proofs.asking.first_writer.Given as goal

abbrev pub invariant-loop-write : goal.invariant-loop-write
invariant-loop-write l = writer_of (drop l.write-index l.written) (l.table, l.key) ≡ writer_of l.written (l.table, l.key)
