use Rattle.std.proofs.Common.{take}
use Rattle.bk_redo.specs.CellWrites.{PartWritten}
use Rattle.bk_redo.proofs.worker.redo_part.Given as goal

abbrev pub invariant-loop-write : goal.invariant-loop-write
invariant-loop-write l = PartWritten l.first (take l.write-index l.task.writes.now) l.initial.pages l.pages
