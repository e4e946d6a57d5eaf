-- What workers read, and what they do.
use Rattle.std.specs.Prelude.{ℕ, ◌<◌, List}
use Rattle.std.specs.List.{All}
use Rattle.bk_redo.specs.declared.worker.Task.{Task}
use Rattle.bk_redo.specs.CellWrites.{PartWritten}

-- the slots of a task's writes are those of cells
pub record IsTask (task : Task) : Type 0 where
  pub slots : All (λ write. write.slot < 63) task.writes.now

-- the writes of a task are made to a part of the frames, which begins with this one
pub record IsDone (task : Task) (first : ℕ) (old new : List (List ℕ)) : Type 0 where
  pub made : PartWritten first task.writes.now old new
