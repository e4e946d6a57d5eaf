-- Files of a database in which nothing is to be finished or undone.
use Rattle.std.specs.Prelude.{◌≡◌, ℕ, ◌+◌, [], length}
use Rattle.bk_device.specs.Disk.{Files}
use Rattle.bk_segments.specs.Files.{AreTidy, Logged, LogIs}
use Rattle.bk_side.specs.Names.{side_file}
use Rattle.bk_side.specs.Side.{HasNoBatch}
use Rattle.bk_undo.specs.Losers.{compensation}

-- Nothing is to be finished: no segment of the log is there that doesn't count, and the side file is there with no batch sealed in it.
pub record IsFinished (db : ℕ) (files : Files) : Type 0 where
  pub log : AreTidy files db
  pub side : HasNoBatch (side_file db) files

-- Nor is anything to be undone: nothing is pending in the log.
pub record IsQuiet (db : ℕ) (files : Files) : Type 0 where
  pub finished : IsFinished db files
  pub none : (log : Logged) → LogIs files db log → compensation (log.kept + length log.records) log.records ≡ []
