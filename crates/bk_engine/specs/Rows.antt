-- The rows of msdb that an instance keeps in its own file, beside its media.
-- SQL Server: "backupset (Transact-SQL)", "restorehistory (Transact-SQL)", "logmarkhistory (Transact-SQL)".
use Rattle.std.specs.Prelude.{ℕ, List, Option}
use Rattle.bk_archive.specs.Media.{KeepsMedia, MediaAreDurable}
use Rattle.bk_device.specs.Disk.{Disk, Files, IsDurable}
use Rattle.bk_machine.specs.World.{World}
use Rattle.bk_msdb.specs.Msdb.{Shows, msdb_file}
use Rattle.bk_msdb.specs.Rows.{Tables}

-- the rows of a world
unfoldable pub rows_in : World → Tables
rows_in w = record { backups = w.backups; restores = w.restores; marks = w.marks }

-- Nothing is pending in media, nor in the file of the rows, which shows those of a world.
pub record IsCalm (disk : Disk) (w : World) : Type 0 where
  pub media : MediaAreDurable disk
  pub rows : Shows disk.files (rows_in w)
  pub durable : IsDurable disk msdb_file

-- Files keep the media of one world, and show the rows of another.
pub record KeepsBeside (u v : World) (making : Option (List ℕ)) (files : Files) : Type 0 where
  pub media : KeepsMedia v making files
  pub rows : Shows files (rows_in u)
