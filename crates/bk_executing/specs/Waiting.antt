-- How a backup ends that ran beside the sessions.
-- SQL Server: BACKUP (Transact-SQL).
use Rattle.std.specs.Prelude.{◌≡◌, ℕ, List, [], ◌∷◌, ◌++◌}
use Rattle.bk_device.specs.Disk.{Disk}
use Rattle.bk_engine.specs.Copying.{HoldsFront}
use Rattle.bk_engine.specs.Jobs.{EndsSet, Finishing, ending}
use Rattle.bk_engine.specs.Stands.{Kept, StandsFor}
use Rattle.bk_kept.specs.Jobs.{IsApart}
use Rattle.bk_machine.specs.Acts.{Act, based, done_all, noted, set_sealed}
use Rattle.bk_machine.specs.declared.history_row.HistoryRow.TheVariants as history
use Rattle.bk_machine.specs.declared.job.Job.{Job}
use Rattle.bk_machine.specs.World.{World}
use Rattle.bk_media_plans.specs.declared.wait_plan.Finish.{Finish}
use Rattle.bk_sealing.specs.Sealing.{IsSetNow}
use Rattle.bk_world.specs.declared.header.Header.{Header}
use Rattle.bk_world.specs.declared.msdb.BackupRow.{BackupRow}
use Rattle.bk_world.specs.Records.{Said, stamped}

-- the stamp of its set, of no transaction
abbrev pub stamp_of : Finish → Said
stamp_of finish = record { begin = 0; deed = stamped finish.header.finish finish.header.set }

-- it runs no more, and its stamp is said
abbrev pub ending_of : Finish → List Act
ending_of finish = ending finish.name (stamp_of finish) finish.transactions

-- then its set is sealed
abbrev pub sealing_of : Finish → List Act
sealing_of finish = ending_of finish ++ set_sealed finish.path finish.header ∷ []

-- a row comes to backupset, and a database is based on a set
abbrev pub basing_row : List ℕ → BackupRow → Header → List Act
basing_row name row base = noted (history.Backup row) ∷ based name base ∷ []

-- A backup may end so: its stamp may be said, and its set is then one of its database, as it is behind that.
pub record MayEnd (w : World) (finish : Finish) : Type 0 where
  pub job : Job
  pub ends : EndsSet w finish.name job (stamp_of finish) finish.transactions finish.records
  pub is : IsSetNow (done_all w (ending_of finish)) finish.header
  pub database : finish.header.database ≡ finish.name
  pub since : finish.header.checkpoint ≡ job.checkpoint

-- Once its stamp is said: the world behind that, and what is known of its set, of which the rest isn't copied yet.
pub record Ended (w : World) (finish : Finish) (may : MayEnd w finish) (disk : Disk) (e : Kept) (f : Finishing) : Type 0 where
  pub stands : StandsFor disk e (done_all w (ending_of finish))
  pub apart : IsApart (done_all w (ending_of finish)) f.set
  pub holds : HoldsFront (done_all w (ending_of finish)) may.is.db finish.header.checkpoint f.rest disk f.staged
