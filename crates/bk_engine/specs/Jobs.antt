-- Backups that run beside the sessions: they start, go on and end.
-- SQL Server: BACKUP (Transact-SQL); "Full Database Backups".
use Rattle.std.specs.Prelude.{◌≡◌, ◌⊎◌, ◌<◌, ◌+◌, ◌^◌, ℕ, true, false, List, [], ◌∷◌, length, None, Some}
use Rattle.bk_device.specs.Disk.{Files}
use Rattle.bk_fields.specs.Guids.{IsGuid}
use Rattle.bk_hosting.specs.Copying.{HaveExtents}
use Rattle.bk_ids.specs.declared.guid.Guid.{Guid}
use Rattle.bk_ids.specs.declared.record.ExtentId.{ExtentId}
use Rattle.bk_ids.specs.declared.record.Rec.{Rec}
use Rattle.bk_kept.specs.Jobs.{IsApart}
use Rattle.bk_machine.specs.Acts.{Act, done, job_set, logged}
use Rattle.bk_machine.specs.declared.job.Job.{Job}
use Rattle.bk_machine.specs.MayDo.{MayDo}
use Rattle.bk_machine.specs.statements.Backup.{all_extents}
use Rattle.bk_machine.specs.statements.Job.{stepped}
use Rattle.bk_machine.specs.World.{Database, World, database_named}
use Rattle.bk_volume.specs.Names.{staging_file}
use Rattle.bk_volume.specs.Staging.{Staging}
use Rattle.bk_world.specs.declared.transaction.Open.{Open}
use Rattle.bk_world.specs.Records.{Said}
use Rattle.bk_engine.specs.Acts.{CutsSaying, MaySayIn}
use Rattle.bk_engine.specs.Stands.{Covers, Kept}

-- ---- it starts

-- The database of a name has no backup that runs, and this one may start: all its data extents are left, and no other backup has its set.
pub record StartsSet (w : World) (name : List ℕ) (job : Job) : Type 0 where
  pub db : Database
  pub found : database_named w.databases name ≡ Some db
  pub none : db.job ≡ None
  pub may : MayDo w (job_set name (Some job))
  pub whole : job.left ≡ all_extents db.files
  pub apart : IsApart w job.set

-- ---- it goes on

-- so many more of the extents that are left to the backup of the database of a name may be copied
pub record StepsSet (w : World) (name : List ℕ) (count : ℕ) (job : Job) : Type 0 where
  pub db : Database
  pub found : database_named w.databases name ≡ Some db
  pub runs : db.job ≡ Some job
  pub may : MayDo w (job_set name (Some (stepped count job)))

-- ---- it ends

-- no backup of the database runs any more, and it says the stamp of the set, among these open transactions
abbrev pub ending : List ℕ → Said → List Open → List Act
ending name stamp ts = job_set name None ∷ logged name (stamp ∷ []) ts ∷ []

-- The backup of the database of a name may end so: its stamp, which these records spell, may come once it runs no more.
pub record EndsSet (w : World) (name : List ℕ) (job : Job) (stamp : Said) (ts : List Open) (records : List Rec) : Type 0 where
  pub db : Database
  pub found : database_named w.databases name ≡ Some db
  pub runs : db.job ≡ Some job
  pub says : MaySayIn (done w (job_set name None)) name (stamp ∷ []) ts records true

-- a crash leaves the world before both acts, or behind the first, or behind both
abbrev pub CutsEnding : World → List ℕ → Said → List Open → Files → Type 0
CutsEnding w name stamp ts image = Covers w image ⊎ CutsSaying (done w (job_set name None)) name (stamp ∷ []) ts image

-- a set that is finished: the place of its database, which counts from 0, what was written, and the extents that aren't copied yet
pub record Finishing : Type 0 where
  pub set : Guid
  pub at : ℕ
  pub staged : Staging
  pub rest : List ExtentId

-- It is in the file of its set, without a log, with room for what is left, which the database at that place has.
pub record IsFinishing (e : Kept) (f : Finishing) : Type 0 where
  pub named : f.staged.name ≡ staging_file f.set
  pub guid : IsGuid f.set
  pub fit : f.staged.failed ≡ false
  pub first : f.staged.log ≡ 0
  pub few : f.staged.extents + length f.rest < 2 ^ 32
  pub inside : f.at < length e.hosting.states
  pub there : HaveExtents e.hosting.stores.slots f.at f.rest
