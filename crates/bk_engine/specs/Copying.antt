-- What is copied of a database of a world.
-- SQL Server: "Full Database Backups".
use Rattle.std.specs.Prelude.{◌≡◌, ℕ, List, [], ◌++◌, map, Some}
use Rattle.std.specs.List.{AllByRecursion}
use Rattle.bk_body.specs.Body.{Extent}
use Rattle.bk_carried.specs.Carried.{id_of}
use Rattle.bk_carried.specs.Copied.{WasRead}
use Rattle.bk_copying.specs.Extents.{extents_of}
use Rattle.bk_device.specs.Disk.{Disk}
use Rattle.bk_ids.specs.declared.record.ExtentId.{ExtentId}
use Rattle.bk_fields.specs.Guids.{IsGuid}
use Rattle.bk_machine.specs.declared.job.Job.{Job}
use Rattle.bk_machine.specs.World.{Database, World, database_named, log_of}
use Rattle.bk_store.specs.Told.{Told, data_file, files_of}
use Rattle.bk_volume.specs.Staging.{HoldsParts, Staging}
use Rattle.bk_engine.specs.Copied.{staging_of}

-- a store's database has the files and the log of one of the world
pub record IsToldOf (w : World) (db : Database) (told : Told) : Type 0 where
  pub files : files_of told ≡ db.files
  pub records : told.records ≡ log_of w.history db

-- A set that is being written holds the first data extents of a database, each as it was at some time once the records below `since` and that one were said; these are left.
pub record HoldsFront (w : World) (db : Database) (since : ℕ) (rest : List ExtentId) (disk : Disk) (set : Staging) : Type 0 where
  pub extents : List Extent
  pub order : map id_of extents ++ rest ≡ extents_of (map data_file db.files)
  pub read : AllByRecursion (WasRead (log_of w.history db) since) extents
  pub parts : HoldsParts disk set extents []

-- What isn't left of a backup of the database of a name was copied into its set.
pub record IsCopiedOf (w : World) (name : List ℕ) (disk : Disk) (job : Job) : Type 0 where
  pub guid : IsGuid job.set
  pub db : Database
  pub found : database_named w.databases name ≡ Some db
  pub count : ℕ
  pub holds : HoldsFront w db job.checkpoint job.left disk (staging_of job.set count)
