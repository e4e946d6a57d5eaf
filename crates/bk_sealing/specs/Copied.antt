-- What a set that is being written holds of a database.
-- SQL Server: "Full Database Backups".
use Rattle.std.specs.Prelude.{◌≡◌, ℕ, List, map, None}
use Rattle.std.specs.List.{AllByRecursion}
use Rattle.bk_body.specs.Body.{Extent}
use Rattle.bk_carried.specs.Carried.{id_of}
use Rattle.bk_carried.specs.Copied.{WasRead}
use Rattle.bk_copying.specs.Extents.{extents_of}
use Rattle.bk_device.specs.Disk.{Disk}
use Rattle.bk_machine.specs.World.{Database, World, log_of}
use Rattle.bk_paged.specs.Paged.{from_to}
use Rattle.bk_record.specs.Log.{IsLog}
use Rattle.bk_store.specs.Told.{data_file}
use Rattle.bk_undo.specs.Spelled.{spelled}
use Rattle.bk_volume.specs.Staging.{HoldsParts, Staging}

-- It holds each data extent of it, as it was at some time once the records below `since` and that one were said, and its records from one number to below another.
pub record HoldsCopy (w : World) (db : Database) (since first last : ℕ) (disk : Disk) (set : Staging) : Type 0 where
  pub extents : List Extent
  pub log : List ℕ
  pub order : map id_of extents ≡ extents_of (map data_file db.files)
  pub read : AllByRecursion (WasRead (log_of w.history db) since) extents
  pub is_log : IsLog log (from_to first last (map spelled (log_of w.history db))) None
  pub parts : HoldsParts disk set extents log
