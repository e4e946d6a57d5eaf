-- The set of a full backup of a database as it is.
-- SQL Server: "Full Database Backups"; BACKUP (Transact-SQL).
use Rattle.std.specs.Prelude.{◌≡◌, true, List, map, Some}
use Rattle.bk_carried.specs.Copied.{IsHeaderOf}
use Rattle.bk_machine.specs.Sound.{IsSoundSet}
use Rattle.bk_machine.specs.World.{Database, World, database_named, log_of}
use Rattle.bk_store.specs.Told.{Told, files_of}
use Rattle.bk_world.specs.declared.database.FileSpec.{FileSpec}
use Rattle.bk_world.specs.declared.database.Status.TheVariants.{Online}
use Rattle.bk_world.specs.declared.header.Header.{Header}
use Rattle.bk_world.specs.declared.header.HeaderFile.{HeaderFile}

-- the data files of a database as a full set has them
abbrev pub in_set : List FileSpec → List HeaderFile
in_set files = map (λ (f : FileSpec). record { spec = f; in_set = true }) files

-- A header is that of a set of its database, which is online, up to its end.
pub record IsSetNow (w : World) (header : Header) : Type 0 where
  pub db : Database
  pub found : database_named w.databases header.database ≡ Some db
  pub online : db.status ≡ Online
  pub path : header.path ≡ db.path
  pub ends : header.last ≡ db.end
  pub files : header.files ≡ in_set db.files
  pub of_it : (told : Told) → files_of told ≡ db.files → told.records ≡ log_of w.history db → IsHeaderOf told header
  pub sound : IsSoundSet w header
