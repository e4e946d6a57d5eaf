-- What is copied of databases whose backups run beside the sessions.
-- SQL Server: "Full Database Backups".
use Rattle.std.specs.Prelude.{◌≡◌, ℕ, false, List, [], ◌++◌, length, map}
use Rattle.std.specs.List.{AllByRecursion}
use Rattle.bk_body.specs.Body.{Extent}
use Rattle.bk_carried.specs.Carried.{id_of}
use Rattle.bk_carried.specs.Copied.{WasRead}
use Rattle.bk_copying.specs.Extents.{extents_of}
use Rattle.bk_device.specs.Disk.{Disk}
use Rattle.bk_fields.specs.Guids.{IsGuid}
use Rattle.bk_hosted.specs.Hosted.{Hosted}
use Rattle.bk_ids.specs.declared.guid.Guid.{Guid}
use Rattle.bk_machine.specs.declared.job.Job.{Job}
use Rattle.bk_machine.specs.Sound.{JobIs}
use Rattle.bk_store.specs.Told.{data_file}
use Rattle.bk_volume.specs.Names.{staging_file}
use Rattle.bk_volume.specs.Staging.{HoldsParts, Staging}
use Rattle.bk_world.specs.Records.{Logged}

-- so many extents of a set were added, and no log
abbrev pub staging_of : Guid → ℕ → Staging
staging_of set count = record { name = staging_file set; extents = count; log = 0; failed = false }

-- What isn't left of a backup was copied: the file of its set holds the first data extents of the database, each as it was at some time once the records below the backup's checkpoint and that one were said.
pub record IsCopiedJob (disk : Disk) (h : Hosted) (job : Job) : Type 0 where
  pub guid : IsGuid job.set
  pub extents : List Extent
  pub order : map id_of extents ++ job.left ≡ extents_of (map data_file h.spec.storage.files)
  pub read : AllByRecursion (WasRead h.records job.checkpoint) extents
  pub parts : HoldsParts disk (staging_of job.set (length extents)) extents []

-- so it is of each hosted database of which one runs
abbrev pub AreCopied : Disk → List Hosted → Type 0
AreCopied disk hosted = AllByRecursion (λ (h : Hosted). JobIs (IsCopiedJob disk h) h.job) hosted

-- no name of this kind is that of the file of such a set
abbrev pub SparesSets : (List ℕ → Type 0) → List Hosted → Type 0
SparesSets own hosted = AllByRecursion (λ (h : Hosted). JobIs (λ (job : Job). IsGuid job.set → own (staging_file job.set) → ⊥) h.job) hosted

-- A hosted database goes on: it has the same backup and files, and more records behind those that it had.
pub record GoesOn (h g : Hosted) : Type 0 where
  pub job : g.job ≡ h.job
  pub files : g.spec.storage.files ≡ h.spec.storage.files
  pub later : List Logged
  pub records : g.records ≡ h.records ++ later
