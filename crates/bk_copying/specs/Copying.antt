-- What is copied from the store of a database into a set that is being written.
-- SQL Server: "Full Database Backups"; "Transaction Log Backups".
use Rattle.std.specs.Prelude.{◌≡◌, ◌⊎◌, ℕ, List, false}
use Rattle.std.specs.List.{AllZip}
use Rattle.bk_body.specs.Body.{Extent}
use Rattle.bk_device.specs.Disk.{Disk}
use Rattle.bk_device.specs.Effects.{Effect, IsName}
use Rattle.bk_facts.specs.declared.facts.DataFile.{DataFile}
use Rattle.bk_ids.specs.declared.record.ExtentId.{ExtentId}
use Rattle.bk_paged.specs.Names.{IsOwn}
use Rattle.bk_store.specs.Copying.{IsExtentOf}
use Rattle.bk_store.specs.Store.{Kept, sealed_in}
use Rattle.bk_store.specs.Told.{LeavesRecords, Told, data_files}
use Rattle.bk_volume.specs.Names.{letter}
use Rattle.bk_volume.specs.Staging.{Staging}

-- the set's file is named as those of such sets are, so that it is none of a database
abbrev pub IsNamed : Staging → Type 0
IsNamed set = letter set.name ≡ 116

-- an extent as of the end
pub record IsCopy (told : Told) (id : ExtentId) (copy : Extent) : Type 0 where
  pub file : copy.file ≡ id.file
  pub number : copy.extent ≡ id.extent
  pub is_extent : IsExtentOf told id.file id.extent copy.bytes

-- extents as of the end, in the order of these
abbrev pub AreCopies : Told → List ExtentId → List Extent → Type 0
AreCopies told ids copies = AllZip (IsCopy told) ids copies

-- Copying left a store as it was, but for the pages that lie in its frames; what waited may have become durable.
pub record IsAsBefore (s then : Kept) : Type 0 where
  pub fit : then.paged.failed ≡ false
  pub db : then.paged.log.db ≡ s.paged.log.db
  pub ends : then.paged.log.end ≡ s.paged.log.end
  pub kept : then.paged.log.head.kept ≡ s.paged.log.head.kept
  pub facts : then.paged.facts ≡ s.paged.facts
  pub shown : then.shown ≡ s.shown
  pub known : then.known ≡ s.known
  pub note : then.note ≡ s.note

-- a name is that of the database's own files, or of the set's
abbrev pub IsOfBoth : ℕ → List DataFile → Staging → List ℕ → Type 0
IsOfBoth db files set name = IsOwn db files name ⊎ IsName set.name name

-- Copying touched the store's own files and the set's alone, whatever they hold.
abbrev pub TouchesBoth : Kept → Staging → Disk → Disk → Type 0
TouchesBoth s set old new = Effect (IsOfBoth s.paged.log.db s.paged.facts.files set) (λ _. Unit {0}) old new

-- A crash in it leaves a front of the database's records with at least those that were durable before, and anything in the set's file.
abbrev pub CopyCrashes : Kept → Staging → Told → Disk → Disk → Type 0
CopyCrashes s set told old new = Effect (IsOfBoth s.paged.log.db (data_files told) set) (LeavesRecords s.paged.log.db (sealed_in s) told) old new
