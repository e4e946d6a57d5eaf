-- A database that is made from the pages and the log of a backup.
-- SQL Server: "Complete Database Restores (Full Recovery Model)"; "Restore and Recovery Overview", data copy.
use Rattle.std.specs.Prelude.{◌≡◌, ◌≤◌, ℕ, List}
use Rattle.bk_device.specs.Disk.{Files, Disk}
use Rattle.bk_device.specs.Effects.{IsName}
use Rattle.bk_filling.specs.Filling.{IsFilling, Shows, Kept as KeptData}
use Rattle.bk_filling.specs.Records.{HasRecords, IsBegun as IsBegunLog, Kept as KeptLog}
use Rattle.bk_filling.specs.Removing.{AreGone}
use Rattle.bk_ids.specs.declared.record.Rec.{Rec}
use Rattle.bk_paged.specs.Holds.{Recovers, Stood}
use Rattle.bk_paged.specs.Paths.{kept_from}
use Rattle.bk_side.specs.Names.{side_file}

-- what contracts see of it
pub record Kept : Type 0 where
  pub filling : KeptData
  pub log : KeptLog

-- Its data files and its log stand on the disk; there is no side file.
pub record IsBegun (disk : Disk) (a : Kept) : Type 0 where
  pub filling : IsFilling disk a.filling
  pub log : IsBegunLog disk a.log
  pub side : AreGone (IsName (side_file a.log.db)) disk

-- The pages before the next one are these, and the log has these records.
pub record IsArriving (image : Files) (a : Kept) (given : ℕ × ℕ → List ℕ) (records : List Rec) : Type 0 where
  pub pages : Shows image a.filling given
  pub log : HasRecords image a.log records

-- Pages and records are enough for a database with this latest checkpoint and this note: the records are those of its path from the kept point on, and with the pages, each as of some number from the checkpoint on, the path is
-- recovered.
pub record Suffices (a : Kept) (checkpoint : ℕ) (note : List ℕ) (given : ℕ × ℕ → List ℕ) (records : List Rec) (stood : Stood) : Type 0 where
  pub files : stood.files ≡ a.filling.files
  pub same_note : stood.note ≡ note
  pub held : records ≡ kept_from a.log.kept stood.records
  pub needs : a.log.kept ≤ stood.needed
  pub recovers : Recovers a.log.kept checkpoint stood.files (λ at. given (at.file, at.page)) stood.records
