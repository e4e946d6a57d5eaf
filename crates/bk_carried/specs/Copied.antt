-- What a full backup copies of a database while it goes on.
-- SQL Server: "Full Database Backups"; BACKUP (Transact-SQL).
use Rattle.std.specs.Prelude.{◌≡◌, ◌≤◌, ◌<◌, ℕ, true, List, [], ◌++◌, length, map, None}
use Rattle.std.specs.List.{AllByRecursion}
use Rattle.bk_body.specs.Body.{Body, Extent}
use Rattle.bk_body.specs.Conditions.{has_extent}
use Rattle.bk_machine.specs.Sound.{files_of_set}
use Rattle.bk_restored.specs.Paged.{from_to}
use Rattle.bk_paths.specs.Paths.{IsPath}
use Rattle.bk_record.specs.Log.{IsLog}
use Rattle.bk_shown.specs.Shown.{ArePlaced}
use Rattle.bk_restored.specs.StoreCopying.{ArePages}
use Rattle.bk_restored.specs.StoreTold.{Told, files_of}
use Rattle.bk_undo.specs.Spelled.{spelled}
use Rattle.bk_world.specs.Cut.{end_behind}
use Rattle.bk_world.specs.Pending.{Pending, pending}
use Rattle.bk_world.specs.Records.{Deed, Logged, checkpointed, more, stamped}
use Rattle.bk_world.specs.Says.{alone}
use Rattle.bk_world.specs.Telling as telling
use Rattle.bk_world.specs.declared.header.Header.{Header}
use Rattle.bk_carried.specs.Carried.{is_there}

-- An extent was read when the records were a front of these, with at least so many.
pub record WasRead (rs : List Logged) (least : ℕ) (e : Extent) : Type 0 where
  pub front : List Logged
  pub back : List Logged
  pub splits : rs ≡ front ++ back
  pub late : least ≤ length front
  pub pages : ArePages (map spelled front) e.file e.extent 8 e.bytes

-- The header of a set is of a database with these records at its end, and all that is pending there began at the set's first number or later.
pub record IsHeaderOf (told : Told) (header : Header) : Type 0 where
  pub files : files_of_set header ≡ files_of told
  pub ends : header.last ≡ end_behind told.records
  pub some : 1 ≤ header.first
  pub order : header.first ≤ header.checkpoint
  pub inside : header.checkpoint < header.last
  pub begun : AllByRecursion (λ (w : Pending). header.first ≤ w.begin) (pending told.records)

-- A set was made of a database whose records are a path, each in its place: its parts are what the store gave, each extent once the checkpoint was said.
pub record IsCopy (told : Told) (body : Body) : Type 0 where
  pub path : IsPath (map spelled told.records)
  pub placed : ArePlaced (files_of told) [] told.records
  pub header : IsHeaderOf told body.header
  pub tables : body.tables ≡ telling.tables told.records
  pub log : IsLog body.log (from_to body.header.first body.header.last (map spelled told.records)) None
  pub there : (file extent : ℕ) → has_extent body.header.files file extent ≡ true → is_there body.extents file extent ≡ true
  pub read : AllByRecursion (WasRead told.records body.header.checkpoint) body.extents

-- a log with one record more at its end, of no transaction
abbrev pub said_last : List Logged → Deed → List Logged
said_last rs deed = more rs (end_behind rs) (alone deed)

-- the log behind a full backup: the checkpoint at its start, the stamp at its finish
abbrev pub backed_up : List Logged → Header → List Logged
backed_up rs header = said_last (said_last rs (checkpointed header.start)) (stamped header.finish header.set)
