-- Extents as they are copied into backups.
-- SQL Server: "Pages and Extents Architecture Guide".
use Rattle.std.specs.Prelude.{◌≡◌, ◌<◌, ◌+◌, ◌*◌, ℕ, List, length, map}
use Rattle.bk_device.specs.Calls.{read_at}
use Rattle.bk_ids.specs.declared.record.Rec.{Rec}
use Rattle.bk_paged.specs.Holds.{IsStored}
use Rattle.bk_paths.specs.Paths.{end_of}
use Rattle.bk_paged.specs.PageAt.{PageAt}
use Rattle.bk_undo.specs.Spelled.{spelled}
use Rattle.bk_store.specs.Told.{Told}

-- the page of this index in an extent
abbrev pub page_of_extent : ℕ → ℕ → ℕ → PageAt
page_of_extent file extent i = record { file = file; page = 8 * extent + i }

-- The first n pages of an extent, one behind the other: each is whole, with its digest, its own, and as of the end.
pub record ArePages (records : List Rec) (file extent n : ℕ) (bytes : List ℕ) : Type 0 where
  pub whole : length bytes ≡ 8192 * n
  pub pages : (i : ℕ) → i < n → IsStored records (end_of records) (page_of_extent file extent i) (read_at bytes (8192 * i) 8192)

-- all eight
abbrev pub IsExtentOf : Told → ℕ → ℕ → List ℕ → Type 0
IsExtentOf told file extent bytes = ArePages (map spelled told.records) file extent 8 bytes
