-- Backup sets that hold what their path shows, with data extents in place of rows.
-- SQL Server: "Full Database Backups"; "Restore and Recovery Overview", data copy, redo and undo.
use Rattle.std.specs.Prelude.{◌≡◌, ◌≤◌, ◌<◌, ℕ, ◌*◌, ◌/◌, ◌%◌, ◌==◌, ◌&&◌, Bool, true, List, [], map, None, nat_lt, if◌then◌else◌}
use Rattle.std.specs.List.{AllByRecursion, find, flat_map, list_any, range_with_len}
use Rattle.std.specs.Option.{option_map_or}
use Rattle.bk_body.specs.Body.{Body, Extent}
use Rattle.bk_body.specs.Conditions.{has_extent}
use Rattle.bk_ids.specs.declared.record.ExtentId.{ExtentId}
use Rattle.bk_ids.specs.declared.record.Rec.{Rec}
use Rattle.bk_machine.specs.Sound.{files_of_set}
use Rattle.bk_page.specs.Page.{fresh_page, part}
use Rattle.bk_restored.specs.PagedHolds.{IsStored}
use Rattle.bk_paths.specs.Paths.{IsPath, kept_from}
use Rattle.bk_record.specs.Log.{IsLog}
use Rattle.bk_shown.specs.Shown.{ArePlaced}
use Rattle.bk_restored.specs.StoreCopying.{page_of_extent}
use Rattle.bk_undo.specs.Spelled.{spelled}
use Rattle.bk_world.specs.Lines.{RecordLines, log_below}
use Rattle.bk_world.specs.Pending.{Pending, pending}
use Rattle.bk_world.specs.Records.{Logged}
use Rattle.bk_world.specs.Telling as telling
use Rattle.bk_world.specs.declared.header.HeaderFile.{HeaderFile}

-- ---- extents

-- an extent is the one of this file and number
abbrev pub is_extent : ℕ → ℕ → Extent → Bool
is_extent file extent e = e.file == file && e.extent == extent

-- it is among these
abbrev pub is_there : List Extent → ℕ → ℕ → Bool
is_there extents file extent = list_any (is_extent file extent) extents

-- its bytes among these, none where it isn't there
abbrev pub bytes_in : List Extent → ℕ → ℕ → List ℕ
bytes_in extents file extent = option_map_or (λ (e : Extent). e.bytes) (find (is_extent file extent) extents) []

-- its file and number
abbrev pub id_of : Extent → ExtentId
id_of e = record { file = e.file; extent = e.extent }

-- the data extents of files, by file and number: they count from 1
abbrev pub data_extents : List HeaderFile → List ExtentId
data_extents files = flat_map (λ (f : HeaderFile). map (λ (n : ℕ). record { file = f.spec.number; extent = n }) (range_with_len 1 f.spec.extents)) files

-- the page of this index in an extent
abbrev pub page_part : List ℕ → ℕ → List ℕ
page_part bytes i = part bytes (8192 * i) 8192

-- the pages of the database that a set makes: pages 0 to 7 of a file are fresh, the others are those of its extents
unfoldable pub given : Body → ℕ × ℕ → List ℕ
given body at = if nat_lt at.1 8 then fresh_page at.0 at.1 else page_part (bytes_in body.extents at.0 (at.1 / 8)) (at.1 % 8)

-- each page of an extent is whole, its own, and as of some number of the path from this one on
abbrev pub IsCopied : List Rec → ℕ → Extent → Type 0
IsCopied records since e = (i : ℕ) → i < 8 → IsStored records since (page_of_extent e.file e.extent i) (page_part e.bytes i)

-- ---- sets

-- A set holds a log: its tables, its records from the first number of the set on, in which all began that is pending, and each data extent of its files as of some number from the checkpoint on.
pub record HoldsLog (rs : List Logged) (body : Body) : Type 0 where
  pub tables : body.tables ≡ telling.tables rs
  pub path : IsPath (map spelled rs)
  pub placed : ArePlaced (files_of_set body.header) [] rs
  pub log : IsLog body.log (kept_from body.header.first (map spelled rs)) None
  pub some : 1 ≤ body.header.first
  pub order : body.header.first ≤ body.header.checkpoint
  pub inside : body.header.checkpoint ≤ body.header.last
  pub begun : AllByRecursion (λ (w : Pending). body.header.first ≤ w.begin) (pending rs)
  pub there : (file extent : ℕ) → has_extent body.header.files file extent ≡ true → is_there body.extents file extent ≡ true
  pub pages : AllByRecursion (IsCopied (map spelled rs) body.header.checkpoint) body.extents

-- A set holds what its path shows below its end.
abbrev pub Carries : RecordLines → Body → Type 0
Carries lines body = HoldsLog (log_below lines body.header.path body.header.last) body
