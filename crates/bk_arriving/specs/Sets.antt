-- The pages and the log of a database, as a full backup set holds them.
-- SQL Server: "Full Database Backups"; "Complete Database Restores (Full Recovery Model)".
use Rattle.std.specs.Prelude.{◌≡◌, ◌*◌, ◌/◌, ◌%◌, ◌==◌, ◌&&◌, nat_lt, if◌then◌else◌, false, ℕ, List, [], ◌∷◌, map, None}
use Rattle.std.specs.List.{AllByRecursion}
use Rattle.bk_body.specs.Body.{Body, Extent}
use Rattle.bk_facts.specs.declared.facts.DataFile.{DataFile}
use Rattle.bk_filling.specs.Filling.{begun}
use Rattle.bk_page.specs.Page.{fresh_page, part}
use Rattle.bk_restoring.specs.Arriving.{Kept}
use Rattle.bk_arriving.specs.Extents.{HasExtents, extents_of}

-- an extent's file and number
abbrev pub place_in : Extent → ℕ × ℕ
place_in extent = (extent.file, extent.extent)

abbrev pub places : List Extent → List (ℕ × ℕ)
places extents = map place_in extents

-- Extents are the data extents of these data files, each once, in the order of file and number.
pub record AreWhole (files : List DataFile) (extents : List Extent) : Type 0 where
  pub even : AllByRecursion HasExtents files
  pub all : places extents ≡ extents_of 1 files

-- the bytes of the extent of a file and number, if it is one of these
abbrev pub bytes_in : List Extent → ℕ → ℕ → List ℕ
bytes_in [] file number = []
bytes_in (extent ∷ extents) file number = if extent.file == file && extent.extent == number then extent.bytes else bytes_in extents file number

-- The pages of a database that a set makes, by file and number: header pages are fresh, the others are those of its extents.
abbrev pub pages_of : Body → ℕ × ℕ → List ℕ
pages_of body at = if nat_lt at.1 8 then fresh_page at.0 at.1 else part (bytes_in body.extents at.0 (at.1 / 8)) (8192 * (at.1 % 8)) 8192

-- a database of this number that arrives in these files, with its first record of this number
abbrev pub arriving_of : List DataFile → ℕ → ℕ → Kept
arriving_of files db first = record {
  filling = begun files;
  log = record {
    db = db;
    kept = first;
    back = 1;
    gate = record { name = []; spans = []; «end» = 0; is_closed = false; begun = None; spare = 0; failed = false };
  };
}
