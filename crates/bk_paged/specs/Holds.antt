-- What the files of a database hold, and what a crash leaves.
-- SQL Server: "Transaction Log Architecture and Management Guide", write-ahead log; "Restore and Recovery Overview".
use Rattle.std.specs.Prelude.{◌≡◌, ◌<◌, ◌≤◌, ◌^◌, ℕ, List, [], ◌∷◌, ◌++◌, length, take}
use Rattle.bk_device.specs.Disk.{Files}
use Rattle.bk_facts.specs.declared.facts.DataFile.{DataFile}
use Rattle.bk_facts.specs.Facts.{Notes, facts_bytes}
use Rattle.bk_ids.specs.declared.record.Rec.{Rec}
use Rattle.bk_segments.specs.Files.{Logged, LogIs}
use Rattle.bk_paths.specs.Pages.{IsPage}
use Rattle.bk_paths.specs.Paths.{IsPath, KeepsOpen, end_of, kept_from, settled}
use Rattle.bk_redo.specs.declared.place.PageAt.{PageAt}
use Rattle.bk_redo.specs.PageStates.{page_of}
use Rattle.bk_side.specs.Names.{AreDifferent}
use Rattle.bk_side.specs.Pages.{IsSound}
use Rattle.bk_paged.specs.Names.{IsPlaced, IsThere, names_of, shown_at}

-- What a database is to the layer above: its data files, that layer's note, the records of its path, and from which number on that layer needs them in the log.
pub record Stood : Type 0 where
  pub files : List DataFile
  pub note : List ℕ
  pub records : List Rec
  pub needed : ℕ

-- from which number on a page of a database with this latest checkpoint is as of
abbrev pub point_of : ℕ → PageAt → ℕ
point_of checkpoint at = checkpoint

-- A page in a data file is whole and its own, and as of some number of the path from this one on.
pub record IsStored (records : List Rec) (since : ℕ) (at : PageAt) (page : List ℕ) : Type 0 where
  pub sound : IsSound page
  pub place : IsPlaced at page
  pub is_page : IsPage records since at (page_of page)

-- A log that is kept from one number on, and pages of data files that are as of some number from another one on, are enough to recover the path: what is pending can be undone, and the
-- pages be brought to the end.
pub record Recovers (kept since : ℕ) (files : List DataFile) (shown : PageAt → List ℕ) (records : List Rec) : Type 0 where
  pub path : IsPath records
  pub some : 1 ≤ kept
  pub order : kept ≤ since
  pub early : since ≤ end_of records
  pub opened : KeepsOpen kept records
  pub room : end_of (settled records) ≤ 2 ^ 63
  pub pages : (at : PageAt) → IsThere files at → IsStored records (point_of since at) at (shown at)

-- data files and the note of the layer above have room in the note of a log
pub record HaveRoom (files : List DataFile) (note : List ℕ) : Type 0 where
  pub few : length files < 2 ^ 16
  pub first : length (facts_bytes (record { checkpoint = 0; files = files })) ≤ 2048
  pub rest : length note ≤ 30720

-- The files hold a database: the log has the path's records from its kept point on, and so those that are needed; its note names the latest checkpoint, and with the pages that the files show that is enough to
-- recover the path.
pub record Holds (db : ℕ) (stood : Stood) (image : Files) : Type 0 where
  pub log : Logged
  pub checkpoint : ℕ
  pub log_is : LogIs image db log
  pub noted : Notes log.note (record { checkpoint = checkpoint; files = stood.files }) stood.note
  pub room : HaveRoom stood.files stood.note
  pub different : AreDifferent (names_of stood.files)
  pub held : log.records ≡ kept_from log.kept stood.records
  pub needs : log.kept ≤ stood.needed
  pub recovers : Recovers log.kept checkpoint stood.files (shown_at db stood.files image) stood.records

-- a database with a front of its records
abbrev pub front_of : ℕ → Stood → Stood
front_of k stood = record stood { records = take k stood.records }

-- A crash leaves the database with a front of its records, at least so many of them.
abbrev pub Leaves : ℕ → ℕ → Stood → Files → Type 0
Leaves db least stood image = (k : ℕ) × (least ≤ k) × Holds db (front_of k stood) image

-- a database once all that is pending is undone
abbrev pub recovered : Stood → Stood
recovered stood = record stood { records = settled stood.records }

-- a database with one record more
abbrev pub with_one : Stood → Rec → Stood
with_one stood r = record stood { records = stood.records ++ r ∷ [] }

-- the same database, whose log is needed from this number on
abbrev pub needed_from : ℕ → Stood → Stood
needed_from n stood = record stood { needed = n }

-- a database without a record
abbrev pub unwritten : List DataFile → List ℕ → Stood
unwritten files note = record { files = files; note = note; records = []; needed = 1 }
