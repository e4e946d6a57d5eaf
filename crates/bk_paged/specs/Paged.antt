-- A database's log and pages on a device.
use Rattle.std.specs.Prelude.{◌≡◌, ◌≤◌, ◌-◌, ℕ, Bool, true, List, [], ◌++◌, length, take, Some, slice_get, slice_index_or}
use Rattle.bk_device.specs.Disk.{Disk}
use Rattle.bk_device.specs.Effects.{Effect}
use Rattle.bk_ids.specs.declared.record.Rec.{Rec}
use Rattle.bk_ids.specs.declared.record.Body.TheVariants.{Checkpoint}
use Rattle.bk_log.specs.Log.{IsLog, value_of, Kept as KeptLog}
use Rattle.bk_paths.specs.Pages.{last_page}
use Rattle.bk_paths.specs.Paths.{end_of, kept_from}
use Rattle.bk_pool.specs.Pool.{IsIn, Pool}
use Rattle.bk_redo.specs.declared.place.PageAt.{PageAt}
use Rattle.bk_redo.specs.PageStates.{page_of}
use Rattle.bk_side.specs.Names.{side_file, AreDifferent}
use Rattle.bk_side.specs.Side.{IsSide, added_of, Kept as KeptSide}
use Rattle.bk_facts.specs.declared.facts.Facts.{Facts}
use Rattle.bk_facts.specs.Facts.{Notes}
use Rattle.bk_paged.specs.Names.{IsOwn, IsPlaced, IsThere, names_of, shown_at}
use Rattle.bk_paged.specs.Holds.{HaveRoom, Recovers, Stood}

-- what contracts see of a database
pub record Kept : Type 0 where
  pub log : KeptLog
  pub side : KeptSide
  pub pool : Pool
  pub facts : Facts
  -- the note of the layer above
  pub note : List ℕ
  -- from which number on the pages in the data files are as of
  pub since : ℕ
  pub failed : Bool

-- how many records are durable
abbrev pub sealed_count : Kept → ℕ
sealed_count p = p.log.stored - 1

-- a page lies in a frame that is dirty
abbrev pub IsDirty : Pool → PageAt → Type 0
IsDirty pool at = (i : ℕ) × IsIn pool.pages i at.file at.page × (slice_get pool.dirty i ≡ Some true)

-- Log, side file and data files stand on the disk, and no batch of pages is begun.
pub record Standing (disk : Disk) (p : Kept) : Type 0 where
  pub logs : IsLog disk p.log
  pub side_name : p.side.gate.name ≡ side_file p.log.db
  pub side_names : p.side.names ≡ names_of p.facts.files
  pub sides : IsSide disk p.side
  pub fresh : added_of disk p.side ≡ []
  pub noted : Notes p.log.note p.facts p.note
  pub room : HaveRoom p.facts.files p.note
  pub different : AreDifferent (names_of p.facts.files)

-- a call touched the database's own files alone, whatever they hold
abbrev pub Touches : Kept → Disk → Disk → Type 0
Touches p old new = Effect (IsOwn p.log.db p.facts.files) (λ _. Unit {0}) old new

-- A page in a frame is whole and its own, and as of the end.
pub record IsLast (records : List Rec) (at : PageAt) (page : List ℕ) : Type 0 where
  pub whole : length page ≡ 8192
  pub place : IsPlaced at page
  pub is_last : page_of page ≡ last_page at records

-- What is kept stands for a database. Durable records are in the log's files from the kept point on, and the others wait behind them. Each front of the records with all durable ones is recovered from the log and the
-- pages in the files, which are as of some number from `since` on. Each page in a frame is as of the end, and so is each one in the files that lies in no dirty frame.
pub record IsPaged (disk : Disk) (p : Kept) (stood : Stood) : Type 0 where
  pub standing : Standing disk p
  pub files : p.facts.files ≡ stood.files
  pub same_note : p.note ≡ stood.note
  pub ends : p.log.end ≡ end_of stood.records
  pub held : (value_of disk.files p.log).records ++ p.log.waiting ≡ kept_from p.log.head.kept stood.records
  pub needs : p.log.head.kept ≤ stood.needed
  pub kept : p.log.head.kept ≤ p.facts.checkpoint
  pub order : p.facts.checkpoint ≤ p.since
  pub sealed : p.log.stored ≤ p.log.end
  pub recovers : (k : ℕ) → sealed_count p ≤ k → Recovers p.log.head.kept p.since stood.files (shown_at p.log.db stood.files disk.files) (take k stood.records)
  pub frames : (i : ℕ) (at : PageAt) → IsIn p.pool.pages i at.file at.page → IsThere stood.files at × IsLast stood.records at (slice_index_or p.pool.frames i [])
  pub clean : (at : PageAt) → IsThere stood.files at → (IsDirty p.pool at → ⊥) → page_of (shown_at p.log.db stood.files disk.files at) ≡ last_page at stood.records

-- the records of a path from a number on and below another
abbrev pub from_to : ℕ → ℕ → List Rec → List Rec
from_to from to records = take (to - from) (kept_from from records)

-- the record of a checkpoint at the end
abbrev pub checkpoint_record : Kept → ℕ → Rec
checkpoint_record p now = record { lsn = p.log.end; begin = 0; body = Checkpoint now }
