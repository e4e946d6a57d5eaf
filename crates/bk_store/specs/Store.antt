-- A store of one database on a device.
use Rattle.std.specs.Prelude.{◌≡◌, ◌≤◌, ◌⊎◌, ℕ, List}
use Rattle.bk_device.specs.Disk.{Disk}
use Rattle.bk_device.specs.Effects.{Effect}
use Rattle.bk_known.specs.declared.known.Known.{Known}
use Rattle.bk_paged.specs.Names.{IsOwn}
use Rattle.bk_paged.specs.Paged.{IsPaged, sealed_count, Kept as KeptPaged}
use Rattle.bk_shown.specs.Shown.{IsNext, Shows}
use Rattle.bk_shown.specs.declared.shown.Shown.{Shown}
use Rattle.bk_world.specs.Records.{Deed, Logged}
use Rattle.bk_store.specs.Told.{IsNoted, LeavesRecords, Told, data_files, files_of, stood_of}

-- what contracts see of a store
pub record Kept : Type 0 where
  pub paged : KeptPaged
  pub shown : Shown
  -- what its note says before that of the layer above
  pub known : Known
  pub note : List ℕ

-- The store stands for a database: its log and pages do, what is shown of the log is what these records show, and what is known is durable.
pub record IsStore (disk : Disk) (s : Kept) (told : Told) : Type 0 where
  pub paged : IsPaged disk s.paged (stood_of s.known told)
  pub shows : Shows (files_of told) told.records s.shown
  pub noted : IsNoted s.known told
  pub note : s.note ≡ told.note
  pub early : s.known.as_of.from ≤ s.paged.log.stored

-- how many records are durable
abbrev pub sealed_in : Kept → ℕ
sealed_in s = sealed_count s.paged

-- A call on a store touched its own files alone, and a crash meanwhile or now leaves a front of a database's records with at least those that were durable before.
abbrev pub Crashes : Kept → Told → Disk → Disk → Type 0
Crashes s told old new = Effect (IsOwn s.paged.log.db (data_files told)) (LeavesRecords s.paged.log.db (sealed_in s) told) old new

-- the record of a deed at the end of a store, of the transaction with this first record, or 0
abbrev pub at_end : Kept → ℕ → Deed → Logged
at_end s begin deed = record { lsn = s.paged.log.«end»; begin = begin; deed = deed }

-- it may come next there
abbrev pub MayBeSaid : Kept → Told → ℕ → Deed → Type 0
MayBeSaid s told begin deed = IsNext (files_of told) told.records (at_end s begin deed)

-- the same, with this note of the layer above, or the old one
abbrev pub NotesOr : Kept → Told → List ℕ → Disk → Disk → Type 0
NotesOr s told note old new = Effect (IsOwn s.paged.log.db (data_files told)) (λ image. LeavesRecords s.paged.log.db (sealed_in s) told image ⊎ LeavesRecords s.paged.log.db (sealed_in s) (record told { note = note }) image) old new
