-- The log of one database over its files.
use Rattle.std.specs.Prelude.{◌≡◌, ◌≤◌, ◌<◌, ◌+◌, ◌^◌, ℕ, Bool, List, length, Some}
use Rattle.bk_control.specs.Control.{IsControl, Kept as KeptControl}
use Rattle.bk_device.specs.Disk.{Files, Disk, IsDurable}
use Rattle.bk_gate.specs.Gate.{IsGate, Kept as KeptGate}
use Rattle.bk_ids.specs.declared.record.Rec.{Rec}
use Rattle.bk_segments.specs.declared.head.Head.{Head}
use Rattle.bk_segments.specs.declared.segments.Segment.{Segment}
use Rattle.bk_segments.specs.Control.{read_control, IsSound}
use Rattle.bk_segments.specs.Files.{control_file, segment_file, blobs_at, blobs_of, shown, AreBegun, AreSegments, Logged}
use Rattle.bk_segments.specs.Records.{IsRun}

-- what contracts see of a log
pub record Kept : Type 0 where
  pub db : ℕ
  pub control : KeptControl
  -- the last segment
  pub gate : KeptGate
  pub head : Head
  -- the segments that count
  pub segments : List Segment
  pub note : List ℕ
  -- the number behind that of the last sealed record
  pub stored : ℕ
  -- the number of the next record
  pub end : ℕ
  -- the records that aren't sealed yet
  pub waiting : List Rec
  -- how many bytes of records may be added without memory, and how often they may be made durable
  pub spare_bytes : ℕ
  pub spare_flushes : ℕ
  pub failed : Bool

-- what the log is, by its files
abbrev pub value_of : Files → Kept → Logged
value_of files log = shown files log.db log.head log.note

-- the log stands on the disk, and each crash leaves it
pub record IsLog (disk : Disk) (log : Kept) : Type 0 where
  pub control_name : log.control.name ≡ control_file log.db
  pub gate_name : log.gate.name ≡ segment_file log.db log.head.back
  pub controls : IsControl disk log.control
  pub gates : IsGate disk log.gate
  pub reads : read_control log.control.content ≡ Some (log.head, log.note)
  pub sound : IsSound log.head log.note
  pub segments : AreSegments (blobs_at disk.files log.db) log.db log.head.front log.head.first log.segments
  pub count : log.head.front + length log.segments ≡ log.head.back + 1
  pub durable : (n : ℕ) → log.head.front ≤ n → n ≤ log.head.back → IsDurable disk (segment_file log.db n)
  pub begun : AreBegun (blobs_at disk.files log.db) log.head
  pub run : IsRun log.head.first (blobs_of disk.files log.db log.head) log.stored
  pub inside : log.head.kept ≤ log.stored
  pub small : log.stored < 2 ^ 64

-- the same records wait behind the same durable ones
pub record IsSame (old new : Kept) : Type 0 where
  pub db : new.db ≡ old.db
  pub stored : new.stored ≡ old.stored
  pub end : new.end ≡ old.end
  pub waiting : new.waiting ≡ old.waiting

-- as much may be done without memory
pub record KeepsSpare (old new : Kept) : Type 0 where
  pub bytes : new.spare_bytes ≡ old.spare_bytes
  pub flushes : new.spare_flushes ≡ old.spare_flushes
