-- A log that comes to hold records before its control record is put.
-- SQL Server: "Transaction Log Architecture and Management Guide".
use Rattle.std.specs.Prelude.{◌≡◌, ◌≢◌, ◌≤◌, ◌+◌, ℕ, List, [], length, None}
use Rattle.std.specs.List.{AllByRecursion, flat_map}
use Rattle.bk_device.specs.Disk.{Files, Disk, IsDurable}
use Rattle.bk_gate.specs.Gate.{IsGate, Kept as KeptGate}
use Rattle.bk_ids.specs.declared.record.Rec.{Rec}
use Rattle.bk_segments.specs.RecordSpelling.{spelling, IsRecord}
use Rattle.bk_segments.specs.Files.{control_file, segment_file, blobs_at, blobs_from}
use Rattle.bk_segments.specs.Records.{records_of, IsRun, Numbered}

-- what contracts see of it
pub record Kept : Type 0 where
  pub db : ℕ
  -- the number of its first record
  pub kept : ℕ
  -- the number of its last segment; they count from 1
  pub back : ℕ
  pub gate : KeptGate

-- There is no control file, each segment is begun, and nothing is pending in one.
pub record IsBegun (disk : Disk) (log : Kept) : Type 0 where
  pub name : log.gate.name ≡ segment_file log.db log.back
  pub gates : IsGate disk log.gate
  pub none : disk.files (control_file log.db) ≡ None
  pub some : (n : ℕ) → 1 ≤ n → n ≤ log.back → blobs_at disk.files log.db n ≢ []
  pub durable : (n : ℕ) → 1 ≤ n → n ≤ log.back → IsDurable disk (segment_file log.db n)

-- The segments hold these records.
pub record HasRecords (image : Files) (log : Kept) (records : List Rec) : Type 0 where
  pub run : IsRun log.kept (blobs_from (blobs_at image log.db) 1 log.back) (log.kept + length records)
  pub are : records_of (blobs_from (blobs_at image log.db) 1 log.back) ≡ records

-- the bytes spell these records, whose numbers follow each other from this one on
pub record Spell (bytes : List ℕ) (from : ℕ) (records : List Rec) : Type 0 where
  pub spelled : bytes ≡ flat_map spelling records
  pub are : AllByRecursion IsRecord records
  pub numbered : Numbered from records
