-- The files of a log: its control file, its segments, and what they show.
use Rattle.std.specs.Prelude.{◌≡◌, ◌≢◌, ◌⊎◌, ◌≤◌, ◌<◌, ◌+◌, ◌-◌, ◌^◌, ℕ, zero, suc, List, [], ◌∷◌, ◌++◌, drop, slice_get, Some, None, codes, string_bytes}
use Rattle.std.specs.Fmt.{decimal}
use Rattle.bk_bytes.specs.Codec.{◌>>=◌}
use Rattle.bk_control.specs.Slots.{control_of}
use Rattle.bk_device.specs.Disk.{Files, Disk, IsDurable}
use Rattle.bk_gate.specs.Blobs.{sealed}
use Rattle.bk_record.specs.Rec.{Rec}
use Rattle.bk_segments.specs.declared.head.Head.{Head}
use Rattle.bk_segments.specs.declared.segments.Segment.{Segment}
use Rattle.bk_segments.specs.Control.{read_control, IsSound}
use Rattle.bk_segments.specs.Records.{records_of, IsRun}

-- the control file of a database's log
abbrev pub control_file : ℕ → List ℕ
control_file db = codes "c-" ++ decimal db

-- the segment of this number
abbrev pub segment_file : ℕ → ℕ → List ℕ
segment_file db n = codes "g-" ++ (decimal db ++ (codes "-" ++ decimal n))

-- the name is one of the log's
abbrev pub IsOwn : ℕ → List ℕ → Type 0
IsOwn db name = (name ≡ control_file db) ⊎ ((n : ℕ) × (name ≡ segment_file db n))

-- the sealed blobs of a segment
abbrev pub blobs_at : Files → ℕ → ℕ → List (List ℕ)
blobs_at files db n = sealed (files (segment_file db n))

-- the blobs of so many segments, from a number on
abbrev pub blobs_from : (ℕ → List (List ℕ)) → ℕ → ℕ → List (List ℕ)
blobs_from blobs front zero = []
blobs_from blobs front (suc more) = blobs_from blobs front more ++ blobs (front + more)

-- the blobs of the segments that count
abbrev pub blobs_of : Files → ℕ → Head → List (List ℕ)
blobs_of files db head = blobs_from (blobs_at files db) head.front (head.back - head.front) ++ blobs_at files db head.back

-- each segment that counts has a sealed blob: one without a byte is sealed before the segment counts
abbrev pub AreBegun : (ℕ → List (List ℕ)) → Head → Type 0
AreBegun blobs head = (n : ℕ) → head.front ≤ n → n ≤ head.back → blobs n ≢ []

-- these segments follow each other from a number on, and each begins where the records of those before it end
pub record AreSegments (blobs : ℕ → List (List ℕ)) (db front first : ℕ) (segments : List Segment) : Type 0 where
  pub names : (i : ℕ) (s : Segment) → slice_get segments i ≡ Some s → string_bytes s.name ≡ segment_file db (front + i)
  pub runs : (i : ℕ) (s : Segment) → slice_get segments i ≡ Some s → IsRun first (blobs_from blobs front i) s.first

-- one more segment, of this number and with this first record, was added to them
abbrev pub IsAdded : List Segment → List Segment → ℕ → ℕ → ℕ → Type 0
IsAdded old new db n first = (s : Segment) × (new ≡ old ++ s ∷ []) × (string_bytes s.name ≡ segment_file db n) × (s.first ≡ first)

-- the segment of this index begins with this record
abbrev pub BeginsAt : List Segment → ℕ → ℕ → Type 0
BeginsAt segments i first = (s : Segment) × (slice_get segments i ≡ Some s) × (s.first ≡ first)

-- no segment but the first lies below a number or begins at it
abbrev pub IsFirstAt : List Segment → ℕ → Type 0
IsFirstAt segments to = (i : ℕ) (s : Segment) → 1 ≤ i → slice_get segments i ≡ Some s → to < s.first

-- the name is that of one of these segments
abbrev pub IsNamed : List Segment → List ℕ → Type 0
IsNamed segments name = (i : ℕ) × (s : Segment) × (slice_get segments i ≡ Some s) × (name ≡ string_bytes s.name)

-- what a log is: its kept point, its records from there on, and the note
pub record Logged : Type 0 where
  pub kept : ℕ
  pub records : List Rec
  pub note : List ℕ

-- what the files show of a log with this control record
abbrev pub shown : Files → ℕ → Head → List ℕ → Logged
shown files db head note = record {
  kept = head.kept;
  records = drop (head.kept - head.first) (records_of (blobs_of files db head));
  note = note;
}

-- the same with further records
abbrev pub with_more : Logged → List Rec → Logged
with_more log more = record log { records = log.records ++ more }

-- the same without the records below a number
abbrev pub cut_at : ℕ → Logged → Logged
cut_at to log = record log { kept = to; records = drop (to - log.kept) log.records }

-- a log without records, with this kept point and note
abbrev pub emptied : ℕ → List ℕ → Logged
emptied at note = record { kept = at; records = []; note = note }

-- the files are this log
pub record LogIs (files : Files) (db : ℕ) (log : Logged) : Type 0 where
  pub head : Head
  pub end : ℕ
  pub reads : (control_of (files (control_file db)) >>= read_control) ≡ Some (head, log.note)
  pub sound : IsSound head log.note
  pub begun : AreBegun (blobs_at files db) head
  pub run : IsRun head.first (blobs_of files db head) end
  pub inside : head.kept ≤ end
  pub small : end < 2 ^ 64
  pub kept : log.kept ≡ head.kept
  pub records : log.records ≡ drop (head.kept - head.first) (records_of (blobs_of files db head))

-- the files are no log
abbrev pub IsForeign : Files → ℕ → Type 0
IsForeign files db = (log : Logged) → LogIs files db log → ⊥

-- nothing is pending in the log's files
abbrev pub AreDurable : ℕ → Disk → Type 0
AreDurable db disk = (name : List ℕ) → IsOwn db name → IsDurable disk name

-- the name is that of a segment from one number to below another
abbrev pub IsBetween : ℕ → ℕ → ℕ → List ℕ → Type 0
IsBetween db from to name = (n : ℕ) × (from ≤ n) × (n < to) × (name ≡ segment_file db n)

-- the name is that of a segment which doesn't count, below the first one that does or right behind the last
abbrev pub IsBeside : ℕ → Head → List ℕ → Type 0
IsBeside db head name = (n : ℕ) × (n ≤ head.back + 1) × ((n < head.front) ⊎ (head.back < n)) × (name ≡ segment_file db n)

-- the control file holds this head with a note, and they are sound
abbrev pub Holds : Files → ℕ → Head → Type 0
Holds files db head = (note : List ℕ) × ((control_of (files (control_file db)) >>= read_control) ≡ Some (head, note)) × IsSound head note

-- it holds none
abbrev pub IsUnheld : Files → ℕ → Type 0
IsUnheld files db = (head : Head) → Holds files db head → ⊥

-- no segment that a control record names is there
abbrev pub AreGone : Files → Files → ℕ → Type 0
AreGone old new db = (head : Head) → Holds old db head → (n : ℕ) → head.gone ≤ n → n ≤ head.back → new (segment_file db n) ≡ None

-- of the segments that the control record named, and the one that may have been begun behind them, those alone are there that count now
abbrev pub IsTidy : Files → Files → ℕ → Head → Type 0
IsTidy old new db now = (head : Head) → Holds old db head → (n : ℕ) → head.gone ≤ n → n ≤ head.back + 1 → (n < now.front) ⊎ (now.back < n) → new (segment_file db n) ≡ None

-- No segment is there that doesn't count, by this head: of those that are left below the first one none, nor one that was begun behind the last.
pub record HasNoRest (files : Files) (db : ℕ) (head : Head) : Type 0 where
  pub below : (n : ℕ) → head.gone ≤ n → n < head.front → files (segment_file db n) ≡ None
  pub behind : files (segment_file db (head.back + 1)) ≡ None

-- the same by the head that the control file holds, if there is one
abbrev pub AreTidy : Files → ℕ → Type 0
AreTidy files db = (head : Head) → Holds files db head → HasNoRest files db head

-- what counts of a log is durable
pub record AreSettled (db : ℕ) (disk : Disk) : Type 0 where
  -- its control file
  pub control : IsDurable disk (control_file db)
  -- each segment that counts
  pub counted : (head : Head) → Holds disk.files db head → (n : ℕ) → head.front ≤ n → n ≤ head.back → IsDurable disk (segment_file db n)
