-- What the layers above may take of undoing.
use Rattle.std.specs.Prelude.{◌≡◌, ◌≢◌, ℕ, ◌*◌, ◌^◌, ◌<◌, ◌≤◌, ◌++◌, List, [], length, map, Option}
use Rattle.std.specs.List.{filter, AllByRecursion}
use Rattle.bk_ids.specs.declared.record.Rec.{Rec}
use Rattle.bk_ids.specs.declared.record.Body.TheVariants.{RollbackEnd}
use Rattle.bk_record.specs.Log.{IsLog}
use Rattle.bk_record.specs.Spelling.{IsRecord, KeepsLimits}
use Rattle.bk_undo.specs.Losers.{is_open, writes, pending, compensation, unnumbered, Rises}

-- a record ends the rollback of a transaction that none of these records is of
pub record EndsNoneOf (left : List Rec) (r : Rec) : Type 0 where
  pub ends : r.body ≡ RollbackEnd
  pub others : AllByRecursion (λ s. s.begin ≢ r.begin) left

-- Where a front of the compensation is appended to the log, and behind it the ends of rollbacks that have nothing left to undo,
-- what is left to undo is exactly the rest.
abbrev pub EndsLeaveTheRest : Type 0
EndsLeaveTheRest =
    (n m : ℕ) (records written ends front back : List Rec) → Rises records → AllByRecursion (λ r. r.lsn < n) records → n ≤ m
    → AllByRecursion (λ r. r.lsn < m) written → AllByRecursion (λ r. r.lsn < m) ends → AllByRecursion (EndsNoneOf back) ends
    → compensation n records ≡ front ++ back → map unnumbered written ≡ front → compensation m (records ++ written ++ ends) ≡ back

-- of what is pending, more records that write nothing leave just what none of them closes
abbrev pub ClosingLeavesTheOpen : Type 0
ClosingLeavesTheOpen =
    (records more : List Rec) → AllByRecursion (λ r. writes r ≡ []) more → pending (records ++ more) ≡ filter (is_open more) (pending records)

-- of records that have a spelling, the compensation keeps the limits of one that is encoded
abbrev pub UndoingKeepsLimits : Type 0
UndoingKeepsLimits = (n : ℕ) (records : List Rec) → AllByRecursion IsRecord records → AllByRecursion (λ r. KeepsLimits r.body) (compensation n records)

-- and it has a spelling under each number
abbrev pub UndoingIsSpelled : Type 0
UndoingIsSpelled =
    (n : ℕ) (records : List Rec) → AllByRecursion IsRecord records → AllByRecursion (λ r. (lsn : ℕ) → lsn < 2 ^ 64 → IsRecord (record r { lsn = lsn })) (compensation n records)

-- no more is undone than there are records
abbrev pub UndoingIsNoLonger : Type 0
UndoingIsNoLonger = (n : ℕ) (records : List Rec) → length (compensation n records) ≤ length records

-- and each record takes 24 bytes of its log at least
abbrev pub RecordsAreFew : Type 0
RecordsAreFew = (bytes : List ℕ) (records : List Rec) (bad : Option ℕ) → IsLog bytes records bad → 24 * length records ≤ length bytes
