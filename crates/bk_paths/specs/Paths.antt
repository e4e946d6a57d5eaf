-- The log records of a path, what a log holds of them that was cut, and what undoes what is pending there.
-- SQL Server: "Transaction Log Architecture and Management Guide"; "Restore and Recovery Overview", the undo phase.
use Rattle.std.specs.Prelude.{◌≤◌, ℕ, ◌+◌, ◌-◌, List, [], ◌∷◌, ◌++◌, length, drop}
use Rattle.std.specs.List.{AllByRecursion}
use Rattle.bk_ids.specs.declared.record.Rec.{Rec}
use Rattle.bk_segments.specs.Records.{Numbered}
use Rattle.bk_redo.specs.RecordSpelling.{IsRecord}
use Rattle.bk_undo.specs.Losers.{compensation, pending}

-- the number that the next record of a path gets
abbrev pub end_of : List Rec → ℕ
end_of records = length records + 1

-- The records of a path, from its first on: each number once, each with a spelling, none below the first record of its transaction.
pub record IsPath (records : List Rec) : Type 0 where
  pub numbered : Numbered 1 records
  pub spelled : AllByRecursion IsRecord records
  pub begun : AllByRecursion (λ r. r.begin ≤ r.lsn) records

-- what a log holds of them that is kept from this number on
abbrev pub kept_from : ℕ → List Rec → List Rec
kept_from kept records = drop (kept - 1) records

-- of each write that is pending, the transaction's first record is kept
abbrev pub KeepsOpen : ℕ → List Rec → Type 0
KeepsOpen kept records = AllByRecursion (λ w. kept ≤ w.begin) (pending records)

-- records under the numbers from this one on
abbrev pub numbered : ℕ → List Rec → List Rec
numbered n [] = []
numbered n (r ∷ records) = (record r { lsn = n }) ∷ numbered (n + 1) records

-- the records that undo all that is pending, behind the end
abbrev pub undoing : List Rec → List Rec
undoing records = numbered (end_of records) (compensation (end_of records) records)

-- a path with all that is pending undone at its end
unfoldable pub settled : List Rec → List Rec
settled records = records ++ undoing records
