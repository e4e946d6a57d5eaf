-- Log records one after the other, and where reading them breaks off.
use Rattle.std.specs.Prelude.{◌≡◌, ◌≢◌, ℕ, ◌+◌, List, [], ◌++◌, length, Option, Some, None, Result, Ok, Err}
use Rattle.std.specs.List.{flat_map, AllByRecursion}
use Rattle.bk_ids.specs.declared.record.Rec.{Rec}
use Rattle.bk_record.specs.declared.walk.BadRecord.{BadRecord}
use Rattle.bk_record.specs.declared.view.RecRef.{RecRef}
use Rattle.bk_record.specs.Spelling.{spelling, IsRecord, BeginsWith, IsUnspelled}
use Rattle.bk_record.specs.View.{record_of}

-- the bytes that a cursor has left, and their place in the whole
pub record Left : Type 0 where
  pub bytes : List ℕ
  pub at : ℕ

-- there are bytes, and no record is spelled at their front
pub record IsBad (bytes : List ℕ) : Type 0 where
  pub some : bytes ≢ []
  pub unspelled : IsUnspelled bytes

-- the front of what was left is the record's spelling
pub record Reads (old : Left) (r : Rec) (new : Left) : Type 0 where
  pub begins : BeginsWith old.bytes r new.bytes
  pub at : new.at ≡ old.at + length (spelling r)

-- reading broke off at this place, and nothing is left
pub record BreaksOff (old : Left) (e : BadRecord) (new : Left) : Type 0 where
  pub at : e.at ≡ old.at
  pub bad : IsBad old.bytes
  pub nothing_left : new ≡ record { bytes = []; at = old.at }

-- what one step of a cursor does: nothing exactly at the end, a record exactly where one is spelled
abbrev pub IsNext : Left → Option (Result RecRef BadRecord) → Left → Type 0
IsNext old None new = (old.bytes ≡ []) × (new ≡ old)
IsNext old (Some (Ok r)) new = Reads old (record_of r) new
IsNext old (Some (Err e)) new = BreaksOff old e new

-- the bytes begin with these records, and behind them is nothing, or no record at this place
abbrev pub Ends : ℕ → List ℕ → Option ℕ → Type 0
Ends at rest None = rest ≡ []
Ends at rest (Some place) = (place ≡ at) × IsBad rest

-- the records that the bytes spell, and the place at which reading them breaks off, if it does
pub record IsLog (bytes : List ℕ) (records : List Rec) (bad : Option ℕ) : Type 0 where
  pub rest : List ℕ
  pub spelled : bytes ≡ flat_map spelling records ++ rest
  pub are_records : AllByRecursion IsRecord records
  pub ends : Ends (length (flat_map spelling records)) rest bad
