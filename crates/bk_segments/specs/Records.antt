-- Log records in the blobs of a gate file.
use Rattle.std.specs.Prelude.{◌≡◌, ℕ, zero, suc, ◌+◌, List, [], ◌∷◌, length}
use Rattle.std.specs.List.{flat_map, AllByRecursion}
use Rattle.std.specs.Option.{option_map_or}
use Rattle.bk_record.specs.Rec.{Rec}
use Rattle.bk_record.specs.Reading.{record_form}
use Rattle.bk_record.specs.Spelling.{spelling, IsRecord}

-- the records at the front of bytes, at most so many, until none is spelled
abbrev pub records_from : ℕ → List ℕ → List Rec
records_from zero bytes = []
records_from (suc most) bytes = option_map_or (λ x. x.0 ∷ records_from most x.1) (record_form.reading bytes) []

-- the records of a blob
unfoldable pub records_in : List ℕ → List Rec
records_in blob = records_from (length blob) blob

-- the records of blobs, one after the other
abbrev pub records_of : List (List ℕ) → List Rec
records_of blobs = flat_map records_in blobs

-- the blob is whole records alone
pub record IsBatch (blob : List ℕ) : Type 0 where
  pub spelled : blob ≡ flat_map spelling (records_in blob)
  pub are_records : AllByRecursion IsRecord (records_in blob)

-- each record has its number, from this one on
abbrev pub Numbered : ℕ → List Rec → Type 0
Numbered n [] = Unit {0}
Numbered n (r ∷ rs) = (r.lsn ≡ n) × Numbered (n + 1) rs

-- the blobs are whole records, which have each number from one to below another once
pub record IsRun (from : ℕ) (blobs : List (List ℕ)) (to : ℕ) : Type 0 where
  pub batches : AllByRecursion IsBatch blobs
  pub numbered : Numbered from (records_of blobs)
  pub ends : to ≡ from + length (records_of blobs)

-- the blob is whole records, which have each number from one to below another once
pub record IsPart (from : ℕ) (blob : List ℕ) (to : ℕ) : Type 0 where
  pub batch : IsBatch blob
  pub numbered : Numbered from (records_in blob)
  pub ends : to ≡ from + length (records_in blob)

-- the bytes of blobs, one behind the other
abbrev pub joined : List (List ℕ) → List ℕ
joined blobs = flat_map (λ blob. blob) blobs
