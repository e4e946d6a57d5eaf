-- Whole log records, spelled one after the other.
use Rattle.std.specs.Prelude.{ℕ, zero, suc, Bool, false, ◌||◌, List, [], ◌∷◌, length, Option, Some, None, ◌==◌, nat_lt, if◌then◌else◌}
use Rattle.bk_ids.specs.declared.record.Rec.{Rec}
use Rattle.bk_record.specs.Log.{IsLog}
use Rattle.bk_record.specs.Reading.{record_form}

-- the bytes are the spellings of records, and nothing else
abbrev pub AreRecords : List ℕ → Type 0
AreRecords bytes = (records : List Rec) × IsLog bytes records None

-- a record is read, and what follows it passes a test
abbrev pub then_rest : (List ℕ → Bool) → Option (Rec × List ℕ) → Bool
then_rest test None = false
then_rest test (Some x) = test x.1

-- at most n records are read, one after the other, and then nothing is left
abbrev pub at_most_records : ℕ → List ℕ → Bool
at_most_records zero bytes = length bytes == 0
at_most_records (suc n) bytes = length bytes == 0 || then_rest (at_most_records n) (record_form.reading bytes)

-- the bytes are read to their end as records, of which there are no more than bytes
unfoldable pub are_records : List ℕ → Bool
are_records bytes = at_most_records (length bytes) bytes

-- all of the bytes, where they are records
abbrev pub records_in : List ℕ → Option (List ℕ)
records_in bytes = if are_records bytes then Some bytes else None

-- the records from the first one on whose number isn't below this one
abbrev pub records_from : ℕ → List Rec → List Rec
records_from n [] = []
records_from n (r ∷ records) = if nat_lt r.lsn n then records_from n records else r ∷ records
