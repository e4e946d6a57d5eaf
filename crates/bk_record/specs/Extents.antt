-- The extents that stand in bytes, 6 bytes each.
use Rattle.std.specs.Prelude.{ℕ, zero, suc, ◌/◌, List, [], ◌∷◌, length, drop}
use Rattle.bk_ids.specs.declared.record.ExtentId.{ExtentId}
use Rattle.bk_bytes.specs.Field.{number_of}
use Rattle.bk_record.specs.declared.extents.Extents.{Extents}

-- n extents that stand in bytes one after the other
abbrev pub extents_in : ℕ → List ℕ → List ExtentId
extents_in zero bytes = []
extents_in (suc n) bytes = record { file = number_of 2 bytes; extent = number_of 4 (drop 2 bytes) } ∷ extents_in n (drop 6 bytes)

-- the extents of 6 bytes each
abbrev pub extents_of : List ℕ → List ExtentId
extents_of bytes = extents_in (length bytes / 6) bytes

-- the extents that a value shows
abbrev pub extents_shown : Extents → List ExtentId
extents_shown extents = extents_of extents.bytes.now
