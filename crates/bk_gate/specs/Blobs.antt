-- The bytes of a gate file: sixteen letters, and then blobs, each behind a gate byte of 1.
use Rattle.std.specs.Prelude.{◌≡◌, ◌≤◌, ◌+◌, ◌&&◌, ◌==◌, ℕ, zero, suc, nat_le, if◌then◌else◌, Bool, List, [], ◌∷◌, length, map, take, slice_index, Option, None, Some}
use Rattle.std.specs.Option.{option_map_or}
use Rattle.std.specs.Str.{bytes_eq}
use Rattle.bk_device.specs.Calls.{contents, read_at}
use Rattle.bk_lemmas.specs.Numbers.{number}

-- the letters SQLBAKGATE000001
abbrev pub magic : List ℕ
magic = 83 ∷ 81 ∷ 76 ∷ 66 ∷ 65 ∷ 75 ∷ 71 ∷ 65 ∷ 84 ∷ 69 ∷ 48 ∷ 48 ∷ 48 ∷ 48 ∷ 48 ∷ 49 ∷ []

-- the length of the blob behind the gate byte at this place, if the byte is 1 and the blob is whole in the file
unfoldable pub blob_at : List ℕ → ℕ → Option ℕ
blob_at file gate = if (slice_index file gate == 1) && nat_le (gate + 9 + number (read_at file (gate + 1) 8)) (length file) then Some (number (read_at file (gate + 1) 8)) else None

-- where the blobs from a gate byte on lie, by place and length, at most so many of them
abbrev pub spans_from : ℕ → ℕ → List ℕ → List (ℕ × ℕ)
spans_from zero gate file = []
spans_from (suc most) gate file = option_map_or (λ size. (gate + 9, size) ∷ spans_from most (gate + 9 + size) file) (blob_at file gate) []

-- where the sealed blobs of a file lie
unfoldable pub spans_of : List ℕ → List (ℕ × ℕ)
spans_of file = spans_from (length file) 16 file

-- the bytes of a file's part
abbrev pub part_of : List ℕ → ℕ × ℕ → List ℕ
part_of file span = read_at file span.0 span.1

-- the file is a gate file
abbrev pub IsGateFile : List ℕ → Type 0
IsGateFile file = (take 16 file ≡ magic) × (17 ≤ length file)

-- the same as a test
abbrev pub is_gate_file : List ℕ → Bool
is_gate_file file = bytes_eq (take 16 file) magic && nat_le 17 (length file)

-- the sealed blobs in these bytes, none where they are no gate file
unfoldable pub blobs_in : List ℕ → List (List ℕ)
blobs_in file = if is_gate_file file then map (part_of file) (spans_of file) else []

-- the sealed blobs of a file
abbrev pub sealed : Option (List ℕ) → List (List ℕ)
sealed file = blobs_in (contents file)
