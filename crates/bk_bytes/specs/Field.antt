-- A number as the bytes of a field, the lowest byte first.
use Rattle.std.specs.Prelude.{ℕ, ◌+◌, ◌<◌, List, ◌++◌, length, take, drop, slice_index}
use Rattle.byteorder.specs.Endian.{little_bytes, little_number}

-- each item is a byte
abbrev pub AreBytes : List ℕ → Type 0
AreBytes bytes = (i : ℕ) → slice_index bytes i < 256

-- the number in the first n bytes
unfoldable pub number_of : ℕ → List ℕ → ℕ
number_of n bytes = little_number n bytes

-- the lowest n bytes of a number
unfoldable pub bytes_of : ℕ → ℕ → List ℕ
bytes_of n x = little_bytes n x

-- the bytes with a field written over those from a place on
abbrev pub with_field : List ℕ → ℕ → List ℕ → List ℕ
with_field bytes at field = take at bytes ++ field ++ drop (at + length field) bytes
