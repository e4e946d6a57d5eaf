-- The eight bytes of a number.
use Rattle.std.proofs.Common.{◌≡◌, ◌<◌, ◌^◌, ℕ, List, [], length, sym, ◌∙◌, ap}
use Rattle.std.proofs.lemmas.List.{append-nil}
use Rattle.byteorder.specs.Endian.{little_number, little_bytes}
use Rattle.byteorder.specs.Numbers.{length-bytes_low_first, little_number-reads_back}

-- the number in eight bytes, the lowest first
unfoldable pub number : List ℕ → ℕ
number bytes = little_number 8 bytes

-- the eight bytes of a number, the lowest first
unfoldable pub number_bytes : ℕ → List ℕ
number_bytes n = little_bytes 8 n

pub length-number_bytes : (n : ℕ) → length (number_bytes n) ≡ 8
unfolding number_bytes
length-number_bytes n = length-bytes_low_first 0 8 n

pub number-reads_back : (n : ℕ) → n < 2 ^ 64 → number (number_bytes n) ≡ n
unfolding number number_bytes
number-reads_back n small = ap number (sym (append-nil (number_bytes n))) ∙ little_number-reads_back 8 n [] small
