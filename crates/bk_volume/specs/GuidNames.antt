-- The files of different sets that are being written have different names.
use Rattle.std.proofs.Common.{◌≡◌, ℕ, zero, suc, ◌+◌, ◌*◌, ◌/◌, ◌%◌, ◌^◌, ◌<◌, ◌≤◌, List, [], ◌∷◌, fold, refl, sym, ap, ◌∙◌, arith, pow-suc, mul_comm}
use Rattle.std.proofs.Math.Nat.{pow-le-pow_right}
use Rattle.std.proofs.Math.Arith.{mod-mul}
use Rattle.std.specs.Int.{byte_at, bytes_high_first, to_be_bytes, w128}
use Rattle.hex.specs.Hex.{encode_lower, decode_of}
use Rattle.hex.proofs.HexLemmas.{decode_of-encode_lower}
use Rattle.bk_bytes.specs.Field.{AreBytes}
use Rattle.bk_fields.specs.Guids.{IsGuid, guid_number}
use Rattle.bk_ids.specs.declared.guid.Guid.{Guid}
use Rattle.bk_volume.specs.Names.{staging_file}

-- one more byte in front of the low k bytes
byte_on : (k n high : ℕ) → (high * 256 + byte_at k n) * 256 ^ k + n % 256 ^ k ≡ high * 256 ^ suc k + n % 256 ^ suc k
byte_on zero n high = omega arith
byte_on (suc k) n high =
    let unit = 256 ^ suc k in
    let wider : 256 ^ suc (suc k) ≡ 256 * unit = pow-suc 256 (suc k) ∙ mul_comm unit 256 in
    let some : 0 < unit = pow-le-pow_right {n = 256} (omega arith) {i = 0} {j = suc k} (omega arith) in
    rw (wider, mod-mul n {m = 256} {c = unit} (omega arith) some) (omega arith)

-- the number that bytes tell behind a number
told : ℕ → List ℕ → ℕ
told high bytes = fold (λ h byte. h * 256 + byte) high bytes

bytes_tell : (k n high : ℕ) → told high (bytes_high_first k n) ≡ high * 256 ^ k + n % 256 ^ k
unfolding told
bytes_tell zero n high = omega arith
bytes_tell (suc k) n high = bytes_tell k n (high * 256 + byte_at k n) ∙ byte_on k n high

small_byte : (k n : ℕ) → byte_at k n < 256
small_byte zero n = omega arith
small_byte (suc k) n = omega arith

are_bytes : (k n : ℕ) → AreBytes (bytes_high_first k n)
are_bytes zero n i = omega arith
are_bytes (suc k) n zero = small_byte k n
are_bytes (suc k) n (suc i) = are_bytes k n i

-- a number of 128 bits is the one that its bytes tell
number_told : (n : ℕ) → n < 2 ^ 128 → told 0 (to_be_bytes w128 n) ≡ n
number_told n small = bytes_tell 16 n 0 ∙ omega (arith, small)

-- a GUID is told by its number
same_guid : (set other : Guid) → IsGuid set → IsGuid other → guid_number set ≡ guid_number other → set ≡ other
same_guid set other one two same =
    let high : set.high ≡ other.high = omega (arith, same, one.low, two.low) in
    let low : set.low ≡ other.low = omega (arith, same, one.low, two.low) in
    λ i. record { high = high i; low = low i }

small_number : (set : Guid) → IsGuid set → guid_number set < 2 ^ 128
small_number set is = omega (arith, is.high, is.low)

pub staging_files_differ : (set other : Guid) → IsGuid set → IsGuid other → staging_file set ≡ staging_file other → set ≡ other
unfolding staging_file
staging_files_differ set other one two same =
    let first : List ℕ = to_be_bytes w128 (guid_number set) in
    let second : List ℕ = to_be_bytes w128 (guid_number other) in
    let digits : encode_lower first ≡ encode_lower second = cc in
    let decoded : decode_of (encode_lower first) ≡ decode_of (encode_lower second) = ap decode_of digits in
    let its = decode_of-encode_lower first (are_bytes 16 (guid_number set)) in
    let others = decode_of-encode_lower second (are_bytes 16 (guid_number other)) in
    let bytes : first ≡ second = cc in
    same_guid set other one two (sym (number_told (guid_number set) (small_number set one)) ∙ ap (told 0) bytes ∙ number_told (guid_number other) (small_number other two))
