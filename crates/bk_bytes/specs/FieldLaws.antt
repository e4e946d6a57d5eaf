-- The bytes of a field's number are the field.
use Rattle.std.proofs.Common.{◌≡◌, ℕ, zero, suc, ◌+◌, ◌*◌, ◌/◌, ◌%◌, ◌^◌, ◌<◌, ◌≤◌, List, [], ◌∷◌, ◌++◌, length, take, refl, sym, ap, ◌∙◌, arith}
use Rattle.std.proofs.Math.Nat.{div-div-eq-div-mul, div-one, pow-succ'}
use Rattle.std.specs.Int.{byte_at, bytes_low_first}
use Rattle.byteorder.specs.Endian.{little_from}
use Rattle.byteorder.specs.Numbers.{little_number-reads_back, little_from-lt, little_from-cons, little_from-append, little_from-take, length-bytes_low_first}
use Rattle.bk_bytes.specs.Field.{AreBytes, number_of, bytes_of}

-- there are n bytes
pub length-bytes_of : (n x : ℕ) → length (bytes_of n x) ≡ n
unfolding bytes_of
length-bytes_of n x = length-bytes_low_first 0 n x

-- the number of a number's bytes
pub number_of-bytes_of : (n x : ℕ) (rest : List ℕ) → x < 256 ^ n → number_of n (bytes_of n x ++ rest) ≡ x
unfolding number_of bytes_of
number_of-bytes_of n x rest h = little_number-reads_back n x rest h

-- no number of n bytes reaches 256 ^ n
pub number_of-lt : (n : ℕ) (bytes : List ℕ) → AreBytes bytes → number_of n bytes < 256 ^ n
unfolding number_of
number_of-lt n bytes h = little_from-lt 0 n bytes h

-- the number reads only the first bytes
pub number_of-append : (n : ℕ) (front rest : List ℕ) → n ≤ length front → number_of n (front ++ rest) ≡ number_of n front
unfolding number_of
number_of-append n front rest h = little_from-append n front rest h

-- the number reads no byte past its end
pub number_of-take : (n m : ℕ) (bytes : List ℕ) → n ≤ m → number_of n (take m bytes) ≡ number_of n bytes
unfolding number_of
number_of-take n m bytes h = little_from-take 0 n m bytes (omega arith)

-- a byte of a number, by its place
byte_at-pow : (k x : ℕ) → byte_at k x ≡ x / 256 ^ k % 256
byte_at-pow zero x = ap (λ (y : ℕ). y % 256) (sym (div-one x))
byte_at-pow (suc k) x = refl

-- the byte at the next place of a number is the byte of the number without its lowest byte
byte_at-suc : (i a x : ℕ) → a < 256 → byte_at (suc i) (a + 256 * x) ≡ byte_at i x
byte_at-suc i a x h =
    let cut : (a + 256 * x) / 256 ≡ x = omega arith in
    let moved : (a + 256 * x) / 256 ^ suc i ≡ x / 256 ^ i =
    ap (λ (p : ℕ). (a + 256 * x) / p) (pow-succ' 256 i)
    ∙ sym (div-div-eq-div-mul (a + 256 * x) 256 (256 ^ i))
    ∙ ap (λ (y : ℕ). y / 256 ^ i) cut in
    ap (λ (y : ℕ). y % 256) moved ∙ sym (byte_at-pow i x)

-- the bytes from the next place on are those of the number without its lowest byte
bytes_low_first-suc : (i n a x : ℕ) → a < 256 → bytes_low_first (suc i) n (a + 256 * x) ≡ bytes_low_first i n x
bytes_low_first-suc i zero a x h = refl
bytes_low_first-suc i (suc n) a x h = rw (byte_at-suc i a x h, bytes_low_first-suc (suc i) n a x h) refl

-- the bytes of the number of a field
bytes_low_first-little : (bytes : List ℕ) → AreBytes bytes → bytes_low_first 0 (length bytes) (little_from 0 (length bytes) bytes) ≡ bytes
bytes_low_first-little [] h = refl
bytes_low_first-little (a ∷ bytes) h =
    let first : a < 256 = h 0 in
    let others : AreBytes bytes = λ i. h (suc i) in
    let low : (a + 256 * little_from 0 (length bytes) bytes) % 256 ≡ a = omega arith in
    rw (little_from-cons 0 (length bytes) a bytes, low, bytes_low_first-suc 0 (length bytes) a (little_from 0 (length bytes) bytes) first, bytes_low_first-little bytes others) refl

-- the bytes of a field's number are the field
pub bytes_of-number_of : (bytes : List ℕ) → AreBytes bytes → bytes_of (length bytes) (number_of (length bytes) bytes) ≡ bytes
unfolding number_of bytes_of
bytes_of-number_of bytes h = bytes_low_first-little bytes h
