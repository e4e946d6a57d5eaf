-- A text is a list of bytes.
use Rattle.std.proofs.Common.{◌≡◌, ◌<◌, ◌≤◌, ◌+◌, ◌/◌, ◌%◌, ◌⊎◌, inl, inr, ℕ, zero, suc, Bool, true, false, cond, List, [], ◌∷◌, ◌++◌, ltb, refl, subst, arith, lit<}
use Rattle.std.specs.Str.{IsUtf8}
use Rattle.std.proofs.Math.Utf8.{scalar, scalars, scalar_cases, encode, encodes}
use Rattle.std.proofs.lemmas.Bool.{and_parts}
use Rattle.std.proofs.lemmas.Bool.Decides.{nat_tests}
use Rattle.bk_bytes.specs.Field.{AreBytes}

no_bytes : AreBytes []
no_bytes i = lit< tt

one_byte : (b : ℕ) (bs : List ℕ) → b < 256 → AreBytes bs → AreBytes (b ∷ bs)
one_byte b bs small rest zero = small
one_byte b bs small rest (suc i) = rest i

next_byte : (x : ℕ) → 128 + x % 64 < 256
next_byte x = omega arith

below : (c : ℕ) → scalar c ≡ true → c < 1114112
below c is = by (scalar_cases c is)
  where
    by : (c < 55296) ⊎ ((57344 ≤ c) × (c < 1114112)) → c < 1114112
    by (inl low) = omega arith
    by (inr high) = high.1

character-bytes : (c : ℕ) (bs : List ℕ) → scalar c ≡ true → AreBytes bs → AreBytes (encode c ++ bs)
unfolding encode
character-bytes c bs is rest = by (ltb c 128) (ltb c 2048) (ltb c 65536) refl refl refl
  where
    by : (s t u : Bool) → ltb c 128 ≡ s → ltb c 2048 ≡ t → ltb c 65536 ≡ u
        → AreBytes (cond s (c ∷ []) (cond t ((192 + c / 64) ∷ (128 + c % 64) ∷ []) (cond u ((224 + c / 4096) ∷ (128 + (c / 64) % 64) ∷ (128 + c % 64) ∷ []) ((240 + c / 262144) ∷ (128 + (c / 4096) % 64) ∷ (128 + (c / 64) % 64) ∷ (128 + c % 64) ∷ []))) ++ bs)
    by true t u p q r =
        let small : c < 128 = grind (arith, nat_tests, p) in
        one_byte c bs (omega (arith, small)) rest
    by false true u p q r =
        let small : c < 2048 = grind (arith, nat_tests, q) in
        one_byte (192 + c / 64) ((128 + c % 64) ∷ bs) (omega (arith, small)) (one_byte (128 + c % 64) bs (next_byte c) rest)
    by false false true p q r =
        let small : c < 65536 = grind (arith, nat_tests, r) in
        one_byte (224 + c / 4096) ((128 + (c / 64) % 64) ∷ (128 + c % 64) ∷ bs) (omega (arith, small))
        (one_byte (128 + (c / 64) % 64) ((128 + c % 64) ∷ bs) (next_byte (c / 64)) (one_byte (128 + c % 64) bs (next_byte c) rest))
    by false false false p q r =
        one_byte (240 + c / 262144) ((128 + (c / 4096) % 64) ∷ (128 + (c / 64) % 64) ∷ (128 + c % 64) ∷ bs) (omega (arith, below c is))
        (one_byte (128 + (c / 4096) % 64) ((128 + (c / 64) % 64) ∷ (128 + c % 64) ∷ bs) (next_byte (c / 4096))
        (one_byte (128 + (c / 64) % 64) ((128 + c % 64) ∷ bs) (next_byte (c / 64)) (one_byte (128 + c % 64) bs (next_byte c) rest)))

characters-bytes : (cs : List ℕ) → scalars cs ≡ true → AreBytes (encodes cs)
characters-bytes [] is = no_bytes
characters-bytes (c ∷ cs) is = let parts = and_parts (scalar c) (scalars cs) is in character-bytes c (encodes cs) parts.0 (characters-bytes cs parts.1)

pub text-bytes : (text : List ℕ) → IsUtf8 text → AreBytes text
text-bytes text is = subst AreBytes is.1.1 (characters-bytes is.0 is.1.0)
