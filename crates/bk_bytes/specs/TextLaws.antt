-- When a text of UTF-8 is read, and when a list of bytes is all zero.
use Rattle.std.proofs.Common.{◌≡◌, ℕ, Bool, true, false, eqb, leb, List, [], ◌∷◌, length, replicate, zero, suc, Some, None, refl}
use Rattle.std.specs.Prelude.{◌&&◌}
use Rattle.std.specs.List.{list_all}
use Rattle.std.specs.Str.{IsUtf8, is_utf8}
use Rattle.std.proofs.lemmas.Bool.{leb-true, le-leb, and_parts, and_from, and_right, eqb-true}
use Rattle.std.proofs.lemmas.Str.{IsUtf8-from_is_utf8, is_utf8-from_IsUtf8}
use Rattle.bk_bytes.specs.Codec.{text_at, string_at, IsString}

-- the test that a text of UTF-8 passes
abbrev pub is_string : ℕ → ℕ → List ℕ → Bool
is_string least most text = leb least (length text) && leb (length text) most && is_utf8 text

pub is_string-true : (least most : ℕ) (text : List ℕ) → is_string least most text ≡ true → IsString least most text
is_string-true least most text e =
    let a = and_parts (leb least (length text) && leb (length text) most) (is_utf8 text) e in
    let b = and_parts (leb least (length text)) (leb (length text) most) a.0 in
    record { least_bytes = leb-true _ _ b.0; most_bytes = leb-true _ _ b.1; utf8 = IsUtf8-from_is_utf8 text a.1 }

pub is_string-from : (least most : ℕ) (text : List ℕ) → IsString least most text → is_string least most text ≡ true
is_string-from least most text h =
    and_from _ _ (and_from _ _ (le-leb _ _ h.least_bytes) (le-leb _ _ h.most_bytes)) (is_utf8-from_IsUtf8 text h.utf8)

-- a text of UTF-8 is read
pub string_at-some : (least most : ℕ) (bytes text rest : List ℕ) → text_at 2 bytes ≡ Some (text, rest) → IsString least most text
    → string_at least most bytes ≡ Some (text, rest)
unfolding string_at
string_at-some least most bytes text rest read h = rw (read, is_string-from least most text h) refl

-- a text that isn't UTF-8 is not read
pub string_at-none : (least most : ℕ) (bytes text rest : List ℕ) → text_at 2 bytes ≡ Some (text, rest) → (IsUtf8 text → ⊥)
    → string_at least most bytes ≡ None
unfolding string_at
string_at-none least most bytes text rest read h = rw (read, and_right (leb least (length text) && leb (length text) most) (is_utf8 text) (not_utf8 (is_utf8 text) refl)) refl
  where
    not_utf8 : (b : Bool) → is_utf8 text ≡ b → is_utf8 text ≡ false
    not_utf8 true e = absurd (h (IsUtf8-from_is_utf8 text e))
    not_utf8 false e = e

-- bytes that are all zero
pub list_all-zero : (bytes : List ℕ) → list_all (λ b. eqb b 0) bytes ≡ true → bytes ≡ replicate (length bytes) 0
list_all-zero [] e = refl
list_all-zero (b ∷ bytes) e =
    let parts = and_parts (eqb b 0) (list_all (λ x. eqb x 0) bytes) e in
    rw (eqb-true b 0 parts.0, ← list_all-zero bytes parts.1) refl

pub list_all-zeros : (n : ℕ) → list_all (λ b. eqb b 0) (replicate n 0) ≡ true
list_all-zeros zero = refl
list_all-zeros (suc n) = list_all-zeros n
