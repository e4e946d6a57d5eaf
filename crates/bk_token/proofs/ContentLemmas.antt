-- Bytes as texts.
use Rattle.std.proofs.Common.{◌≡◌, ℕ, false, List, IsUtf8, Some, None, refl}
use Rattle.std.proofs.lemmas.Str.{IsUtf8-from_is_utf8, is_utf8-from_IsUtf8}
use Rattle.std.proofs.lemmas.Bool.{false_from_ne_true}
use Rattle.std.specs.Str.{is_utf8}
use Rattle.bk_token.specs.Contents.{as_text}

pub as_text-valid : (bytes : List ℕ) → IsUtf8 bytes → as_text bytes ≡ Some bytes
as_text-valid bytes valid = rw (is_utf8-from_IsUtf8 bytes valid) refl

pub as_text-invalid : (bytes : List ℕ) → (IsUtf8 bytes → ⊥) → as_text bytes ≡ None
as_text-invalid bytes invalid = let test : is_utf8 bytes ≡ false = false_from_ne_true _ (λ e. invalid (IsUtf8-from_is_utf8 bytes e)) in rw test refl
