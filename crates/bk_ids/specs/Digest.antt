-- The text of a digest.
use Rattle.std.specs.Prelude.{ℕ, List}
use Rattle.hex.specs.Hex.{encode_lower}
use Rattle.bk_ids.specs.declared.digest.Digest.{Digest}

-- two lower-case hexadecimal digits a byte
abbrev pub digest_text : Digest → List ℕ
digest_text digest = encode_lower digest.bytes
