-- The 16 bytes of a GUID.
use Rattle.std.specs.Prelude.{ℕ, ◌+◌, ◌*◌, ◌/◌, ◌%◌, ◌^◌, ◌<◌, List, Some}
use Rattle.bk_ids.specs.declared.guid.Guid.{Guid}
use Rattle.bk_bytes.specs.Field.{bytes_of}
use Rattle.bk_bytes.specs.Codec.{Codec, number, converted}

-- one number of 128 bits, whose upper half is the high one
abbrev pub guid_number : Guid → ℕ
guid_number guid = guid.high * 2 ^ 64 + guid.low

abbrev pub guid_bytes : Guid → List ℕ
guid_bytes guid = bytes_of 16 (guid_number guid)

-- both halves have 64 bits
pub record IsGuid (guid : Guid) : Type 0 where
  pub high : guid.high < 2 ^ 64
  pub low : guid.low < 2 ^ 64

unfoldable pub guid_form : Codec Guid
guid_form = converted (number 16) (λ n. Some (record { high = n / 2 ^ 64; low = n % 2 ^ 64 })) guid_number IsGuid
