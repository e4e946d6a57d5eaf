-- The device's names of media and of sets that are being written.
use Rattle.std.specs.Prelude.{ℕ, List, ◌∷◌, get_or}
use Rattle.hex.specs.Hex.{encode_lower}
use Rattle.std.specs.Int.{to_be_bytes, w128}
use Rattle.bk_fields.specs.Guids.{guid_number}
use Rattle.bk_ids.specs.declared.guid.Guid.{Guid}

-- the file of the medium at a path: m- and the path's bytes in lower-case hexadecimal
unfoldable pub medium_file : List ℕ → List ℕ
medium_file path = 109 ∷ 45 ∷ encode_lower path

-- the file in which the extents and the log of a set lie until it is sealed: t- and the set's GUID in 32 hexadecimal digits
unfoldable pub staging_file : Guid → List ℕ
staging_file set = 116 ∷ 45 ∷ encode_lower (to_be_bytes w128 (guid_number set))

-- the first letter of a name
abbrev pub letter : List ℕ → ℕ
letter name = get_or name 0 0
