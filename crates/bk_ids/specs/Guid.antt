-- The text of a GUID.
use Rattle.std.specs.Prelude.{ℕ, ◌+◌, ◌*◌, ◌^◌, List}
use Rattle.std.specs.Int.{to_be_bytes, w128}
use Rattle.uuid.specs.Text.{hyphenated_text, lower}
use Rattle.bk_ids.specs.declared.guid.Guid.{Guid}

-- its sixteen bytes, the high number first, hyphenated in lower case
abbrev pub guid_text : Guid → List ℕ
guid_text guid = hyphenated_text lower (to_be_bytes w128 (guid.high * 2 ^ 64 + guid.low))
