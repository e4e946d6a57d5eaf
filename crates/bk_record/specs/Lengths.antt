-- How many bytes the fields of a log record have.
use Rattle.std.specs.Prelude.{ℕ, ◌+◌, ◌*◌, length, Option, Some, None}
use Rattle.bk_ids.specs.declared.record.Mark.{Mark}
use Rattle.bk_ids.specs.declared.record.Body.{Body}
use Rattle.bk_ids.specs.declared.record.Body.TheVariants.{Database, Table, Begin, Write, Commit, RollbackEnd, Compensation, Checkpoint, Stamp, Model, Bulk, Recovery}
use Rattle.bk_record.specs.Spelling.{description_of}

abbrev pub mark_length : Option Mark → ℕ
mark_length None = 4
mark_length (Some mark) = 4 + length mark.name + length (description_of mark.description)

-- the fields of a kind
abbrev pub body_length : Body → ℕ
body_length (Database time family branch) = 40
body_length (Table time number name group) = 15 + length name
body_length Begin = 0
body_length (Write place before after) = 264
body_length (Commit time mark) = 8 + mark_length mark
body_length RollbackEnd = 0
body_length (Compensation place cell undone) = 144
body_length (Checkpoint time) = 8
body_length (Stamp time set) = 24
body_length (Model time model) = 9
body_length (Bulk table first count value extents) = 22 + length value + 6 * length extents
body_length (Recovery branch) = 16
