use Rattle.bk_bytes.specs.FieldLaws.{number_of-bytes_of, bytes_of-number_of, number_of-lt}
use Rattle.bk_bytes.proofs.field.field_law.Goals as goal

pub returns : goal.returns
returns c = record { number = number_of-bytes_of; field = bytes_of-number_of; range = number_of-lt }
