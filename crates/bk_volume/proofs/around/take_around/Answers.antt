use Rattle.std.proofs.Common.{ap, ◌∙◌}
use Rattle.bk_body.specs.Spelling.{front_bytes}
use Rattle.bk_bytes.specs.Field.{bytes_of}
use Rattle.bk_volume.proofs.around.take_around.Goals as goal

pub returns-clause-front : goal.returns-clause-front
returns-clause-front c = c.in_ok-front.ensures.bytes ∙ ap (front_bytes c.args.header.now c.args.tables.now) c.extents.ensures

pub returns-clause-size : goal.returns-clause-size
returns-clause-size c = c.in_ok-size.ensures ∙ ap (bytes_of 8) c.log_len.ensures.value
