use Rattle.bk_fields.specs.Laws.{guid_form-IsCodec}
use Rattle.bk_fields.proofs.guid.guid_law.Goals as goal

pub returns : goal.returns
returns c = guid_form-IsCodec
