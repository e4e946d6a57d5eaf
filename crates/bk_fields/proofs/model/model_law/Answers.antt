use Rattle.bk_fields.specs.Laws.{model_form-IsCodec}
use Rattle.bk_fields.proofs.model.model_law.Goals as goal

pub returns : goal.returns
returns c = model_form-IsCodec
