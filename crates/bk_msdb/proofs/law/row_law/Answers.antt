use Rattle.bk_msdb.proofs.Forms.{row_form-IsCodec}
use Rattle.bk_msdb.proofs.law.row_law.Goals as goal

pub returns : goal.returns
returns c = row_form-IsCodec
