use Rattle.bk_hosted.proofs.Telling.{closing-tells, statement-tells}
use Rattle.bk_hosted.proofs.crash_laws.acts_tell_last.Goals as goal

pub returns-clause-statements : goal.returns-clause-statements
returns-clause-statements c = statement-tells

pub returns-clause-closings : goal.returns-clause-closings
returns-clause-closings c = closing-tells
