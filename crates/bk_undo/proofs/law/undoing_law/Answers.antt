use Rattle.bk_undo.proofs.Limits.{undoing_limits, undoing_spelled, undoing_few, log_long}
use Rattle.bk_undo.proofs.law.undoing_law.Goals as goal

pub returns : goal.returns
returns c = record { limits = undoing_limits; spelled = undoing_spelled; no_longer = undoing_few; few = log_long }
