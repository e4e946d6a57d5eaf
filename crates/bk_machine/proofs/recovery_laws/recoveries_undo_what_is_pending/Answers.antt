use Rattle.bk_machine.proofs.Recovering.{recovers}
use Rattle.bk_machine.proofs.recovery_laws.recoveries_undo_what_is_pending.Goals as goal

pub returns : goal.returns
returns c = record { recovers = recovers }
