use Rattle.bk_machine.proofs.backup_laws.sets_hold_what_is_pending.Goals as goal
use Rattle.bk_machine.proofs.statements.Firsts.{first-begins, first-checkpoint, first-kept, first-pending}

pub returns-clause-checkpoint : goal.returns-clause-checkpoint
returns-clause-checkpoint c = first-checkpoint

pub returns-clause-begins : goal.returns-clause-begins
returns-clause-begins c = first-begins

pub returns-clause-pending : goal.returns-clause-pending
returns-clause-pending c = first-pending

pub returns-clause-keeps : goal.returns-clause-keeps
returns-clause-keeps c = first-kept
