use Rattle.bk_machine.proofs.statement_laws.statements_do_what_they_may.Goals as goal
use Rattle.bk_machine.proofs.statements.Each.{statement-does}
use Rattle.bk_machine.proofs.statements.Running.{sound-behind}

pub returns-clause-may : goal.returns-clause-may
returns-clause-may c = λ w s now outcome sound may. statement-does w sound s now outcome may

pub returns-clause-sound : goal.returns-clause-sound
returns-clause-sound c = sound-behind
