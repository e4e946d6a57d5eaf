use Rattle.bk_machine.proofs.RunsBuilt.{run-comes}
use Rattle.bk_machine.proofs.statements.Each.{statement-comes}
use Rattle.bk_machine.proofs.progress_laws.statements_come_to_outcomes.Goals as goal

pub returns-clause-statement : goal.returns-clause-statement
returns-clause-statement c = λ w s now sound built. statement-comes w sound built s now

pub returns-clause-run : goal.returns-clause-run
returns-clause-run c = run-comes
