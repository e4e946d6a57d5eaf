use Rattle.bk_machine.proofs.SettledSteps.{settle-needs}
use Rattle.bk_machine.specs.SettledLaws.{needs-closed, needs-pends, needs-up}
use Rattle.bk_machine.proofs.settling_laws.settling_ends.Goals as goal

pub returns-clause-needs : goal.returns-clause-needs
returns-clause-needs c = needs-up

pub returns-clause-closed : goal.returns-clause-closed
returns-clause-closed c = needs-closed

pub returns-clause-nothing_pends : goal.returns-clause-nothing_pends
returns-clause-nothing_pends c = needs-pends

pub returns-clause-settled : goal.returns-clause-settled
returns-clause-settled c = settle-needs
