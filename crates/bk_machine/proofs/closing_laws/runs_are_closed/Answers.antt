use Rattle.bk_machine.proofs.Acting.{acts-sound}
use Rattle.bk_machine.proofs.Loads.{acts-built}
use Rattle.bk_machine.proofs.closing_laws.runs_are_closed.Goals as goal
use Rattle.bk_machine.proofs.statements.Closing.{closing-idle, closing-well}
use Rattle.bk_machine.proofs.statements.Counting.{closing-comes}

pub returns-clause-comes : goal.returns-clause-comes
returns-clause-comes c = closing-comes

pub returns-clause-may : goal.returns-clause-may
returns-clause-may c = λ w acts sound closing. (closing-well w acts closing sound).may

pub returns-clause-sound : goal.returns-clause-sound
returns-clause-sound c = λ w acts sound closing. acts-sound w acts sound (closing-well w acts closing sound).may

pub returns-clause-built : goal.returns-clause-built
returns-clause-built c = λ w acts sound built closing. acts-built w acts sound built (closing-well w acts closing sound).may ((closing-well w acts closing sound).plain built)

pub returns-clause-idle : goal.returns-clause-idle
returns-clause-idle c = λ w outcomes acts idle closing. closing-idle _ acts closing
