use Rattle.bk_machine.proofs.Between.{front-sound}
use Rattle.bk_machine.proofs.statements.Idling.{idle-done}
use Rattle.bk_machine.proofs.statement_laws.acts_of_statements.Goals as goal

pub returns-clause-fronts : goal.returns-clause-fronts
returns-clause-fronts c = front-sound

pub returns-clause-idle : goal.returns-clause-idle
returns-clause-idle c = λ w act sound idle may leaves. idle-done w act idle leaves
