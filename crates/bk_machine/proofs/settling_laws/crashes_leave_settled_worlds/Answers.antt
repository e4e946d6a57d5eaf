use Rattle.bk_machine.proofs.Between.{between-settled}
use Rattle.bk_machine.proofs.Settled.{crash-settles}
use Rattle.bk_machine.proofs.statements.Closing.{closed-well}
use Rattle.bk_machine.proofs.statements.Running.{runs-well}
use Rattle.bk_machine.proofs.settling_laws.crashes_leave_settled_worlds.Goals as goal

pub returns-clause-crash : goal.returns-clause-crash
returns-clause-crash c = crash-settles

pub returns-clause-runs : goal.returns-clause-runs
returns-clause-runs c = λ old statements moments outcomes least done k counter sound run enough within no_less no_more.
    between-settled old outcomes done k sound (runs-well old statements moments outcomes run) least counter enough within no_less no_more

pub returns-clause-closings : goal.returns-clause-closings
returns-clause-closings c = λ old statements moments outcomes acts least done k counter sound run closing enough within no_less no_more.
    between-settled old _ done k sound (closed-well old statements moments outcomes acts run closing) least counter enough within no_less no_more
