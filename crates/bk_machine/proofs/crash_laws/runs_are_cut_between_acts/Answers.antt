use Rattle.bk_machine.proofs.Between.{between-fronts, between-leaves, between-open, between-sound}
use Rattle.bk_machine.proofs.crash_laws.runs_are_cut_between_acts.Goals as goal
use Rattle.bk_machine.proofs.statements.Running.{runs-well}

pub returns-clause-sound : goal.returns-clause-sound
returns-clause-sound c = λ old statements moments outcomes done k sound run. between-sound old outcomes done k sound (runs-well old statements moments outcomes run)

pub returns-clause-leaves : goal.returns-clause-leaves
returns-clause-leaves c = λ old statements moments outcomes least done k counter sound run idle enough within no_less no_more.
    between-leaves old outcomes done k sound (runs-well old statements moments outcomes run) least counter idle enough within no_less no_more

pub returns-clause-fronts : goal.returns-clause-fronts
returns-clause-fronts c = λ old statements moments outcomes least done k counter kept sound run enough within fronts no_less no_more.
    between-fronts old outcomes done k sound (runs-well old statements moments outcomes run) least counter kept enough within fronts no_less no_more

pub returns-clause-open : goal.returns-clause-open
returns-clause-open c = λ old statements moments outcomes done k sound run. between-open old outcomes done k sound (runs-well old statements moments outcomes run)
