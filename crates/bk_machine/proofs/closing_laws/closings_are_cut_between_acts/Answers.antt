use Rattle.bk_machine.proofs.Between.{between-fronts, between-leaves, between-open, between-sound}
use Rattle.bk_machine.proofs.closing_laws.closings_are_cut_between_acts.Goals as goal
use Rattle.bk_machine.proofs.statements.Closing.{closed-well}

pub returns-clause-sound : goal.returns-clause-sound
returns-clause-sound c = λ old statements moments outcomes acts done k sound run closing. between-sound old _ done k sound (closed-well old statements moments outcomes acts run closing)

pub returns-clause-leaves : goal.returns-clause-leaves
returns-clause-leaves c = λ old statements moments outcomes acts least done k counter sound run closing idle enough within no_less no_more.
    between-leaves old _ done k sound (closed-well old statements moments outcomes acts run closing) least counter idle enough within no_less no_more

pub returns-clause-fronts : goal.returns-clause-fronts
returns-clause-fronts c = λ old statements moments outcomes acts least done k counter kept sound run closing enough within fronts no_less no_more.
    between-fronts old _ done k sound (closed-well old statements moments outcomes acts run closing) least counter kept enough within fronts no_less no_more

pub returns-clause-open : goal.returns-clause-open
returns-clause-open c = λ old statements moments outcomes acts done k sound run closing. between-open old _ done k sound (closed-well old statements moments outcomes acts run closing)
