use Rattle.bk_machine.proofs.Loads.{act-built, acts-built}
use Rattle.bk_machine.proofs.built_laws.acts_keep_worlds_built.Goals as goal

pub returns-clause-act : goal.returns-clause-act
returns-clause-act c = λ w act sound built may none. act-built w sound built act may none

pub returns-clause-acts : goal.returns-clause-acts
returns-clause-acts c = acts-built
