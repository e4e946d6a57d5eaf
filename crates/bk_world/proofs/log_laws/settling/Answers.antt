use Rattle.bk_world.proofs.log_laws.settling.Goals as goal
use Rattle.bk_world.specs.SettledLaws.{nothing-pends, tells-same, settled-once}

pub returns-clause-nothing_pends : goal.returns-clause-nothing_pends
returns-clause-nothing_pends c = nothing-pends

pub returns-clause-tells : goal.returns-clause-tells
returns-clause-tells c = tells-same

pub returns-clause-again : goal.returns-clause-again
returns-clause-again c = settled-once
