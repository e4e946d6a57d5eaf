use Rattle.bk_world.proofs.log_laws.logs_behind_a_crash.Goals as goal
use Rattle.bk_world.specs.CrashLaws.{left-tells, left-pends, left-counts, left-sound}

pub returns-clause-tells : goal.returns-clause-tells
returns-clause-tells c = left-tells

pub returns-clause-nothing_pends : goal.returns-clause-nothing_pends
returns-clause-nothing_pends c = left-pends

pub returns-clause-counts : goal.returns-clause-counts
returns-clause-counts c = left-counts

pub returns-clause-sound : goal.returns-clause-sound
returns-clause-sound c = left-sound
