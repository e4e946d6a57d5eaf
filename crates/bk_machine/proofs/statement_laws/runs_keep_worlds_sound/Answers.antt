use Rattle.bk_machine.proofs.Crashed.{crash-idle}
use Rattle.bk_machine.proofs.statement_laws.runs_keep_worlds_sound.Goals as goal
use Rattle.bk_machine.proofs.statements.Leaving.{left-sound}
use Rattle.bk_machine.proofs.statements.Running.{runs-well, sound-run}

pub returns-clause-run : goal.returns-clause-run
returns-clause-run c = sound-run

pub returns-clause-crash : goal.returns-clause-crash
returns-clause-crash c = λ old statements moments outcomes least left sound run leaves. left-sound old outcomes least left sound (runs-well old statements moments outcomes run) leaves

pub returns-clause-crash_idle : goal.returns-clause-crash_idle
returns-clause-crash_idle c = λ old outcomes least left l. crash-idle l.before l.whole l.cut left l.world
