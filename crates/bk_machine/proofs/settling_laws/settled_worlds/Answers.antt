use Rattle.bk_machine.specs.SettledLaws.{settled-before, settled-behind, settled-ended, settled-idle, settled-leaves-idle, settled-opened, settled-restarted}
use Rattle.bk_machine.proofs.Settled.{settled-dropped}
use Rattle.bk_machine.proofs.settling_laws.settled_worlds.Goals as goal

pub returns-clause-idle : goal.returns-clause-idle
returns-clause-idle c = settled-idle

pub returns-clause-ended : goal.returns-clause-ended
returns-clause-ended c = settled-ended

pub returns-clause-before : goal.returns-clause-before
returns-clause-before c = settled-before

pub returns-clause-behind : goal.returns-clause-behind
returns-clause-behind c = settled-behind

pub returns-clause-opened : goal.returns-clause-opened
returns-clause-opened c = settled-opened

pub returns-clause-restarted : goal.returns-clause-restarted
returns-clause-restarted c = settled-restarted

pub returns-clause-leaves_idle : goal.returns-clause-leaves_idle
returns-clause-leaves_idle c = settled-leaves-idle

pub returns-clause-dropped : goal.returns-clause-dropped
returns-clause-dropped c = settled-dropped
