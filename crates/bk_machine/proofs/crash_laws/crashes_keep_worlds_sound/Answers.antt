use Rattle.bk_machine.proofs.Crashed.{crash-idle, crash-reads, crash-sound, crash-tells}
use Rattle.bk_machine.proofs.crash_laws.crashes_keep_worlds_sound.Goals as goal

pub returns-clause-sound : goal.returns-clause-sound
returns-clause-sound c = λ before whole cut left is l. crash-sound before whole cut left l is

pub returns-clause-idle : goal.returns-clause-idle
returns-clause-idle c = crash-idle

pub returns-clause-tells : goal.returns-clause-tells
returns-clause-tells c = crash-tells

pub returns-clause-sets : goal.returns-clause-sets
returns-clause-sets c = λ before whole cut left is l. crash-reads before whole cut left l is
