use Rattle.bk_machine.proofs.Opened.{idle-restarted, sound-restarted, whole-restarted}
use Rattle.bk_machine.proofs.laws.restarts_keep_worlds_sound.Goals as goal

pub returns-clause-sound : goal.returns-clause-sound
returns-clause-sound c = sound-restarted

pub returns-clause-whole : goal.returns-clause-whole
returns-clause-whole c = whole-restarted

pub returns-clause-idle : goal.returns-clause-idle
returns-clause-idle c = idle-restarted
