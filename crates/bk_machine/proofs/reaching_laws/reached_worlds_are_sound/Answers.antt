use Rattle.bk_machine.proofs.Reaching.{reached-calm}
use Rattle.bk_machine.proofs.reaching_laws.reached_worlds_are_sound.Goals as goal

pub returns-clause-sound : goal.returns-clause-sound
returns-clause-sound c = λ w reached. (reached-calm w reached).sound

pub returns-clause-idle : goal.returns-clause-idle
returns-clause-idle c = λ w reached. (reached-calm w reached).idle
