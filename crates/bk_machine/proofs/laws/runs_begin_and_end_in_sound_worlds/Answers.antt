use Rattle.bk_machine.proofs.Opened.{idle-ended, idle-opened, sound-ended, sound-opened}
use Rattle.bk_machine.proofs.laws.runs_begin_and_end_in_sound_worlds.Goals as goal

pub returns-clause-begins : goal.returns-clause-begins
returns-clause-begins c = sound-opened

pub returns-clause-ends : goal.returns-clause-ends
returns-clause-ends c = sound-ended

pub returns-clause-begins_idle : goal.returns-clause-begins_idle
returns-clause-begins_idle c = idle-opened

pub returns-clause-ends_idle : goal.returns-clause-ends_idle
returns-clause-ends_idle c = idle-ended
