use Rattle.bk_machine.proofs.Happened.{event-sound, events-idle, events-sound}
use Rattle.bk_machine.proofs.Lasting.{events-closed, events-grow, events-logs}
use Rattle.bk_machine.proofs.event_laws.events_keep_worlds_sound.Goals as goal

pub returns-clause-one : goal.returns-clause-one
returns-clause-one c = event-sound

pub returns-clause-many : goal.returns-clause-many
returns-clause-many c = events-sound

pub returns-clause-idle : goal.returns-clause-idle
returns-clause-idle c = events-idle

pub returns-clause-closed : goal.returns-clause-closed
returns-clause-closed c = events-closed

pub returns-clause-grows : goal.returns-clause-grows
returns-clause-grows c = events-grow

pub returns-clause-logs : goal.returns-clause-logs
returns-clause-logs c = events-logs
