use Rattle.bk_machine.proofs.Sets.{set-counts, set-done, set-done-all, set-ended, set-event, set-grown, set-happened, set-opened, set-restarted, set-sound}
use Rattle.bk_machine.proofs.set_laws.sets_that_stay.Goals as goal

pub returns-clause-sound : goal.returns-clause-sound
returns-clause-sound c = set-sound

pub returns-clause-counts : goal.returns-clause-counts
returns-clause-counts c = set-counts

pub returns-clause-grown : goal.returns-clause-grown
returns-clause-grown c = set-grown

pub returns-clause-act : goal.returns-clause-act
returns-clause-act c = set-done

pub returns-clause-acts : goal.returns-clause-acts
returns-clause-acts c = set-done-all

pub returns-clause-event : goal.returns-clause-event
returns-clause-event c = set-event

pub returns-clause-events : goal.returns-clause-events
returns-clause-events c = set-happened

pub returns-clause-opened : goal.returns-clause-opened
returns-clause-opened c = set-opened

pub returns-clause-ended : goal.returns-clause-ended
returns-clause-ended c = set-ended

pub returns-clause-restarted : goal.returns-clause-restarted
returns-clause-restarted c = set-restarted
