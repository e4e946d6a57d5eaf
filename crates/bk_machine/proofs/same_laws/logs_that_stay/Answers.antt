use Rattle.bk_machine.specs.SameLaws.{same-ended, same-on, same-opened}
use Rattle.bk_machine.proofs.Same.{same-idle, same-medium_added, same-medium_changed, same-medium_made, same-medium_removed, same-noted, same-reflexive, same-restarted, same-sealed, same-seated, same-set_drawn, same-standby_removed, same-turned, same-readied}
use Rattle.bk_machine.proofs.same_laws.logs_that_stay.Goals as goal

pub returns-clause-reflexive : goal.returns-clause-reflexive
returns-clause-reflexive c = same-reflexive

pub returns-clause-transitive : goal.returns-clause-transitive
returns-clause-transitive c = same-on

pub returns-clause-idle : goal.returns-clause-idle
returns-clause-idle c = same-idle

pub returns-clause-turned : goal.returns-clause-turned
returns-clause-turned c = same-turned

pub returns-clause-readied : goal.returns-clause-readied
returns-clause-readied c = same-readied

pub returns-clause-medium_made : goal.returns-clause-medium_made
returns-clause-medium_made c = same-medium_made

pub returns-clause-set_drawn : goal.returns-clause-set_drawn
returns-clause-set_drawn c = same-set_drawn

pub returns-clause-noted : goal.returns-clause-noted
returns-clause-noted c = same-noted

pub returns-clause-set_sealed : goal.returns-clause-set_sealed
returns-clause-set_sealed c = same-sealed

pub returns-clause-opened : goal.returns-clause-opened
returns-clause-opened c = same-opened

pub returns-clause-ended : goal.returns-clause-ended
returns-clause-ended c = same-ended

pub returns-clause-restarted : goal.returns-clause-restarted
returns-clause-restarted c = same-restarted

pub returns-clause-medium_removed : goal.returns-clause-medium_removed
returns-clause-medium_removed c = same-medium_removed

pub returns-clause-standby_removed : goal.returns-clause-standby_removed
returns-clause-standby_removed c = same-standby_removed

pub returns-clause-medium_changed : goal.returns-clause-medium_changed
returns-clause-medium_changed c = same-medium_changed

pub returns-clause-medium_added : goal.returns-clause-medium_added
returns-clause-medium_added c = same-medium_added

pub returns-clause-seated : goal.returns-clause-seated
returns-clause-seated c = same-seated
