use Rattle.bk_machine.proofs.SameMedia.{media-ended, media-noted, media-opened, media-restarted, media-said, media-seated, media-set_drawn, media-turned, media-readied, media-job_set, media-jobs_dropped}
use Rattle.bk_machine.proofs.same_laws.media_that_stay.Goals as goal
use Rattle.bk_machine.specs.SettledLaws.{media-reflexive, media-symmetric, media-transitive}

pub returns-clause-reflexive : goal.returns-clause-reflexive
returns-clause-reflexive c = media-reflexive

pub returns-clause-symmetric : goal.returns-clause-symmetric
returns-clause-symmetric c = media-symmetric

pub returns-clause-transitive : goal.returns-clause-transitive
returns-clause-transitive c = media-transitive

pub returns-clause-turned : goal.returns-clause-turned
returns-clause-turned c = media-turned

pub returns-clause-seated : goal.returns-clause-seated
returns-clause-seated c = media-seated

pub returns-clause-readied : goal.returns-clause-readied
returns-clause-readied c = media-readied

pub returns-clause-job_set : goal.returns-clause-job_set
returns-clause-job_set c = media-job_set

pub returns-clause-jobs_dropped : goal.returns-clause-jobs_dropped
returns-clause-jobs_dropped c = media-jobs_dropped

pub returns-clause-set_drawn : goal.returns-clause-set_drawn
returns-clause-set_drawn c = media-set_drawn

pub returns-clause-noted : goal.returns-clause-noted
returns-clause-noted c = media-noted

pub returns-clause-said : goal.returns-clause-said
returns-clause-said c = media-said

pub returns-clause-opened : goal.returns-clause-opened
returns-clause-opened c = media-opened

pub returns-clause-ended : goal.returns-clause-ended
returns-clause-ended c = media-ended

pub returns-clause-restarted : goal.returns-clause-restarted
returns-clause-restarted c = media-restarted
