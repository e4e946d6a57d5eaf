use Rattle.bk_hosted.proofs.Acts.{hosts-based, hosts-checkpoint, hosts-created, hosts-drawn, hosts-dropped, hosts-ended, hosts-folded, hosts-job_set, hosts-jobs_dropped, hosts-medium, hosts-noted, hosts-opened, hosts-readied, hosts-row, hosts-said, hosts-sealed, hosts-seated, hosts-turned}
use Rattle.bk_hosted.proofs.Sayings.{hosts-saying, says-grows}
use Rattle.bk_hosted.proofs.act_laws.hosted_databases_follow_acts.Goals as goal

pub returns-clause-said : goal.returns-clause-said
returns-clause-said c = hosts-said c.acts_keep_what_is_read.ensures.act c.what_is_said_comes_last.ensures.log

pub returns-clause-front : goal.returns-clause-front
returns-clause-front c = hosts-saying

pub returns-clause-grows : goal.returns-clause-grows
returns-clause-grows c = says-grows

pub returns-clause-noted : goal.returns-clause-noted
returns-clause-noted c = hosts-noted

pub returns-clause-folded : goal.returns-clause-folded
returns-clause-folded c = hosts-folded

pub returns-clause-checkpoint : goal.returns-clause-checkpoint
returns-clause-checkpoint c = hosts-checkpoint c.acts_keep_what_is_read.ensures.act c.what_is_said_comes_last.ensures.log

pub returns-clause-based : goal.returns-clause-based
returns-clause-based c = hosts-based c.acts_keep_what_is_read.ensures.act

pub returns-clause-created : goal.returns-clause-created
returns-clause-created c = hosts-created c.acts_keep_what_is_read.ensures.act

pub returns-clause-dropped : goal.returns-clause-dropped
returns-clause-dropped c = hosts-dropped c.acts_keep_what_is_read.ensures.act

pub returns-clause-readied : goal.returns-clause-readied
returns-clause-readied c = hosts-readied

pub returns-clause-job_set : goal.returns-clause-job_set
returns-clause-job_set c = hosts-job_set

pub returns-clause-jobs_dropped : goal.returns-clause-jobs_dropped
returns-clause-jobs_dropped c = hosts-jobs_dropped

pub returns-clause-turned : goal.returns-clause-turned
returns-clause-turned c = hosts-turned

pub returns-clause-seated : goal.returns-clause-seated
returns-clause-seated c = hosts-seated

pub returns-clause-medium_made : goal.returns-clause-medium_made
returns-clause-medium_made c = hosts-medium

pub returns-clause-set_drawn : goal.returns-clause-set_drawn
returns-clause-set_drawn c = hosts-drawn

pub returns-clause-row_noted : goal.returns-clause-row_noted
returns-clause-row_noted c = hosts-row

pub returns-clause-set_sealed : goal.returns-clause-set_sealed
returns-clause-set_sealed c = hosts-sealed

pub returns-clause-opened : goal.returns-clause-opened
returns-clause-opened c = hosts-opened

pub returns-clause-ended : goal.returns-clause-ended
returns-clause-ended c = hosts-ended
