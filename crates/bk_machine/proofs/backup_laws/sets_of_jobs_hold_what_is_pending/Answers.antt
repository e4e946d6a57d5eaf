use Rattle.bk_machine.proofs.backup_laws.sets_of_jobs_hold_what_is_pending.Goals as goal
use Rattle.bk_machine.proofs.statements.Job.{job-begins, job-first, job-kept, job-last, job-pending}

pub returns-clause-first : goal.returns-clause-first
returns-clause-first c = job-first

pub returns-clause-last : goal.returns-clause-last
returns-clause-last c = job-last

pub returns-clause-begins : goal.returns-clause-begins
returns-clause-begins c = job-begins

pub returns-clause-pending : goal.returns-clause-pending
returns-clause-pending c = job-pending

pub returns-clause-keeps : goal.returns-clause-keeps
returns-clause-keeps c = job-kept
