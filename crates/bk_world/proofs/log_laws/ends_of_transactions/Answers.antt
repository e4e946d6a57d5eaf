use Rattle.bk_world.proofs.log_laws.ends_of_transactions.Goals as goal
use Rattle.bk_world.specs.ReadingLaws.{rows-commit, entries-rollback, pending-rollback}

pub returns-clause-commit : goal.returns-clause-commit
returns-clause-commit c = rows-commit

pub returns-clause-rollback : goal.returns-clause-rollback
returns-clause-rollback c = entries-rollback

pub returns-clause-others : goal.returns-clause-others
returns-clause-others c = pending-rollback
