use Rattle.std.proofs.Common.{refl}
use Rattle.bk_planning.proofs.PlannedJob.{start-planned}
use Rattle.bk_planning.proofs.job.plan_start.Goals as goal

pub returns-clause-plans : goal.returns-clause-plans
returns-clause-plans c = λ line now. start-planned c.args.kept.now line now _ (c.new-parts.ensures.items, refl, refl)
