use Rattle.std.proofs.lemmas.Result.{IfOk-weaker}
use Rattle.bk_executing.proofs.Planned.{planned}
use Rattle.bk_executing.proofs.planning.plan_kept.Goals as goal

pub returns-clause-plans : goal.returns-clause-plans
returns-clause-plans c = IfOk-weaker c.plan_seen.result _ _ (λ plan plans plain. planned c.in_ok-seen.seen c.args.engine.now (λ w. Unit {0}) c.args.statement.now c.args.now plan c.in_ok-seen.ensures.sees (plans plain)) c.plan_seen.ensures.plans
