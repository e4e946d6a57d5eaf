use Rattle.std.proofs.lemmas.Result.{IfOk-weaker}
use Rattle.bk_executing.proofs.Planned.{wait-planned}
use Rattle.bk_executing.proofs.planning.plan_kept_wait.Goals as goal

pub returns-clause-plans : goal.returns-clause-plans
returns-clause-plans c = IfOk-weaker c.plan_wait.result _ _ (λ plan plans line. wait-planned c.in_ok-seen.seen c.args.engine.now c.args.sets _ c.args.now plan c.in_ok-seen.ensures.sees (plans line)) c.plan_wait.ensures.plans
