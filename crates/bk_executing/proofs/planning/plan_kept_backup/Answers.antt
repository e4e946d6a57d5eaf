use Rattle.std.proofs.Common.{rules}
use Rattle.bk_executing.proofs.Planned.{planned}
use Rattle.bk_executing.proofs.planning.plan_kept_backup.Goals as goal

pub returns-in-Ok-clause-plans : goal.returns-in-Ok-clause-plans
returns-in-Ok-clause-plans c = planned c.in_ok-seen.seen c.args.engine.now _ _ c.args.now c.in-Ok.plan c.in_ok-seen.ensures.sees c.in-Ok.ensures.plans

pub returns-in-Err-Unfit-clause-broken : goal.returns-in-Err-Unfit-clause-broken
returns-in-Err-Unfit-clause-broken c = λ is w sound has known. c.in-Err-Unfit.ensures.unfit (search rules) w sound (c.in_ok-seen.ensures.sees w has) known
