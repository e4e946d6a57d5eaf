use Rattle.std.proofs.Common.{Ok}
use Rattle.bk_device.specs.declared.trouble.Trouble.{Trouble}
use Rattle.bk_executing.proofs.Planned.{restore-planned}
use Rattle.bk_executing.proofs.planning.plan_kept_restore.Goals as goal

pub returns-in-Ok-clause-plans : goal.returns-in-Ok-clause-plans
returns-in-Ok-clause-plans c = restore-planned {E = Trouble} c.in_ok-seen.seen c.args.engine.now _ c.args.options.now _ _ c.args.now (Ok c.in-Ok.plan) c.in_ok-seen.ensures.sees c.in-Ok.ensures.plans
