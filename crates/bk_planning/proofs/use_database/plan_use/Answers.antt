use Rattle.std.specs.Option.{option_map}
use Rattle.bk_plans.specs.PlanLaws.{if-plan}
use Rattle.bk_planning.proofs.PlannedUse.{use-refused, use-turned}
use Rattle.bk_planning.proofs.use_database.plan_use.Goals as goal

pub returns-in_ok-name-in-Ok-clause-plans : goal.returns-in_ok-name-in-Ok-clause-plans
returns-in_ok-name-in-Ok-clause-plans c = λ line now.
    use-turned c.args.kept.now line now c.args.name.now (option_map (λ n. n.now) c.in-Ok.found) c.in_ok-name-in-Ok.name c.in_ok-name-in-Ok.ensures c.in-Ok.ensures

pub returns-in-Err-clause-plans : goal.returns-in-Err-clause-plans
returns-in-Err-clause-plans c =
    if-plan _ _ c.refused.result
    (λ plan is line now. use-refused c.args.kept.now line now c.args.name.now c.in-Err.refusal plan is c.in-Err.ensures) c.refused.ensures.rule
