use Rattle.bk_plans.specs.PlanLaws.{if-plan}
use Rattle.bk_planning.proofs.PlannedJob.{step-planned, step-refused}
use Rattle.bk_planning.proofs.job.plan_step.Goals as goal

pub returns-in-Ok-clause-plans : goal.returns-in-Ok-clause-plans
returns-in-Ok-clause-plans c =
    let r = c.in-Ok.running in
    if-plan _ _ c.step.result
    (λ plan is line now. step-planned c.args.kept.now line now c.args.count c.statements_do_what_they_may.ensures.may r.database.now r.job.now c.in-Ok.ensures.check plan is)
    c.step.ensures.steps

pub returns-in-Err-clause-plans : goal.returns-in-Err-clause-plans
returns-in-Err-clause-plans c =
    if-plan _ _ c.refused.result (λ plan is line now. step-refused c.args.kept.now line now c.args.count c.in-Err.refusal plan is c.in-Err.ensures.check) c.refused.ensures.rule
