use Rattle.bk_plans.specs.PlanLaws.{if-plan}
use Rattle.bk_planning.proofs.PlannedCheckpoint.{checkpoint-planned, checkpoint-refused}
use Rattle.bk_planning.proofs.checkpoint.plan_checkpoint.Goals as goal

pub returns-in-Ok-clause-plans : goal.returns-in-Ok-clause-plans
returns-in-Ok-clause-plans c =
    if-plan _ _ c.mark_plan.result
    (λ plan marks line.
    checkpoint-planned c.args.kept.now line c.args.now c.in-Ok.database.now plan marks c.statements_do_what_they_may.ensures.may c.in-Ok.ensures.check c.in-Ok.ensures.shows c.in-Ok.ensures.left)
    c.mark_plan.ensures.marks

pub returns-in-Err-clause-plans : goal.returns-in-Err-clause-plans
returns-in-Err-clause-plans c =
    if-plan _ _ c.refused.result
    (λ plan is line. checkpoint-refused c.args.kept.now line c.args.now c.in-Err.refusal plan is c.in-Err.ensures.check) c.refused.ensures.rule
