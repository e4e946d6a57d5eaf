use Rattle.bk_plans.specs.PlanLaws.{if-plan}
use Rattle.bk_planning.proofs.PlannedEnds.{rollback-planned, rollback-refused}
use Rattle.bk_planning.proofs.rollback.plan_rollback.Goals as goal

pub returns-in_ok-act-in-Ok-clause-plans : goal.returns-in_ok-act-in-Ok-clause-plans
returns-in_ok-act-in-Ok-clause-plans c =
    if-plan _ _ c.stored.result
    (λ plan one line now.
    rollback-planned c.args.kept.now line now c.in-Ok.held c.in-Ok.ensures.check (c.in-Ok.ensures.shows c.requires) c.statements_do_what_they_may.ensures.may c.in_ok-act-in-Ok.act plan one c.in_ok-act-in-Ok.ensures.says)
    c.stored.ensures.one

pub returns-in-Err-clause-plans : goal.returns-in-Err-clause-plans
returns-in-Err-clause-plans c =
    if-plan _ _ c.refused.result (λ plan is line now. rollback-refused c.args.kept.now line now c.in-Err.refusal plan is c.in-Err.ensures.check) c.refused.ensures.rule
