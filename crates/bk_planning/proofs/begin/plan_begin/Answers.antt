use Rattle.bk_plans.specs.PlanLaws.{if-plan}
use Rattle.bk_planning.proofs.PlannedBegin.{begin-done, begin-refused}
use Rattle.bk_planning.proofs.begin.plan_begin.Goals as goal

pub returns-in_ok-act-in-Ok-clause-plans : goal.returns-in_ok-act-in-Ok-clause-plans
returns-in_ok-act-in-Ok-clause-plans c =
    if-plan _ _ c.stored.result
    (λ plan one now.
    begin-done c.args.kept.now c.args.line now c.args.transaction.now c.in-Ok.database.now c.in_ok-mark-in-Ok.mark c.in_ok-act-in-Ok.act plan c.in_ok-mark-in-Ok.ensures one c.in_ok-act-in-Ok.ensures.says
    c.statements_do_what_they_may.ensures.may c.in-Ok.ensures.check c.in-Ok.ensures.shows c.in-Ok.ensures.left)
    c.stored.ensures.one

pub returns-in-Err-clause-plans : goal.returns-in-Err-clause-plans
returns-in-Err-clause-plans c =
    if-plan _ _ c.refused.result
    (λ plan is now. begin-refused c.args.kept.now c.args.line now c.args.transaction.now c.in-Err.refusal plan is c.in-Err.ensures.check) c.refused.ensures.rule
