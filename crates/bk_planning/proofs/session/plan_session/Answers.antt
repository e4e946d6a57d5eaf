use Rattle.bk_plans.specs.PlanLaws.{if-plan}
use Rattle.bk_planning.proofs.PlannedSession.{session-refused, session-seated}
use Rattle.bk_planning.proofs.session.plan_session.Goals as goal

pub returns-in-Ok-clause-plans : goal.returns-in-Ok-clause-plans
returns-in-Ok-clause-plans c = λ now. session-seated c.args.kept.now c.args.line now c.args.number c.in-Ok.session c.in-Ok.ensures

pub returns-in-Err-clause-plans : goal.returns-in-Err-clause-plans
returns-in-Err-clause-plans c =
    if-plan _ _ c.refused.result (λ plan is now. session-refused c.args.kept.now c.args.line now c.args.number c.in-Err.refusal plan is c.in-Err.ensures) c.refused.ensures.rule
