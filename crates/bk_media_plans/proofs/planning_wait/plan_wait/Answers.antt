use Rattle.bk_plans.specs.PlanLaws.{if-ok}
use Rattle.bk_media_plans.proofs.PlannedWait.{wait-planned, wait-refused}
use Rattle.bk_media_plans.proofs.planning_wait.plan_wait.Goals as goal

pub returns-in-Ok-clause-plans : goal.returns-in-Ok-clause-plans
returns-in-Ok-clause-plans c =
    let r = c.in-Ok.running in
    if-ok _ _ c.finishing.result
    (λ plan is line. wait-planned c.args.kept.now line c.args.now c.args.sets c.statements_do_what_they_may.ensures.may r.database.now r.job.now c.said_time-time.result c.in-Ok.ensures.check c.in-Ok.ensures.seen
    (λ w shows. c.said_time-time.ensures w shows) plan is)
    c.finishing.ensures.is

pub returns-in-Err-clause-plans : goal.returns-in-Err-clause-plans
returns-in-Err-clause-plans c =
    if-ok _ _ c.refusing_wait.result (λ plan is line. wait-refused c.args.kept.now line c.args.now c.args.sets c.in-Err.refusal plan is c.in-Err.ensures.check) c.refusing_wait.ensures.rule
