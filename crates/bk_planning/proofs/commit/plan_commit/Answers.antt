use Rattle.bk_plans.specs.PlanLaws.{if-plan}
use Rattle.bk_planning.proofs.PlannedEnds.{commit-planned, commit-refused}
use Rattle.bk_planning.proofs.commit.plan_commit.Goals as goal

pub returns-in_ok-row-in-Ok-clause-plans : goal.returns-in_ok-row-in-Ok-clause-plans
returns-in_ok-row-in-Ok-clause-plans c =
    if-plan _ _ c.commit_plan.result
    (λ plan parts line.
    commit-planned c.args.kept.now line c.args.now c.in-Ok.held c.in-Ok.ensures.check (c.in-Ok.ensures.shows c.requires) c.statements_do_what_they_may.ensures.may c.in_ok-act-in-Ok.act _ c.in_ok-act-in-Ok.ensures.commits c.in_ok-row-in-Ok.ensures plan parts)
    c.commit_plan.ensures.parts

pub returns-in-Err-clause-plans : goal.returns-in-Err-clause-plans
returns-in-Err-clause-plans c =
    if-plan _ _ c.refused.result (λ plan is line. commit-refused c.args.kept.now line c.args.now c.in-Err.refusal plan is c.in-Err.ensures.check) c.refused.ensures.rule
