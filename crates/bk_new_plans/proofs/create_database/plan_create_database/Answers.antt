use Rattle.bk_plans.specs.PlanLaws.{if-plan}
use Rattle.bk_new_plans.proofs.PlannedCreateDatabase.{create-made, create-refused}
use Rattle.bk_new_plans.proofs.create_database.plan_create_database.Goals as goal

pub returns-in-Ok-clause-plans : goal.returns-in-Ok-clause-plans
returns-in-Ok-clause-plans c =
    if-plan _ _ c.creation.result
    (λ plan is. create-made c.args.kept.now c.args.line c.args.now c.args.name.now c.args.primary.now c.args.groups.now c.args.log.now c.in-Ok.storage plan is
    c.statements_do_what_they_may.ensures.may c.in-Ok.ensures.check c.in-Ok.ensures.left)
    c.creation.ensures.one

pub returns-in-Err-clause-plans : goal.returns-in-Err-clause-plans
returns-in-Err-clause-plans c =
    if-plan _ _ c.refused.result
    (λ plan is. create-refused c.args.kept.now c.args.line c.args.now c.args.name.now c.args.primary.now c.args.groups.now c.args.log.now c.in-Err.refusal plan is c.in-Err.ensures.check)
    c.refused.ensures.rule
