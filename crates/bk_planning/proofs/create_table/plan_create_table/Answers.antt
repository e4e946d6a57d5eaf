use Rattle.bk_plans.specs.PlanLaws.{if-plan}
use Rattle.bk_planning.proofs.PlannedCreateTable.{table-planned, table-refused}
use Rattle.bk_planning.proofs.create_table.plan_create_table.Goals as goal

pub returns-in-Ok-clause-plans : goal.returns-in-Ok-clause-plans
returns-in-Ok-clause-plans c =
    if-plan _ _ c.table_plan.result
    (λ plan says. table-planned c.args.kept.now c.args.line c.args.now c.args.table.now c.args.group.now c.in-Ok.room.database.now c.in-Ok.room.number c.in-Ok.room.group c.in-Ok.ensures.named c.in-Ok.ensures.left
    c.in-Ok.ensures.check c.in-Ok.ensures.shows c.in-Ok.ensures.number c.statements_do_what_they_may.ensures.may plan says)
    c.table_plan.ensures.says

pub returns-in-Err-clause-plans : goal.returns-in-Err-clause-plans
returns-in-Err-clause-plans c =
    if-plan _ _ c.refused.result
    (λ plan is. table-refused c.args.kept.now c.args.line c.args.now c.args.table.now c.args.group.now c.in-Err.refusal plan is c.in-Err.ensures.check) c.refused.ensures.rule
