use Rattle.std.proofs.Common.{◌∙◌, ap}
use Rattle.bk_plans.specs.PlanLaws.{if-plan}
use Rattle.bk_planning.proofs.PlannedDropDatabase.{drop-done, drop-refused}
use Rattle.bk_kept.specs.declared.kept.Database.{Database as KeptDatabase}
use Rattle.bk_planning.proofs.drop_database.plan_drop_database.Goals as goal

pub returns-in_ok-name-in-Ok-clause-plans : goal.returns-in_ok-name-in-Ok-clause-plans
returns-in_ok-name-in-Ok-clause-plans c =
    if-plan _ _ c.stored.result
    (λ plan is line now. drop-done c.args.kept.now line now c.args.name.now c.in-Ok.database.now c.in_ok-name-in-Ok.name plan (c.in_ok-name-in-Ok.ensures ∙ ap (λ (d : KeptDatabase). d.name) c.database.view_is) is
    c.statements_do_what_they_may.ensures.may c.in-Ok.ensures.check)
    c.stored.ensures.one

pub returns-in-Err-clause-plans : goal.returns-in-Err-clause-plans
returns-in-Err-clause-plans c =
    if-plan _ _ c.refused.result
    (λ plan is line now. drop-refused c.args.kept.now line now c.args.name.now c.in-Err.refusal plan is c.in-Err.ensures.check) c.refused.ensures.rule
