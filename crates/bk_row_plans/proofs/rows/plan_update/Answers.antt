-- UPDATE as it is planned.
use Rattle.std.proofs.Common.{Some}
use Rattle.bk_items.specs.declared.rows.RowStatement.TheVariants as row
use Rattle.bk_machine.specs.statements.Update.{DoesUpdate, check_update}
use Rattle.bk_plans.specs.PlanLaws.{if-plan}
use Rattle.bk_row_plans.proofs.PlannedRows.{changes-none, changes-some, if-some, in-none, in-some, rows-answered, rows-refused, rows-written}
use Rattle.bk_row_plans.proofs.rows.plan_update.Goals as goal

pub returns-in-Some-clause-plans : goal.returns-in-Some-clause-plans
returns-in-Some-clause-plans c =
    let table = c.args.table.now in
    let key = c.args.key in
    let value = c.args.value.now in
    let d = c.in-Ok.found.database.now in
    let t = c.in-Ok.found.table.now in
    let at = c.in-Some.seen.place in
    let before = c.in-Some.seen.before.now in
    if-plan _ _ c.row_plan.result
    (λ plan says line.
    rows-written c.args.kept.now line c.args.now table (row.Update key value) (λ w. check_update w table key value) (λ w. DoesUpdate w key value c.args.now) (λ w outcome is. is) d t c.in-Ok.ensures.check
    c.in-Ok.ensures.shows c.in-Ok.ensures.its c.statements_do_what_they_may.ensures.may (if-some _ _ _ c.in-Some.is c.in-Ok.ensures.left) _ c.own_open-own.ensures key (Some before) (Some value) at plan
    (says (record { table = t.number; key = key; value = Some value }) (Some before) c.changed_cells-cells.ensures.are) c.changed_cells-cells.ensures.are.fits
    (λ w sound sees. let seen = in-some _ _ _ _ c.in-Some.is (c.in-Ok.ensures.seen w sound sees) in changes-some w d t key (Some value) c.args.now before at seen.0 seen.1))
    c.row_plan.ensures.says

pub returns-in-None-clause-plans : goal.returns-in-None-clause-plans
returns-in-None-clause-plans c = λ line.
    let table = c.args.table.now in
    let key = c.args.key in
    let value = c.args.value.now in
    let d = c.in-Ok.found.database.now in
    let t = c.in-Ok.found.table.now in
    rows-answered c.args.kept.now line c.args.now table (row.Update key value) (λ w. check_update w table key value) (λ w. DoesUpdate w key value c.args.now) (λ w outcome is. is) d t c.in-Ok.ensures.check _
    (λ w sound sees. changes-none w d t key (Some value) c.args.now (in-none _ _ _ c.in-None.is (c.in-Ok.ensures.seen w sound sees)))

pub returns-in-Err-clause-plans : goal.returns-in-Err-clause-plans
returns-in-Err-clause-plans c =
    let table = c.args.table.now in
    let key = c.args.key in
    let value = c.args.value.now in
    if-plan _ _ c.refused.result
    (λ plan is line.
    rows-refused c.args.kept.now line c.args.now table (row.Update key value) (λ w. check_update w table key value) (λ w. DoesUpdate w key value c.args.now) (λ w outcome is. is) c.in-Err.refusal plan is c.in-Err.ensures.check)
    c.refused.ensures.rule
