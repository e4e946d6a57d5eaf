-- INSERT as it is planned.
use Rattle.std.proofs.Common.{Some, None, refl}
use Rattle.bk_items.specs.declared.rows.RowStatement.TheVariants as row
use Rattle.bk_machine.specs.statements.Insert.{DoesInsert, check_insert}
use Rattle.bk_plans.specs.PlanLaws.{if-plan}
use Rattle.bk_row_plans.proofs.PlannedRows.{rows-refused, rows-written}
use Rattle.bk_row_plans.proofs.rows.plan_insert.Goals as goal

pub returns-in-Ok-clause-plans : goal.returns-in-Ok-clause-plans
returns-in-Ok-clause-plans c =
    let table = c.args.table.now in
    let key = c.args.key in
    let value = c.args.value.now in
    let d = c.in-Ok.new.database.now in
    let t = c.in-Ok.new.table.now in
    let at = c.in-Ok.new.place in
    if-plan _ _ c.row_plan.result
    (λ plan says line.
    rows-written c.args.kept.now line c.args.now table (row.Insert key value) (λ w. check_insert w table key value) (λ w. DoesInsert w key value c.args.now) (λ w outcome is. is) d t c.in-Ok.ensures.check
    c.in-Ok.ensures.shows c.in-Ok.ensures.its c.statements_do_what_they_may.ensures.may c.in-Ok.ensures.left _ c.own_open-own.ensures key None (Some value) at plan
    (says (record { table = t.number; key = key; value = Some value }) None c.new_cells-cells.ensures.are) c.new_cells-cells.ensures.are.fits
    (λ w sound sees. (at, c.in-Ok.ensures.cell w sound sees, refl)))
    c.row_plan.ensures.says

pub returns-in-Err-clause-plans : goal.returns-in-Err-clause-plans
returns-in-Err-clause-plans c =
    let table = c.args.table.now in
    let key = c.args.key in
    let value = c.args.value.now in
    if-plan _ _ c.refused.result
    (λ plan is line.
    rows-refused c.args.kept.now line c.args.now table (row.Insert key value) (λ w. check_insert w table key value) (λ w. DoesInsert w key value c.args.now) (λ w outcome is. is) c.in-Err.refusal plan is c.in-Err.ensures.check)
    c.refused.ensures.rule
