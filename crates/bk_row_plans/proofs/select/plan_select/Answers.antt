use Rattle.std.proofs.Common.{◌∙◌, ap}
use Rattle.bk_items.specs.declared.rows.RowStatement.TheVariants as row
use Rattle.bk_machine.specs.Outcome.{answered}
use Rattle.bk_machine.specs.statements.Select.{DoesSelect, check_select}
use Rattle.bk_machine.specs.statements.Target.{check_table}
use Rattle.bk_world.specs.Rows.{Rows}
use Rattle.bk_world.specs.declared.reply.Reply.TheVariants.{Selected}
use Rattle.bk_plans.specs.PlanLaws.{if-plan}
use Rattle.bk_row_plans.proofs.PlannedRows.{rows-answered, rows-refused}
use Rattle.bk_row_plans.proofs.select.plan_select.Goals as goal

pub returns-in_ok-asked_rows-in-Ok-clause-plans : goal.returns-in_ok-asked_rows-in-Ok-clause-plans
unfolding check_select
returns-in_ok-asked_rows-in-Ok-clause-plans c = λ line now.
    let table = c.args.table.now in
    rows-answered c.args.kept.now line now table (row.Select c.args.key) (λ w. check_table w table) (λ w. DoesSelect w c.args.key) (λ w outcome is. is) c.in-Ok.to.database.now c.in-Ok.to.table.now (λ w sound. c.in-Ok.ensures.check w) _
    (λ w sound sees. ap (λ (rows : Rows). answered (Selected rows)) (c.new-rows.ensures ∙ c.in_ok-asked_rows-in-Ok.ensures w sees (c.in-Ok.ensures.shows w sees)))

pub returns-in-Err-clause-plans : goal.returns-in-Err-clause-plans
unfolding check_select
returns-in-Err-clause-plans c =
    let table = c.args.table.now in
    if-plan _ _ c.refused.result
    (λ plan is line now.
    rows-refused c.args.kept.now line now table (row.Select c.args.key) (λ w. check_table w table) (λ w. DoesSelect w c.args.key) (λ w outcome is. is) c.in-Err.refusal plan is (λ w sound. c.in-Err.ensures.check w))
    c.refused.ensures.rule
