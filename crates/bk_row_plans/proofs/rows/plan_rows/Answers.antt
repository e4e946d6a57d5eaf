-- Each row statement as it is planned; what isn't built is refused.
use Rattle.std.proofs.Common.{refl, subst, sym}
use Rattle.bk_items.specs.declared.rows.RowStatement.{RowStatement}
use Rattle.bk_items.specs.declared.rows.RowStatement.TheVariants as row
use Rattle.bk_machine.specs.Machine.{May}
use Rattle.bk_world.specs.declared.rule.Rule.TheVariants.{NotBuilt}
use Rattle.bk_plans.specs.PlanLaws.{plans-refused}
use Rattle.bk_plans.specs.Planning.{Plans}
use Rattle.bk_plans.specs.declared.parts.Plan.TheVariants.{Refused}
use Rattle.bk_row_plans.proofs.PlannedRows.{entry}
use Rattle.bk_row_plans.proofs.rows.plan_rows.Goals as goal

pub returns-in-BulkInsert-clause-plans : goal.returns-in-BulkInsert-clause-plans
unfolding May
returns-in-BulkInsert-clause-plans c =
    let k = c.args.kept.now in
    let line = c.args.line in
    let table = c.args.table.now in
    subst (λ (s : RowStatement). Plans k (λ w. Unit {0}) (entry table s line) c.args.now (Refused (NotBuilt line))) (sym c.in-BulkInsert.is)
    (plans-refused k (λ w. Unit {0}) (entry table (row.BulkInsert _ _ _) line) c.args.now (NotBuilt line) (λ w sound sees known. refl))
