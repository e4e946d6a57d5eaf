use Rattle.std.proofs.Common.{◌≡◌, Err}
use Rattle.bk_plans.specs.PlanLaws.{if-ok}
use Rattle.bk_media_plans.proofs.PlannedRestore.{inside-plan, none-plan}
use Rattle.bk_media_plans.proofs.planning_restore.plan_restore.Goals as goal

pub returns-in-Err-clause-plans : goal.returns-in-Err-clause-plans
returns-in-Err-clause-plans c =
    if-ok _ _ c.refusing_restore.result
    (λ plan by. inside-plan c.args.kept.now c.args.line c.args.now c.args.database.now c.args.units.now c.args.disk.now c.args.options.now c.args.set c.in-Err.refusal plan c.requires.built by c.in-Err.ensures)
    c.refusing_restore.ensures.rule

pub returns-in-Err-set-clause-plans : goal.returns-in-Err-set-clause-plans
returns-in-Err-set-clause-plans c =
    let is : c.args.set ≡ Err c.in-Err-set.rule = cc (c.in-Err-set.is) in
    none-plan c.args.kept.now c.args.line c.args.now c.args.database.now c.args.units.now c.args.disk.now c.args.options.now c.args.set c.in-Err-set.rule is c.requires.built c.in-Ok.ensures
