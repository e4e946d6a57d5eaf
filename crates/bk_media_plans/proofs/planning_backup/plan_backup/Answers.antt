use Rattle.bk_media_plans.proofs.Backed.{Laws, backup-made, backup-refused, may-make}
use Rattle.bk_plans.specs.PlanLaws.{if-plan}
use Rattle.bk_media_plans.proofs.planning_backup.plan_backup.Goals as goal

pub returns-in-Ok-clause-plans : goal.returns-in-Ok-clause-plans
returns-in-Ok-clause-plans c =
    let laws : Laws = record {
      may = c.statements_do_what_they_may.ensures.may;
      act = c.acts_keep_worlds_sound.ensures.act;
      found = c.what_is_said_comes_last.ensures.found;
      log = c.what_is_said_comes_last.ensures.log;
    } in
    let b = c.in-Ok.backing in
    if-plan _ _ c.plan_checked.result
    (λ plan is. backup-made c.args.kept.now c.args.line c.args.now c.args.database.now c.args.units.now c.args.disk.now c.args.options.now c.args.room laws b.database.now b.sets c.said_time-time.result
    c.in-Ok.ensures.room c.in-Ok.ensures.check c.in-Ok.ensures.shows (λ w shows. c.said_time-time.ensures w shows) plan is)
    c.plan_checked.ensures.plans

pub returns-in-Err-clause-plans : goal.returns-in-Err-clause-plans
returns-in-Err-clause-plans c =
    if-plan _ _ c.refusing.result
    (λ plan is. backup-refused c.args.kept.now c.args.line c.args.now c.args.database.now c.args.units.now c.args.disk.now c.args.options.now c.args.room c.in-Err.refusal plan is c.in-Err.ensures.check)
    c.refusing.ensures.rule

pub returns-in-Ok-clause-unfit : goal.returns-in-Ok-clause-unfit
returns-in-Ok-clause-unfit c = λ unfit w sound sees known.
    c.plan_checked.ensures.unfit unfit w
    (may-make w c.args.line c.args.database.now c.args.units.now c.args.disk.now c.args.options.now c.args.now c.in-Ok.backing.database.now _ c.said_time-time.result sound (c.in-Ok.ensures.check w sees known) (c.in-Ok.ensures.shows w sees)
    (c.said_time-time.ensures w (c.in-Ok.ensures.shows w sees)))
