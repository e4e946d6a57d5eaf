use Rattle.std.proofs.Common.{inl, Err, subst}
use Rattle.std.proofs.lemmas.Result.{err_from_is_err_and}
use Rattle.bk_device.specs.Laws.{nothing_yet}
use Rattle.bk_device.specs.declared.trouble.Trouble.TheVariants.{Broken}
use Rattle.bk_engine.specs.TouchLaws.{wider-touch}
use Rattle.bk_engine.specs.ViewLaws.{remembers}
use Rattle.bk_items.specs.declared.item.ScriptItem.TheVariants as script
use Rattle.bk_machine.specs.statements.Restore.{position_of}
use Rattle.bk_media_plans.specs.declared.restore_plan.RestorePlan.{RestorePlan}
use Rattle.bk_media_plans.specs.Found.{FindsSet}
use Rattle.bk_plans.specs.declared.parts.Plan.TheVariants as plan
use Rattle.bk_executing.specs.Planned.{IsRestorePlanned}
use Rattle.bk_executing.proofs.Planned.{plan-executed, plan-failed, touches-nothing}
use Rattle.bk_executing.proofs.RestoringDone.{finds-none, other-error, refused-knows, refused-plan}
use Rattle.bk_executing.proofs.Results.{on-error}
use Rattle.bk_executing.proofs.restoring.refuse.Goals as goal

pub returns-in_err-plan-clause-failed : goal.returns-in_err-plan-clause-failed
returns-in_err-plan-clause-failed g c =
    on-error c.from_residual.result (inl (λ told. nothing_yet (g.D.Device.disk c.args.dev.now)))

pub returns-in_err-plan-clause-touches : goal.returns-in_err-plan-clause-touches
returns-in_err-plan-clause-touches g c tells =
    touches-nothing (nothing_yet (g.D.Device.disk c.args.dev.now))

pub returns-in_err-plan-clause-broken : goal.returns-in_err-plan-clause-broken
returns-in_err-plan-clause-broken g c tells =
    let p = err_from_is_err_and c.from_residual.result c.from_residual.ensures.1 in
    rw (p.1, p.2) (λ is w stands. c.in_err-plan.ensures.broken (other-error c.in_err-plan.field-0.0 Broken is) w stands.sound (remembers (g.D.Device.disk c.args.dev.now) c.args.engine.now w stands) (finds-none (position_of c.args.options.now.file) c.args.disk.now c.args.rule w (c.requires.refused tells w stands)))

pub returns-in-Refused-clause-executed : goal.returns-in-Refused-clause-executed
returns-in-Refused-clause-executed g c =
    plan-executed c.args.engine.now c.follow.new.engine (g.D.Device.disk c.args.dev.now) (g.D.Device.disk c.args.dev.now) (g.D.Device.disk c.follow.new.dev) (record { item = script.RestoreDatabase c.args.database.now c.args.units.now c.args.disk.now c.args.options.now; line = c.args.line }) c.args.now (plan.Refused c.in-Refused.rule)
    (refused-plan c.args.engine.now (FindsSet (position_of c.args.options.now.file) c.args.disk.now (Err c.args.rule)) c.args.options.now (Err c.args.rule) (record { item = script.RestoreDatabase c.args.database.now c.args.units.now c.args.disk.now c.args.options.now; line = c.args.line }) c.args.now c.in-Refused.rule (subst (λ (p : RestorePlan). IsRestorePlanned c.args.engine.now (FindsSet (position_of c.args.options.now.file) c.args.disk.now (Err c.args.rule)) c.args.options.now (Err c.args.rule) (record { item = script.RestoreDatabase c.args.database.now c.args.units.now c.args.disk.now c.args.options.now; line = c.args.line }) c.args.now p) c.in-Refused.is c.in_ok-plan.ensures.plans))
    (refused-knows c.args.engine.now (g.D.Device.disk c.args.dev.now) (g.D.Device.disk c.args.dev.now) (FindsSet (position_of c.args.options.now.file) c.args.disk.now (Err c.args.rule)) (record { item = script.RestoreDatabase c.args.database.now c.args.units.now c.args.disk.now c.args.options.now; line = c.args.line }) c.args.now c.in-Refused.rule _ (λ t. g.met.D.Device.lawful t c.args.dev.now) (λ told. nothing_yet (g.D.Device.disk c.args.dev.now)) (λ told w stands. finds-none (position_of c.args.options.now.file) c.args.disk.now c.args.rule w (c.requires.refused told w stands)) (λ w sound m. c.statements_do_what_they_may.ensures.may w _ _ _ sound m))
    c.follow.result (record { replies = c.follow.ensures.replies; does = c.follow.ensures.does; crash = c.follow.ensures.crash; still = c.follow.ensures.still; touches = c.follow.ensures.touches })

pub returns-in-Refused-clause-failed : goal.returns-in-Refused-clause-failed
returns-in-Refused-clause-failed g c =
    plan-failed c.args.engine.now c.follow.new.engine (g.D.Device.disk c.args.dev.now) (g.D.Device.disk c.args.dev.now) (g.D.Device.disk c.follow.new.dev) (record { item = script.RestoreDatabase c.args.database.now c.args.units.now c.args.disk.now c.args.options.now; line = c.args.line }) c.args.now (plan.Refused c.in-Refused.rule)
    (refused-plan c.args.engine.now (FindsSet (position_of c.args.options.now.file) c.args.disk.now (Err c.args.rule)) c.args.options.now (Err c.args.rule) (record { item = script.RestoreDatabase c.args.database.now c.args.units.now c.args.disk.now c.args.options.now; line = c.args.line }) c.args.now c.in-Refused.rule (subst (λ (p : RestorePlan). IsRestorePlanned c.args.engine.now (FindsSet (position_of c.args.options.now.file) c.args.disk.now (Err c.args.rule)) c.args.options.now (Err c.args.rule) (record { item = script.RestoreDatabase c.args.database.now c.args.units.now c.args.disk.now c.args.options.now; line = c.args.line }) c.args.now p) c.in-Refused.is c.in_ok-plan.ensures.plans))
    (refused-knows c.args.engine.now (g.D.Device.disk c.args.dev.now) (g.D.Device.disk c.args.dev.now) (FindsSet (position_of c.args.options.now.file) c.args.disk.now (Err c.args.rule)) (record { item = script.RestoreDatabase c.args.database.now c.args.units.now c.args.disk.now c.args.options.now; line = c.args.line }) c.args.now c.in-Refused.rule _ (λ t. g.met.D.Device.lawful t c.args.dev.now) (λ told. nothing_yet (g.D.Device.disk c.args.dev.now)) (λ told w stands. finds-none (position_of c.args.options.now.file) c.args.disk.now c.args.rule w (c.requires.refused told w stands)) (λ w sound m. c.statements_do_what_they_may.ensures.may w _ _ _ sound m))
    c.follow.result (record { replies = c.follow.ensures.replies; does = c.follow.ensures.does; crash = c.follow.ensures.crash; still = c.follow.ensures.still; touches = c.follow.ensures.touches })

pub returns-in-Refused-clause-touches : goal.returns-in-Refused-clause-touches
returns-in-Refused-clause-touches g c tells =
    wider-touch (λ path none. absurd none) (c.follow.ensures.touches tells)

pub returns-clause-failed : goal.returns-clause-failed
returns-clause-failed g c =
    inl (λ told. nothing_yet (g.D.Device.disk c.args.dev.now))

pub returns-clause-touches : goal.returns-clause-touches
returns-clause-touches g c tells =
    touches-nothing (nothing_yet (g.D.Device.disk c.args.dev.now))
