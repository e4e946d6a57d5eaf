use Rattle.std.proofs.Common.{inl, subst}
use Rattle.bk_items.specs.declared.item.ScriptItem.TheVariants as script
use Rattle.bk_media_plans.specs.Waits.{KeepsWait}
use Rattle.bk_plans.specs.declared.parts.Plan.TheVariants as plan
use Rattle.bk_executing.specs.Planned.{IsWaitPlanned}
use Rattle.bk_executing.proofs.Planned.{plan-executed, plan-failed, plan-touches, standing-nothing, touches-nothing}
use Rattle.bk_executing.proofs.Results.{on-error}
use Rattle.bk_executing.proofs.WaitDone.{end-executed, end-failed, knows-refused, refused-wait}
use Rattle.bk_executing.proofs.waiting.wait.Goals as goal

pub returns-in_err-sets-clause-failed : goal.returns-in_err-sets-clause-failed
returns-in_err-sets-clause-failed g c line = on-error c.from_residual.result (inl c.count_sets.ensures.effect)

pub returns-in_err-sets-clause-touches : goal.returns-in_err-sets-clause-touches
returns-in_err-sets-clause-touches g c tells = touches-nothing (c.count_sets.ensures.effect tells)

pub returns-in_err-plan-clause-failed : goal.returns-in_err-plan-clause-failed
returns-in_err-plan-clause-failed g c line = on-error c.from_residual-in_err-plan.result (inl c.count_sets.ensures.effect)

pub returns-in_err-plan-clause-touches : goal.returns-in_err-plan-clause-touches
returns-in_err-plan-clause-touches g c tells = touches-nothing (c.count_sets.ensures.effect tells)

pub follow-requires-clause-standing : goal.follow-requires-clause-standing
follow-requires-clause-standing g c = λ tells. standing-nothing (g.D.Device.disk c.args.dev.now) (g.D.Device.disk c.count_sets.new.dev) c.args.engine.now.hosting.stores (c.count_sets.ensures.effect tells) (c.requires.standing tells)

pub end_backup-requires-clause-standing : goal.end_backup-requires-clause-standing
end_backup-requires-clause-standing g c = λ tells. standing-nothing (g.D.Device.disk c.args.dev.now) (g.D.Device.disk c.count_sets.new.dev) c.args.engine.now.hosting.stores (c.count_sets.ensures.effect tells) (c.requires.standing tells)

pub end_backup-requires-clause-keeps : goal.end_backup-requires-clause-keeps
end_backup-requires-clause-keeps g c = subst KeepsWait c.in-Finishes.is c.in_ok-plan.ensures.keeps

pub returns-in-Refused-clause-executed : goal.returns-in-Refused-clause-executed
returns-in-Refused-clause-executed g c line =
    plan-executed c.args.engine.now c.follow.new.engine (g.D.Device.disk c.args.dev.now) (g.D.Device.disk c.count_sets.new.dev) (g.D.Device.disk c.follow.new.dev) (record { item = script.Wait; line = line }) c.args.now (plan.Refused c.in-Refused.rule)
    (refused-wait c.args.engine.now c.in_ok-sets.sets (record { item = script.Wait; line = line }) c.args.now c.in-Refused.rule (subst (IsWaitPlanned c.args.engine.now c.in_ok-sets.sets (record { item = script.Wait; line = line }) c.args.now) c.in-Refused.is (c.in_ok-plan.ensures.plans line)))
    (knows-refused c.args.engine.now (g.D.Device.disk c.args.dev.now) (g.D.Device.disk c.count_sets.new.dev) c.in_ok-sets.sets (record { item = script.Wait; line = line }) c.args.now c.in-Refused.rule _ (λ t. g.met.D.Device.lawful t c.args.dev.now) c.count_sets.ensures.effect (λ t w stands. c.in_ok-sets.ensures.sets t w stands) c.statements_do_what_they_may.ensures.may)
    c.follow.result (record { replies = c.follow.ensures.replies; does = c.follow.ensures.does; crash = c.follow.ensures.crash; still = c.follow.ensures.still; touches = c.follow.ensures.touches })

pub returns-in-Refused-clause-failed : goal.returns-in-Refused-clause-failed
returns-in-Refused-clause-failed g c line =
    plan-failed c.args.engine.now c.follow.new.engine (g.D.Device.disk c.args.dev.now) (g.D.Device.disk c.count_sets.new.dev) (g.D.Device.disk c.follow.new.dev) (record { item = script.Wait; line = line }) c.args.now (plan.Refused c.in-Refused.rule)
    (refused-wait c.args.engine.now c.in_ok-sets.sets (record { item = script.Wait; line = line }) c.args.now c.in-Refused.rule (subst (IsWaitPlanned c.args.engine.now c.in_ok-sets.sets (record { item = script.Wait; line = line }) c.args.now) c.in-Refused.is (c.in_ok-plan.ensures.plans line)))
    (knows-refused c.args.engine.now (g.D.Device.disk c.args.dev.now) (g.D.Device.disk c.count_sets.new.dev) c.in_ok-sets.sets (record { item = script.Wait; line = line }) c.args.now c.in-Refused.rule _ (λ t. g.met.D.Device.lawful t c.args.dev.now) c.count_sets.ensures.effect (λ t w stands. c.in_ok-sets.ensures.sets t w stands) c.statements_do_what_they_may.ensures.may)
    c.follow.result (record { replies = c.follow.ensures.replies; does = c.follow.ensures.does; crash = c.follow.ensures.crash; still = c.follow.ensures.still; touches = c.follow.ensures.touches })

pub returns-in-Refused-clause-touches : goal.returns-in-Refused-clause-touches
returns-in-Refused-clause-touches g c tells = plan-touches (g.D.Device.disk c.args.dev.now) (g.D.Device.disk c.count_sets.new.dev) (g.D.Device.disk c.follow.new.dev) (c.count_sets.ensures.effect tells) (c.follow.ensures.touches tells)

pub returns-in-Finishes-clause-executed : goal.returns-in-Finishes-clause-executed
returns-in-Finishes-clause-executed g c line = end-executed c.args.engine.now c.end_backup.new.engine (g.D.Device.disk c.args.dev.now) (g.D.Device.disk c.count_sets.new.dev) (g.D.Device.disk c.end_backup.new.dev) (record { item = script.Wait; line = line }) c.args.now c.in_ok-sets.sets c.in-Finishes.finish (subst (IsWaitPlanned c.args.engine.now c.in_ok-sets.sets (record { item = script.Wait; line = line }) c.args.now) c.in-Finishes.is (c.in_ok-plan.ensures.plans line)) (λ t. g.met.D.Device.lawful t c.args.dev.now) c.count_sets.ensures.effect (λ t w stands. c.in_ok-sets.ensures.sets t w stands) c.end_backup.result c.end_backup.ensures.replies c.end_backup.ensures.does c.end_backup.ensures.crash c.end_backup.ensures.touches

pub returns-in-Finishes-clause-failed : goal.returns-in-Finishes-clause-failed
returns-in-Finishes-clause-failed g c line = end-failed c.args.engine.now c.end_backup.new.engine (g.D.Device.disk c.args.dev.now) (g.D.Device.disk c.count_sets.new.dev) (g.D.Device.disk c.end_backup.new.dev) (record { item = script.Wait; line = line }) c.args.now c.in_ok-sets.sets c.in-Finishes.finish (subst (IsWaitPlanned c.args.engine.now c.in_ok-sets.sets (record { item = script.Wait; line = line }) c.args.now) c.in-Finishes.is (c.in_ok-plan.ensures.plans line)) (λ t. g.met.D.Device.lawful t c.args.dev.now) c.count_sets.ensures.effect (λ t w stands. c.in_ok-sets.ensures.sets t w stands) c.end_backup.result c.end_backup.ensures.crash c.end_backup.ensures.touches

pub returns-in-Finishes-clause-touches : goal.returns-in-Finishes-clause-touches
returns-in-Finishes-clause-touches g c tells = plan-touches (g.D.Device.disk c.args.dev.now) (g.D.Device.disk c.count_sets.new.dev) (g.D.Device.disk c.end_backup.new.dev) (c.count_sets.ensures.effect tells) (c.end_backup.ensures.touches tells)
