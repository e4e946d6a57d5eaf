use Rattle.std.proofs.Common.{inl}
use Rattle.bk_device.specs.Laws.{nothing_yet}
use Rattle.bk_engine.specs.TouchLaws.{wider-touch}
use Rattle.bk_executing.proofs.Other.{knows-other}
use Rattle.bk_executing.proofs.Planned.{plan-executed, plan-failed, touches-nothing}
use Rattle.bk_executing.proofs.Results.{on-error}
use Rattle.bk_executing.proofs.executing.execute_other.Goals as goal

pub returns-in_err-plan-clause-failed : goal.returns-in_err-plan-clause-failed
returns-in_err-plan-clause-failed g c = on-error c.from_residual.result (inl (λ told. nothing_yet (g.D.Device.disk c.args.dev.now)))

pub returns-in_err-plan-clause-touches : goal.returns-in_err-plan-clause-touches
returns-in_err-plan-clause-touches g c tells = touches-nothing (nothing_yet (g.D.Device.disk c.args.dev.now))

pub returns-clause-executed : goal.returns-clause-executed
returns-clause-executed g c =
    plan-executed c.args.engine.now c.follow.new.engine (g.D.Device.disk c.args.dev.now) (g.D.Device.disk c.args.dev.now) (g.D.Device.disk c.follow.new.dev) c.args.statement.now c.args.now c.in_ok-plan.plan (c.in_ok-plan.ensures.plans c.requires.other)
    (knows-other c.args.engine.now (g.D.Device.disk c.args.dev.now) c.args.statement.now c.args.now c.in_ok-plan.plan _ (λ t. g.met.D.Device.lawful t c.args.dev.now) c.requires.other c.statements_do_what_they_may.ensures.may c.what_statements_write_to.ensures.media)
    c.follow.result (record { replies = c.follow.ensures.replies; does = c.follow.ensures.does; crash = c.follow.ensures.crash; still = c.follow.ensures.still; touches = c.follow.ensures.touches })

pub returns-clause-failed : goal.returns-clause-failed
returns-clause-failed g c =
    plan-failed c.args.engine.now c.follow.new.engine (g.D.Device.disk c.args.dev.now) (g.D.Device.disk c.args.dev.now) (g.D.Device.disk c.follow.new.dev) c.args.statement.now c.args.now c.in_ok-plan.plan (c.in_ok-plan.ensures.plans c.requires.other)
    (knows-other c.args.engine.now (g.D.Device.disk c.args.dev.now) c.args.statement.now c.args.now c.in_ok-plan.plan _ (λ t. g.met.D.Device.lawful t c.args.dev.now) c.requires.other c.statements_do_what_they_may.ensures.may c.what_statements_write_to.ensures.media)
    c.follow.result (record { replies = c.follow.ensures.replies; does = c.follow.ensures.does; crash = c.follow.ensures.crash; still = c.follow.ensures.still; touches = c.follow.ensures.touches })

pub returns-clause-touches : goal.returns-clause-touches
returns-clause-touches g c tells = wider-touch (λ path at. tt) (c.follow.ensures.touches tells)
