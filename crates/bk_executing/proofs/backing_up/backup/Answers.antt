use Rattle.std.proofs.Common.{inl}
use Rattle.std.proofs.lemmas.Result.{err_from_is_err_and}
use Rattle.bk_device.specs.declared.trouble.Trouble.TheVariants.{Broken}
use Rattle.bk_engine.specs.ViewLaws.{remembers}
use Rattle.bk_executing.proofs.RestoringDone.{other-error}
use Rattle.bk_executing.proofs.Backing.{knows-backup, room-there}
use Rattle.bk_executing.proofs.Planned.{plan-executed, plan-failed, plan-touches, standing-nothing, touches-nothing}
use Rattle.bk_executing.proofs.Results.{on-error}
use Rattle.bk_executing.proofs.backing_up.backup.Goals as goal

pub returns-in_err-room-clause-failed : goal.returns-in_err-room-clause-failed
returns-in_err-room-clause-failed g c = on-error c.from_residual.result (inl c.room_at.ensures.effect)

pub returns-in_err-room-clause-touches : goal.returns-in_err-room-clause-touches
returns-in_err-room-clause-touches g c tells = touches-nothing (c.room_at.ensures.effect tells)

pub returns-in_err-plan-clause-failed : goal.returns-in_err-plan-clause-failed
returns-in_err-plan-clause-failed g c = on-error c.from_residual-in_err-plan.result (inl c.room_at.ensures.effect)

pub returns-in_err-plan-clause-touches : goal.returns-in_err-plan-clause-touches
returns-in_err-plan-clause-touches g c tells = touches-nothing (c.room_at.ensures.effect tells)

pub returns-in_err-plan-clause-broken : goal.returns-in_err-plan-clause-broken
returns-in_err-plan-clause-broken g c tells =
    let p = err_from_is_err_and c.from_residual-in_err-plan.result c.from_residual-in_err-plan.ensures.1 in
    rw (p.1, p.2) (λ is w stands. c.in_err-plan.ensures.broken (other-error c.in_err-plan.field-0.0 Broken is) w stands.sound (remembers (g.D.Device.disk c.args.dev.now) c.args.engine.now w stands) (room-there w c.args.disk.now c.as_str.result.now c.in_ok-room.room c.as_str.ensures (c.in_ok-room.ensures.room tells w stands.media)))

pub follow-requires-clause-standing : goal.follow-requires-clause-standing
follow-requires-clause-standing g c = λ tells. standing-nothing (g.D.Device.disk c.args.dev.now) (g.D.Device.disk c.room_at.new.dev) c.args.engine.now.hosting.stores (c.room_at.ensures.effect tells) (c.requires.standing tells)

pub returns-clause-executed : goal.returns-clause-executed
returns-clause-executed g c =
    plan-executed c.args.engine.now c.follow.new.engine (g.D.Device.disk c.args.dev.now) (g.D.Device.disk c.room_at.new.dev) (g.D.Device.disk c.follow.new.dev) _ c.args.now c.in_ok-plan.plan c.in_ok-plan.ensures.plans
    (knows-backup c.args.engine.now (g.D.Device.disk c.args.dev.now) (g.D.Device.disk c.room_at.new.dev) c.args.line c.args.database.now c.args.units.now c.args.disk.now c.args.options.now c.args.now c.in_ok-room.room c.in_ok-plan.plan _ (λ t. g.met.D.Device.lawful t c.args.dev.now) c.room_at.ensures.effect
    (record { says = record { sound = c.acts_keep_worlds_sound.ensures.act; found = c.what_is_said_comes_last.ensures.found; log = c.what_is_said_comes_last.ensures.log }; header = c.full_headers_are_of_databases.ensures })
    c.statements_do_what_they_may.ensures.may (λ t w stands. room-there w c.args.disk.now c.as_str.result.now c.in_ok-room.room c.as_str.ensures (c.in_ok-room.ensures.room t w stands.media)))
    c.follow.result (record { replies = c.follow.ensures.replies; does = c.follow.ensures.does; crash = c.follow.ensures.crash; still = c.follow.ensures.still; touches = c.follow.ensures.touches })

pub returns-clause-failed : goal.returns-clause-failed
returns-clause-failed g c =
    plan-failed c.args.engine.now c.follow.new.engine (g.D.Device.disk c.args.dev.now) (g.D.Device.disk c.room_at.new.dev) (g.D.Device.disk c.follow.new.dev) _ c.args.now c.in_ok-plan.plan c.in_ok-plan.ensures.plans
    (knows-backup c.args.engine.now (g.D.Device.disk c.args.dev.now) (g.D.Device.disk c.room_at.new.dev) c.args.line c.args.database.now c.args.units.now c.args.disk.now c.args.options.now c.args.now c.in_ok-room.room c.in_ok-plan.plan _ (λ t. g.met.D.Device.lawful t c.args.dev.now) c.room_at.ensures.effect
    (record { says = record { sound = c.acts_keep_worlds_sound.ensures.act; found = c.what_is_said_comes_last.ensures.found; log = c.what_is_said_comes_last.ensures.log }; header = c.full_headers_are_of_databases.ensures })
    c.statements_do_what_they_may.ensures.may (λ t w stands. room-there w c.args.disk.now c.as_str.result.now c.in_ok-room.room c.as_str.ensures (c.in_ok-room.ensures.room t w stands.media)))
    c.follow.result (record { replies = c.follow.ensures.replies; does = c.follow.ensures.does; crash = c.follow.ensures.crash; still = c.follow.ensures.still; touches = c.follow.ensures.touches })

pub returns-clause-touches : goal.returns-clause-touches
returns-clause-touches g c tells = plan-touches (g.D.Device.disk c.args.dev.now) (g.D.Device.disk c.room_at.new.dev) (g.D.Device.disk c.follow.new.dev) (c.room_at.ensures.effect tells) (c.follow.ensures.touches tells)
