use Rattle.std.proofs.Common.{inl, inr, List, Ok, refl, subst}
use Rattle.std.proofs.lemmas.Result.{err_from_is_err_and}
use Rattle.bk_device.specs.Compose.{effect_then}
use Rattle.bk_device.specs.declared.trouble.Trouble.TheVariants.{Broken}
use Rattle.bk_engine.specs.TouchLaws.{wider-touch}
use Rattle.bk_engine.specs.ViewLaws.{remembers}
use Rattle.bk_items.specs.declared.item.ScriptItem.TheVariants as script
use Rattle.bk_machine.specs.statements.Restore.{position_of}
use Rattle.bk_media_plans.specs.declared.restore_plan.RestorePlan.{RestorePlan}
use Rattle.bk_media_plans.specs.declared.restore_plan.RestorePlan.TheVariants as restore
use Rattle.bk_media_plans.specs.Found.{FindsSet}
use Rattle.bk_media_plans.specs.RestorePlans.{KeepsSet}
use Rattle.bk_plans.specs.declared.parts.Plan.TheVariants as plan
use Rattle.bk_world.specs.declared.database.TableSpec.{TableSpec}
use Rattle.bk_executing.specs.Planned.{IsRestorePlanned}
use Rattle.bk_executing.proofs.Planned.{plan-executed, plan-failed, standing-nothing, touches-nothing}
use Rattle.bk_executing.proofs.RestoringDone.{brings-cut, brings-executed, brings-never, finds-set, finds-parts, kept-up, moves-only, of-set, other-error, parts, refused-knows, refused-plan}
use Rattle.bk_executing.proofs.Results.{on-error}
use Rattle.bk_executing.proofs.restoring.restore_set.Goals as goal

pub returns-in_err-log-clause-failed : goal.returns-in_err-log-clause-failed
returns-in_err-log-clause-failed g c =
    on-error c.from_residual.result (inl c.read_log.ensures.effect)

pub returns-in_err-log-clause-touches : goal.returns-in_err-log-clause-touches
returns-in_err-log-clause-touches g c tells =
    touches-nothing (c.read_log.ensures.effect tells)

pub returns-in_err-log-clause-broken : goal.returns-in_err-log-clause-broken
returns-in_err-log-clause-broken g c tells =
    let p = err_from_is_err_and c.from_residual.result c.from_residual.ensures.1 in
    rw (p.1, p.2) (λ is w stands. let there = c.requires.opened tells w stands in c.in_err-log.ensures.broken tells (other-error c.in_err-log.field-0.0 Broken is) there.body there.opened)

pub returns-in_err-plan-clause-failed : goal.returns-in_err-plan-clause-failed
returns-in_err-plan-clause-failed g c =
    on-error c.from_residual-in_err-plan.result (inl c.read_log.ensures.effect)

pub returns-in_err-plan-clause-touches : goal.returns-in_err-plan-clause-touches
returns-in_err-plan-clause-touches g c tells =
    touches-nothing (c.read_log.ensures.effect tells)

pub returns-in_err-plan-clause-broken : goal.returns-in_err-plan-clause-broken
returns-in_err-plan-clause-broken g c tells =
    let p = err_from_is_err_and c.from_residual-in_err-plan.result c.from_residual-in_err-plan.ensures.1 in
    rw (p.1, p.2) (λ is w stands. c.in_err-plan.ensures.broken (other-error c.in_err-plan.field-0.0 Broken is) w stands.sound (remembers (g.D.Device.disk c.args.dev.now) c.args.engine.now w stands)
    (finds-parts (position_of c.args.options.now.file) c.args.disk.now w c.header.result.now c.tables.result.now c.in_ok-log.log c.args.opened.now.set c.header.ensures c.tables.ensures (finds-set (position_of c.args.options.now.file) c.args.disk.now ((g.D.Device.disk c.args.dev.now).files c.args.opened.now.medium.name) c.args.opened.now.set c.in_ok-log.log w (c.requires.opened tells w stands) (c.in_ok-log.ensures.log tells))))

pub follow-requires-clause-standing : goal.follow-requires-clause-standing
follow-requires-clause-standing g c =
    λ tells. standing-nothing (g.D.Device.disk c.args.dev.now) (g.D.Device.disk c.read_log.new.dev) c.args.engine.now.hosting.stores (c.read_log.ensures.effect tells) (c.requires.standing tells)

pub bring_up_noted-requires-clause-standing : goal.bring_up_noted-requires-clause-standing
bring_up_noted-requires-clause-standing g c =
    λ lifetimes outlives tells. standing-nothing (g.D.Device.disk c.args.dev.now) (g.D.Device.disk c.read_log.new.dev) c.args.engine.now.hosting.stores (c.read_log.ensures.effect tells) (c.requires.standing tells)

pub bring_up_noted-requires-clause-moves : goal.bring_up_noted-requires-clause-moves
bring_up_noted-requires-clause-moves g c lifetimes outlives =
    moves-only c.args.options.now.moves c.header.result.now c.args.opened.now.set.header c.in-BringsUp.header c.header.ensures
    (kept-up c.args.options.now (parts c.header.result.now c.tables.result.now c.in_ok-log.log) c.in_ok-plan.plan c.in-BringsUp.name c.in-BringsUp.branch c.in-BringsUp.last c.in-BringsUp.header c.in-BringsUp.row c.in-BringsUp.is c.in_ok-plan.ensures.keeps).is_moved

pub bring_up_noted-requires-clause-is_header : goal.bring_up_noted-requires-clause-is_header
bring_up_noted-requires-clause-is_header g c lifetimes outlives =
    (kept-up c.args.options.now (parts c.header.result.now c.tables.result.now c.in_ok-log.log) c.in_ok-plan.plan c.in-BringsUp.name c.in-BringsUp.branch c.in-BringsUp.last c.in-BringsUp.header c.in-BringsUp.row c.in-BringsUp.is c.in_ok-plan.ensures.keeps).is_header

pub bring_up_noted-requires-clause-keeps : goal.bring_up_noted-requires-clause-keeps
bring_up_noted-requires-clause-keeps g c lifetimes outlives =
    subst (λ (made : List TableSpec). KeepsSet c.in-BringsUp.header made) c.tables.ensures
    (kept-up c.args.options.now (parts c.header.result.now c.tables.result.now c.in_ok-log.log) c.in_ok-plan.plan c.in-BringsUp.name c.in-BringsUp.branch c.in-BringsUp.last c.in-BringsUp.header c.in-BringsUp.row c.in-BringsUp.is c.in_ok-plan.ensures.keeps).room

pub bring_up_noted-requires-clause-keeps_row : goal.bring_up_noted-requires-clause-keeps_row
bring_up_noted-requires-clause-keeps_row g c lifetimes outlives =
    (kept-up c.args.options.now (parts c.header.result.now c.tables.result.now c.in_ok-log.log) c.in_ok-plan.plan c.in-BringsUp.name c.in-BringsUp.branch c.in-BringsUp.last c.in-BringsUp.header c.in-BringsUp.row c.in-BringsUp.is c.in_ok-plan.ensures.keeps).keeps_row

pub returns-in-Refused-clause-executed : goal.returns-in-Refused-clause-executed
returns-in-Refused-clause-executed g c =
    plan-executed c.args.engine.now c.follow.new.engine (g.D.Device.disk c.args.dev.now) (g.D.Device.disk c.read_log.new.dev) (g.D.Device.disk c.follow.new.dev) (record { item = script.RestoreDatabase c.args.database.now c.args.units.now c.args.disk.now c.args.options.now; line = c.args.line }) c.args.now (plan.Refused c.in-Refused.rule)
    (refused-plan c.args.engine.now _ c.args.options.now _ (record { item = script.RestoreDatabase c.args.database.now c.args.units.now c.args.disk.now c.args.options.now; line = c.args.line }) c.args.now c.in-Refused.rule (of-set c.args.engine.now (position_of c.args.options.now.file) c.args.disk.now c.args.options.now (record { item = script.RestoreDatabase c.args.database.now c.args.units.now c.args.disk.now c.args.options.now; line = c.args.line }) c.args.now (restore.Refused c.in-Refused.rule) c.header.result.now c.tables.result.now c.in_ok-log.log c.args.opened.now.set c.header.ensures c.tables.ensures (subst (λ (p : RestorePlan). IsRestorePlanned c.args.engine.now (FindsSet (position_of c.args.options.now.file) c.args.disk.now (Ok (parts c.header.result.now c.tables.result.now c.in_ok-log.log))) c.args.options.now (Ok (parts c.header.result.now c.tables.result.now c.in_ok-log.log)) (record { item = script.RestoreDatabase c.args.database.now c.args.units.now c.args.disk.now c.args.options.now; line = c.args.line }) c.args.now p) c.in-Refused.is c.in_ok-plan.ensures.plans)))
    (refused-knows c.args.engine.now (g.D.Device.disk c.args.dev.now) (g.D.Device.disk c.read_log.new.dev) _ (record { item = script.RestoreDatabase c.args.database.now c.args.units.now c.args.disk.now c.args.options.now; line = c.args.line }) c.args.now c.in-Refused.rule _ (λ t. g.met.D.Device.lawful t c.args.dev.now) c.read_log.ensures.effect (λ told w stands. finds-set (position_of c.args.options.now.file) c.args.disk.now ((g.D.Device.disk c.args.dev.now).files c.args.opened.now.medium.name) c.args.opened.now.set c.in_ok-log.log w (c.requires.opened told w stands) (c.in_ok-log.ensures.log told)) (λ w sound m. c.statements_do_what_they_may.ensures.may w _ _ _ sound m))
    c.follow.result (record { replies = c.follow.ensures.replies; does = c.follow.ensures.does; crash = c.follow.ensures.crash; still = c.follow.ensures.still; touches = c.follow.ensures.touches })

pub returns-in-Refused-clause-failed : goal.returns-in-Refused-clause-failed
returns-in-Refused-clause-failed g c =
    plan-failed c.args.engine.now c.follow.new.engine (g.D.Device.disk c.args.dev.now) (g.D.Device.disk c.read_log.new.dev) (g.D.Device.disk c.follow.new.dev) (record { item = script.RestoreDatabase c.args.database.now c.args.units.now c.args.disk.now c.args.options.now; line = c.args.line }) c.args.now (plan.Refused c.in-Refused.rule)
    (refused-plan c.args.engine.now _ c.args.options.now _ (record { item = script.RestoreDatabase c.args.database.now c.args.units.now c.args.disk.now c.args.options.now; line = c.args.line }) c.args.now c.in-Refused.rule (of-set c.args.engine.now (position_of c.args.options.now.file) c.args.disk.now c.args.options.now (record { item = script.RestoreDatabase c.args.database.now c.args.units.now c.args.disk.now c.args.options.now; line = c.args.line }) c.args.now (restore.Refused c.in-Refused.rule) c.header.result.now c.tables.result.now c.in_ok-log.log c.args.opened.now.set c.header.ensures c.tables.ensures (subst (λ (p : RestorePlan). IsRestorePlanned c.args.engine.now (FindsSet (position_of c.args.options.now.file) c.args.disk.now (Ok (parts c.header.result.now c.tables.result.now c.in_ok-log.log))) c.args.options.now (Ok (parts c.header.result.now c.tables.result.now c.in_ok-log.log)) (record { item = script.RestoreDatabase c.args.database.now c.args.units.now c.args.disk.now c.args.options.now; line = c.args.line }) c.args.now p) c.in-Refused.is c.in_ok-plan.ensures.plans)))
    (refused-knows c.args.engine.now (g.D.Device.disk c.args.dev.now) (g.D.Device.disk c.read_log.new.dev) _ (record { item = script.RestoreDatabase c.args.database.now c.args.units.now c.args.disk.now c.args.options.now; line = c.args.line }) c.args.now c.in-Refused.rule _ (λ t. g.met.D.Device.lawful t c.args.dev.now) c.read_log.ensures.effect (λ told w stands. finds-set (position_of c.args.options.now.file) c.args.disk.now ((g.D.Device.disk c.args.dev.now).files c.args.opened.now.medium.name) c.args.opened.now.set c.in_ok-log.log w (c.requires.opened told w stands) (c.in_ok-log.ensures.log told)) (λ w sound m. c.statements_do_what_they_may.ensures.may w _ _ _ sound m))
    c.follow.result (record { replies = c.follow.ensures.replies; does = c.follow.ensures.does; crash = c.follow.ensures.crash; still = c.follow.ensures.still; touches = c.follow.ensures.touches })

pub returns-in-Refused-clause-touches : goal.returns-in-Refused-clause-touches
returns-in-Refused-clause-touches g c tells =
    effect_then (touches-nothing (c.read_log.ensures.effect tells)) (wider-touch (λ path none. absurd none) (c.follow.ensures.touches tells))

pub returns-in_err-bring_up_noted-in-BringsUp-clause-failed : goal.returns-in_err-bring_up_noted-in-BringsUp-clause-failed
returns-in_err-bring_up_noted-in-BringsUp-clause-failed g c =
    on-error c.from_residual-in_err-bring_up_noted-in-BringsUp.result (inr (brings-cut g.D.Device.tells c.args.engine.now c.bring_up_noted.new.engine (g.D.Device.disk c.args.dev.now) (g.D.Device.disk c.read_log.new.dev) (g.D.Device.disk c.bring_up_noted.new.dev) (position_of c.args.options.now.file) c.args.disk.now c.args.opened.now.medium.name c.args.opened.now.set c.in_ok-log.log (record { item = script.RestoreDatabase c.args.database.now c.args.units.now c.args.disk.now c.args.options.now; line = c.args.line }) c.args.now c.args.options.now c.in-BringsUp.name c.in-BringsUp.branch c.in-BringsUp.last c.in-BringsUp.header c.in-BringsUp.row
    (record { lawful = (λ t. g.met.D.Device.lawful t c.args.dev.now); call = c.read_log.ensures.effect; opened = c.requires.opened; logs = c.in_ok-log.ensures.log })
    (of-set c.args.engine.now (position_of c.args.options.now.file) c.args.disk.now c.args.options.now (record { item = script.RestoreDatabase c.args.database.now c.args.units.now c.args.disk.now c.args.options.now; line = c.args.line }) c.args.now (restore.BringsUp c.in-BringsUp.name c.in-BringsUp.branch c.in-BringsUp.last c.in-BringsUp.header c.in-BringsUp.row) c.header.result.now c.tables.result.now c.in_ok-log.log c.args.opened.now.set c.header.ensures c.tables.ensures (subst (λ (p : RestorePlan). IsRestorePlanned c.args.engine.now (FindsSet (position_of c.args.options.now.file) c.args.disk.now (Ok (parts c.header.result.now c.tables.result.now c.in_ok-log.log))) c.args.options.now (Ok (parts c.header.result.now c.tables.result.now c.in_ok-log.log)) (record { item = script.RestoreDatabase c.args.database.now c.args.units.now c.args.disk.now c.args.options.now; line = c.args.line }) c.args.now p) c.in-BringsUp.is c.in_ok-plan.ensures.plans))
    c.bring_up_noted.ensures.crash c.bring_up_noted.ensures.touches))

pub returns-in_err-bring_up_noted-in-BringsUp-clause-touches : goal.returns-in_err-bring_up_noted-in-BringsUp-clause-touches
returns-in_err-bring_up_noted-in-BringsUp-clause-touches g c tells =
    effect_then (touches-nothing (c.read_log.ensures.effect tells)) (c.bring_up_noted.ensures.touches tells)

pub returns-clause-touches : goal.returns-clause-touches
returns-clause-touches g c tells =
    effect_then (touches-nothing (c.read_log.ensures.effect tells)) (c.bring_up_noted.ensures.touches tells)

pub returns-in_err-bring_up_noted-in-BringsUp-clause-broken : goal.returns-in_err-bring_up_noted-in-BringsUp-clause-broken
returns-in_err-bring_up_noted-in-BringsUp-clause-broken g c tells =
    let p = err_from_is_err_and c.from_residual-in_err-bring_up_noted-in-BringsUp.result c.from_residual-in_err-bring_up_noted-in-BringsUp.ensures.1 in
    rw (p.1, p.2) (λ is. brings-never g.D.Device.tells c.args.engine.now c.bring_up_noted.new.engine (g.D.Device.disk c.args.dev.now) (g.D.Device.disk c.read_log.new.dev) (g.D.Device.disk c.bring_up_noted.new.dev) (position_of c.args.options.now.file) c.args.disk.now c.args.opened.now.medium.name c.args.opened.now.set c.in_ok-log.log (record { item = script.RestoreDatabase c.args.database.now c.args.units.now c.args.disk.now c.args.options.now; line = c.args.line }) c.args.now c.args.options.now c.in-BringsUp.name c.in-BringsUp.branch c.in-BringsUp.last c.in-BringsUp.header c.in-BringsUp.row
    (record { lawful = (λ t. g.met.D.Device.lawful t c.args.dev.now); call = c.read_log.ensures.effect; opened = c.requires.opened; logs = c.in_ok-log.ensures.log })
    (of-set c.args.engine.now (position_of c.args.options.now.file) c.args.disk.now c.args.options.now (record { item = script.RestoreDatabase c.args.database.now c.args.units.now c.args.disk.now c.args.options.now; line = c.args.line }) c.args.now (restore.BringsUp c.in-BringsUp.name c.in-BringsUp.branch c.in-BringsUp.last c.in-BringsUp.header c.in-BringsUp.row) c.header.result.now c.tables.result.now c.in_ok-log.log c.args.opened.now.set c.header.ensures c.tables.ensures (subst (λ (p : RestorePlan). IsRestorePlanned c.args.engine.now (FindsSet (position_of c.args.options.now.file) c.args.disk.now (Ok (parts c.header.result.now c.tables.result.now c.in_ok-log.log))) c.args.options.now (Ok (parts c.header.result.now c.tables.result.now c.in_ok-log.log)) (record { item = script.RestoreDatabase c.args.database.now c.args.units.now c.args.disk.now c.args.options.now; line = c.args.line }) c.args.now p) c.in-BringsUp.is c.in_ok-plan.ensures.plans))
    tells (c.in_err-bring_up_noted-in-BringsUp.ensures.broken tells (other-error c.in_err-bring_up_noted-in-BringsUp.field-0.0 Broken is)))

pub returns-clause-executed : goal.returns-clause-executed
returns-clause-executed g c =
    brings-executed g.D.Device.tells c.args.engine.now c.bring_up_noted.new.engine (g.D.Device.disk c.args.dev.now) (g.D.Device.disk c.read_log.new.dev) (g.D.Device.disk c.bring_up_noted.new.dev) (position_of c.args.options.now.file) c.args.disk.now c.args.opened.now.medium.name c.args.opened.now.set c.in_ok-log.log (record { item = script.RestoreDatabase c.args.database.now c.args.units.now c.args.disk.now c.args.options.now; line = c.args.line }) c.args.now c.args.options.now c.in-BringsUp.name c.in-BringsUp.branch c.in-BringsUp.last c.in-BringsUp.header c.in-BringsUp.row
    (record { lawful = (λ t. g.met.D.Device.lawful t c.args.dev.now); call = c.read_log.ensures.effect; opened = c.requires.opened; logs = c.in_ok-log.ensures.log })
    (of-set c.args.engine.now (position_of c.args.options.now.file) c.args.disk.now c.args.options.now (record { item = script.RestoreDatabase c.args.database.now c.args.units.now c.args.disk.now c.args.options.now; line = c.args.line }) c.args.now (restore.BringsUp c.in-BringsUp.name c.in-BringsUp.branch c.in-BringsUp.last c.in-BringsUp.header c.in-BringsUp.row) c.header.result.now c.tables.result.now c.in_ok-log.log c.args.opened.now.set c.header.ensures c.tables.ensures (subst (λ (p : RestorePlan). IsRestorePlanned c.args.engine.now (FindsSet (position_of c.args.options.now.file) c.args.disk.now (Ok (parts c.header.result.now c.tables.result.now c.in_ok-log.log))) c.args.options.now (Ok (parts c.header.result.now c.tables.result.now c.in_ok-log.log)) (record { item = script.RestoreDatabase c.args.database.now c.args.units.now c.args.disk.now c.args.options.now; line = c.args.line }) c.args.now p) c.in-BringsUp.is c.in_ok-plan.ensures.plans))
    c.in_ok-bring_up_noted-in-BringsUp.ensures.does c.bring_up_noted.ensures.crash c.bring_up_noted.ensures.touches _ refl
