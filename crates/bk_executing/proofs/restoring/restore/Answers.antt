use Rattle.bk_archive.specs.TextLaws.{text-bytes}
use Rattle.bk_device.specs.Compose.{effect_then}
use Rattle.bk_device.specs.Laws.{nothing_yet}
use Rattle.bk_engine.specs.TouchLaws.{wider-touch}
use Rattle.bk_items.specs.declared.item.ScriptEntry.{ScriptEntry}
use Rattle.bk_items.specs.declared.item.ScriptItem.TheVariants as script
use Rattle.bk_plans.specs.declared.parts.Plan.TheVariants as plan
use Rattle.bk_executing.proofs.Planned.{plan-executed, plan-failed, stands-nothing, standing-nothing, touches-nothing}
use Rattle.bk_executing.proofs.RestoringDone.{all-executed, all-failed, none-there, opened-there, refused-always, refused-knows}
use Rattle.bk_volume.specs.Names.{medium_file}
use Rattle.bk_executing.proofs.RestoringFound.{found-so, named-so, refused-so}
use Rattle.bk_executing.proofs.restoring.restore.Goals as goal

pub returns-in-Some-clause-executed : goal.returns-in-Some-clause-executed
returns-in-Some-clause-executed g c =
    let s : ScriptEntry = record { item = script.RestoreDatabase c.args.database.now c.args.units.now c.args.disk.now c.args.options.now; line = c.args.line } in
    plan-executed c.args.engine.now c.follow.new.engine (g.D.Device.disk c.args.dev.now) (g.D.Device.disk c.args.dev.now) (g.D.Device.disk c.follow.new.dev) s c.args.now (plan.Refused c.in-Some.rule) (refused-always c.args.engine.now s c.args.now c.in-Some.rule (λ w. c.in-Some.ensures w c.args.now))
    (refused-knows c.args.engine.now (g.D.Device.disk c.args.dev.now) (g.D.Device.disk c.args.dev.now) (λ w. Unit {0}) s c.args.now c.in-Some.rule _ (λ t. g.met.D.Device.lawful t c.args.dev.now) (λ told. nothing_yet (g.D.Device.disk c.args.dev.now)) (λ told w stands. tt) (λ w sound may. c.statements_do_what_they_may.ensures.may w s c.args.now _ sound may))
    c.follow.result (record { replies = c.follow.ensures.replies; does = c.follow.ensures.does; crash = c.follow.ensures.crash; still = c.follow.ensures.still; touches = c.follow.ensures.touches })

pub returns-in-Some-clause-failed : goal.returns-in-Some-clause-failed
returns-in-Some-clause-failed g c =
    let s : ScriptEntry = record { item = script.RestoreDatabase c.args.database.now c.args.units.now c.args.disk.now c.args.options.now; line = c.args.line } in
    plan-failed c.args.engine.now c.follow.new.engine (g.D.Device.disk c.args.dev.now) (g.D.Device.disk c.args.dev.now) (g.D.Device.disk c.follow.new.dev) s c.args.now (plan.Refused c.in-Some.rule) (refused-always c.args.engine.now s c.args.now c.in-Some.rule (λ w. c.in-Some.ensures w c.args.now))
    (refused-knows c.args.engine.now (g.D.Device.disk c.args.dev.now) (g.D.Device.disk c.args.dev.now) (λ w. Unit {0}) s c.args.now c.in-Some.rule _ (λ t. g.met.D.Device.lawful t c.args.dev.now) (λ told. nothing_yet (g.D.Device.disk c.args.dev.now)) (λ told w stands. tt) (λ w sound may. c.statements_do_what_they_may.ensures.may w s c.args.now _ sound may))
    c.follow.result (record { replies = c.follow.ensures.replies; does = c.follow.ensures.does; crash = c.follow.ensures.crash; still = c.follow.ensures.still; touches = c.follow.ensures.touches })

pub returns-in-Some-clause-touches : goal.returns-in-Some-clause-touches
returns-in-Some-clause-touches g c tells = wider-touch (λ path at. tt) (c.follow.ensures.touches tells)

pub restore_set-requires-clause-medium : goal.restore_set-requires-clause-medium
restore_set-requires-clause-medium g c =
    λ lifetimes outlives. (c.path_of.result.now, text-bytes c.path_of.result.now c.path_of.utf8, named-so (medium_file c.path_of.result.now) _ c.in-Ok.opened c.in-Ok.is c.in_ok-opened.ensures.name)

pub restore_set-requires-clause-opened : goal.restore_set-requires-clause-opened
restore_set-requires-clause-opened g c =
    λ lifetimes outlives tells w stands. opened-there (g.D.Device.disk c.args.dev.now) (g.D.Device.disk c.open_set.new.dev) w c.path_of.result.now _ c.in-Ok.opened.medium.name c.position_of.result _ c.in-Ok.opened.set (c.open_set.ensures.effect tells) c.path_of.ensures c.position_of.ensures
    (named-so (medium_file c.path_of.result.now) _ c.in-Ok.opened c.in-Ok.is c.in_ok-opened.ensures.name) (λ media. found-so w c.path_of.result.now c.position_of.result _ _ c.in-Ok.opened c.in-Ok.is (c.in_ok-opened.ensures.set tells w media)) stands.media

pub restore_set-requires-clause-standing : goal.restore_set-requires-clause-standing
restore_set-requires-clause-standing g c =
    λ lifetimes outlives tells. standing-nothing (g.D.Device.disk c.args.dev.now) (g.D.Device.disk c.open_set.new.dev) c.args.engine.now.hosting.stores (c.open_set.ensures.effect tells) (c.requires.standing tells)

pub refuse-requires-clause-refused : goal.refuse-requires-clause-refused
refuse-requires-clause-refused g c =
    λ tells w stands. none-there (g.D.Device.disk c.args.dev.now) (g.D.Device.disk c.open_set.new.dev) w c.path_of.result.now _ c.position_of.result _ c.in-Err.rule (c.open_set.ensures.effect tells) c.path_of.ensures c.position_of.ensures
    (λ media. refused-so w c.path_of.result.now c.position_of.result _ _ c.in-Err.rule c.in-Err.is (c.in_ok-opened.ensures.set tells w media)) stands.media

pub refuse-requires-clause-standing : goal.refuse-requires-clause-standing
refuse-requires-clause-standing g c =
    λ tells. standing-nothing (g.D.Device.disk c.args.dev.now) (g.D.Device.disk c.open_set.new.dev) c.args.engine.now.hosting.stores (c.open_set.ensures.effect tells) (c.requires.standing tells)

pub returns-in-Ok-clause-executed : goal.returns-in-Ok-clause-executed
returns-in-Ok-clause-executed g c =
    let s : ScriptEntry = record { item = script.RestoreDatabase c.args.database.now c.args.units.now c.args.disk.now c.args.options.now; line = c.args.line } in
    all-executed c.args.engine.now (g.D.Device.disk c.args.dev.now) (g.D.Device.disk c.open_set.new.dev) (g.D.Device.disk c.restore_set.new.dev) s c.args.now (λ t. g.met.D.Device.lawful t c.args.dev.now) c.open_set.ensures.effect c.restore_set.new.engine c.restore_set.result c.restore_set.ensures.executed

pub returns-in-Ok-clause-failed : goal.returns-in-Ok-clause-failed
returns-in-Ok-clause-failed g c =
    let s : ScriptEntry = record { item = script.RestoreDatabase c.args.database.now c.args.units.now c.args.disk.now c.args.options.now; line = c.args.line } in
    all-failed c.args.engine.now (g.D.Device.disk c.args.dev.now) (g.D.Device.disk c.open_set.new.dev) (g.D.Device.disk c.restore_set.new.dev) s c.args.now (λ t. g.met.D.Device.lawful t c.args.dev.now) c.open_set.ensures.effect c.restore_set.result c.restore_set.ensures.failed

pub returns-in-Ok-clause-touches : goal.returns-in-Ok-clause-touches
returns-in-Ok-clause-touches g c tells = effect_then (touches-nothing (c.open_set.ensures.effect tells)) (wider-touch (λ path none. tt) (c.restore_set.ensures.touches tells))

pub returns-in-Ok-clause-broken : goal.returns-in-Ok-clause-broken
returns-in-Ok-clause-broken g c tells is w stands = c.restore_set.ensures.broken tells is w (stands-nothing (g.D.Device.disk c.args.dev.now) (g.D.Device.disk c.open_set.new.dev) c.args.engine.now w (c.open_set.ensures.effect tells) stands)

pub returns-in-Err-clause-executed : goal.returns-in-Err-clause-executed
returns-in-Err-clause-executed g c =
    let s : ScriptEntry = record { item = script.RestoreDatabase c.args.database.now c.args.units.now c.args.disk.now c.args.options.now; line = c.args.line } in
    all-executed c.args.engine.now (g.D.Device.disk c.args.dev.now) (g.D.Device.disk c.open_set.new.dev) (g.D.Device.disk c.refuse.new.dev) s c.args.now (λ t. g.met.D.Device.lawful t c.args.dev.now) c.open_set.ensures.effect c.refuse.new.engine c.refuse.result c.refuse.ensures.executed

pub returns-in-Err-clause-failed : goal.returns-in-Err-clause-failed
returns-in-Err-clause-failed g c =
    let s : ScriptEntry = record { item = script.RestoreDatabase c.args.database.now c.args.units.now c.args.disk.now c.args.options.now; line = c.args.line } in
    all-failed c.args.engine.now (g.D.Device.disk c.args.dev.now) (g.D.Device.disk c.open_set.new.dev) (g.D.Device.disk c.refuse.new.dev) s c.args.now (λ t. g.met.D.Device.lawful t c.args.dev.now) c.open_set.ensures.effect c.refuse.result c.refuse.ensures.failed

pub returns-in-Err-clause-touches : goal.returns-in-Err-clause-touches
returns-in-Err-clause-touches g c tells = effect_then (touches-nothing (c.open_set.ensures.effect tells)) (wider-touch (λ path none. tt) (c.refuse.ensures.touches tells))

pub returns-in-Err-clause-broken : goal.returns-in-Err-clause-broken
returns-in-Err-clause-broken g c tells is w stands = c.refuse.ensures.broken tells is w (stands-nothing (g.D.Device.disk c.args.dev.now) (g.D.Device.disk c.open_set.new.dev) c.args.engine.now w (c.open_set.ensures.effect tells) stands)
