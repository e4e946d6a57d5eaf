use Rattle.std.proofs.Common.{rules, ◌≡◌, ◌∙◌, refl, ap, subst}
use Rattle.std.specs.Prelude.{IsErrOf}
use Rattle.bk_device.specs.Calls.{ChangesNothing}
use Rattle.bk_device.specs.Compose.{effect_then, effect_weaken}
use Rattle.bk_device.specs.Laws.{nothing_then}
use Rattle.bk_master.specs.declared.record.Own.{Own}
use Rattle.bk_master.specs.declared.record.Record.{Record}
use Rattle.bk_stores.specs.Quiet.{AreQuiet}
use Rattle.bk_stores.specs.QuietLaws.{quiet-moved, quiet-record}
use Rattle.bk_stores.specs.declared.error.LoadError.TheVariants.{Broken}
use Rattle.bk_engine.specs.LoadLaws.{load-crash, load-opens, run-begins}
use Rattle.bk_engine.specs.Loading.{Opened}
use Rattle.bk_engine.specs.Stands.{Kept}
use Rattle.bk_engine.specs.TouchLaws.{stores-touch, wider-touch}
use Rattle.bk_engine.specs.Touched.{IsMadeAt, TouchesOnly}
use Rattle.bk_engine.proofs.engine.Engine.load.Goals as goal

pub returns-in_err-hosting-clause-crash : goal.returns-in_err-hosting-clause-crash
returns-in_err-hosting-clause-crash g c = λ tells settled w is.
    load-crash c.args.number (g.D.Device.disk c.args.dev.now) (g.D.Device.disk c.load.new.dev) w settled is (c.load.ensures.crash tells settled is.own is.hosted is.holds)

pub returns-in_err-hosting-clause-broken : goal.returns-in_err-hosting-clause-broken
returns-in_err-hosting-clause-broken g c = λ tells broken settled w is.
    let err : IsErrOf c.load.result Broken = search rules in
    c.load.ensures.broken tells err settled is.own is.hosted is.holds

pub returns-in_err-finish-clause-crash : goal.returns-in_err-finish-clause-crash
returns-in_err-finish-clause-crash g c = λ tells settled w is.
    let a = g.D.Device.disk c.args.dev.now in
    let b = g.D.Device.disk c.load.new.dev in
    let effect = c.load.ensures.crash tells settled is.own is.hosted is.holds in
    let opens : Opened b c.in_ok-hosting.hosting w = load-opens c.args.number a b c.in_ok-hosting.hosting w settled is (c.in_ok-hosting.ensures.stands tells settled is.own is.hosted is.holds) (c.in_ok-hosting.ensures.own tells settled is.own is.hosted is.holds) effect in
    effect_then (load-crash c.args.number a b w settled is effect) (c.finish.ensures.crash tells c.args.number w opens)

pub returns-clause-crash : goal.returns-clause-crash
returns-clause-crash g c = λ tells settled w is.
    let a = g.D.Device.disk c.args.dev.now in
    let b = g.D.Device.disk c.load.new.dev in
    let effect = c.load.ensures.crash tells settled is.own is.hosted is.holds in
    let opens : Opened b c.in_ok-hosting.hosting w = load-opens c.args.number a b c.in_ok-hosting.hosting w settled is (c.in_ok-hosting.ensures.stands tells settled is.own is.hosted is.holds) (c.in_ok-hosting.ensures.own tells settled is.own is.hosted is.holds) effect in
    effect_then (load-crash c.args.number a b w settled is effect) (c.finish.ensures.crash tells c.args.number w opens)

pub returns-clause-stands : goal.returns-clause-stands
returns-clause-stands g c = λ tells settled w is.
    let a = g.D.Device.disk c.args.dev.now in
    let b = g.D.Device.disk c.load.new.dev in
    let effect = c.load.ensures.crash tells settled is.own is.hosted is.holds in
    let opens : Opened b c.in_ok-hosting.hosting w = load-opens c.args.number a b c.in_ok-hosting.hosting w settled is (c.in_ok-hosting.ensures.stands tells settled is.own is.hosted is.holds) (c.in_ok-hosting.ensures.own tells settled is.own is.hosted is.holds) effect in
    let then = c.in_ok-finish.ensures.stands tells w opens in
    let e : Kept = record { hosting = c.finish.new.hosting; drawn = c.own.result.now.counter; session = 1; sessions = c.new.result.items } in
    run-begins (g.D.Device.disk c.finish.new.dev) e w then (c.runs_begin_and_end_in_sound_worlds.ensures.begins w then.sound) (c.hosted_databases_follow_acts.ensures.opened w _ then.hosts) (c.in_ok-finish.ensures.none).0 (ap (λ (o : Own). o.counter) c.own.ensures) refl c.new.ensures.items

pub returns-clause-touches : goal.returns-clause-touches
returns-clause-touches g c = λ tells. effect_then (stores-touch (c.load.ensures.touches tells)) (wider-touch (λ path is. tt) (c.finish.ensures.touches tells))

pub returns-in_err-hosting-clause-touches : goal.returns-in_err-hosting-clause-touches
returns-in_err-hosting-clause-touches g c = λ tells. stores-touch (c.load.ensures.touches tells)

pub returns-in_err-finish-clause-touches : goal.returns-in_err-finish-clause-touches
returns-in_err-finish-clause-touches g c = λ tells. effect_then (stores-touch (c.load.ensures.touches tells)) (wider-touch (λ path is. tt) (c.finish.ensures.touches tells))

pub returns-clause-still : goal.returns-clause-still
returns-clause-still g c = λ tells settled quiet.
    let a = g.D.Device.disk c.args.dev.now in
    let b = g.D.Device.disk c.load.new.dev in
    let call : ChangesNothing a b = c.in_ok-hosting.ensures.still tells settled quiet in
    let here : AreQuiet b.files = quiet-moved call quiet in
    let same : c.in_ok-hosting.hosting.stores.master.record ≡ here.«record» = quiet-record c.in_ok-hosting.hosting.stores.master (c.in_ok-hosting.ensures.standing tells).master here in
    nothing_then (g.met.D.Device.lawful tells c.args.dev.now) call
    (c.in_ok-finish.ensures.still tells (ap (λ (r : Record). r.own.making) same ∙ here.no_medium) (ap (λ (r : Record). r.own.staging) same ∙ here.no_set) (ap (λ (r : Record). r.own.copying) same ∙ here.no_copy))

pub returns-in_err-hosting-clause-spares : goal.returns-in_err-hosting-clause-spares
returns-in_err-hosting-clause-spares g c = λ tells settled w is. stores-touch (effect_weaken (λ image left. tt) (c.load.ensures.crash tells settled is.own is.hosted is.holds))

pub returns-in_err-finish-clause-spares : goal.returns-in_err-finish-clause-spares
returns-in_err-finish-clause-spares g c = λ tells settled w is.
    effect_then (stores-touch (effect_weaken (λ image left. tt) (c.load.ensures.crash tells settled is.own is.hosted is.holds)))
    (subst (λ (o : Own). TouchesOnly (IsMadeAt o.making) (g.D.Device.disk c.load.new.dev) (g.D.Device.disk c.finish.new.dev)) (c.in_ok-hosting.ensures.own tells settled is.own is.hosted is.holds) (c.finish.ensures.touches tells))

pub returns-clause-spares : goal.returns-clause-spares
returns-clause-spares g c = λ tells settled w is.
    effect_then (stores-touch (effect_weaken (λ image left. tt) (c.load.ensures.crash tells settled is.own is.hosted is.holds)))
    (subst (λ (o : Own). TouchesOnly (IsMadeAt o.making) (g.D.Device.disk c.load.new.dev) (g.D.Device.disk c.finish.new.dev)) (c.in_ok-hosting.ensures.own tells settled is.own is.hosted is.holds) (c.finish.ensures.touches tells))

pub returns-clause-made : goal.returns-clause-made
returns-clause-made g c = λ tells. (c.in_ok-finish.ensures.standing tells).master.made
