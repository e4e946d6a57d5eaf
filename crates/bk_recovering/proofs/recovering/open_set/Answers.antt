use Rattle.std.proofs.Common.{rules}
use Rattle.std.specs.Prelude.{IsErrOf}
use Rattle.bk_device.specs.Compose.{effect_then}
use Rattle.bk_reopening.specs.OpeningTouchLaws.{files-touched}
use Rattle.bk_reopening.specs.declared.error.OpenError.TheVariants.{Foreign}
use Rattle.bk_reopening.specs.Reopening.{IsClosed}
use Rattle.bk_recovering.proofs.Recovered.{opened-both, opened-touches}
use Rattle.bk_recovering.proofs.recovering.open_set.Goals as goal

pub returns-in_err-store-clause-unfit : goal.returns-in_err-store-clause-unfit
returns-in_err-store-clause-unfit g c = λ tells durable told makes unfit.
    let closed : IsClosed c.args.db told (g.D.Device.disk c.arrive.new.dev) = c.in_ok-arrive.ensures.closed tells durable makes.body makes.records told makes.is makes.log makes.suffices in
    let err : IsErrOf c.load.result Foreign = search rules in
    c.load.ensures.foreign tells err told closed

pub returns-in_err-store-clause-crash : goal.returns-in_err-store-clause-crash
returns-in_err-store-clause-crash g c = λ tells durable told makes.
    let closed : IsClosed c.args.db told (g.D.Device.disk c.arrive.new.dev) = c.in_ok-arrive.ensures.closed tells durable makes.body makes.records told makes.is makes.log makes.suffices in
    effect_then (c.arrive.ensures.crash tells) (opened-touches (g.D.Device.disk c.arrive.new.dev) (g.D.Device.disk c.load.new.dev) c.args.db c.args.files.items told makes.suffices.suffices.files (c.load.ensures.crash tells told closed))

pub returns-clause-stands : goal.returns-clause-stands
returns-clause-stands g c = λ tells durable told makes.
    let closed : IsClosed c.args.db told (g.D.Device.disk c.arrive.new.dev) = c.in_ok-arrive.ensures.closed tells durable makes.body makes.records told makes.is makes.log makes.suffices in
    c.in_ok-store.ensures.stands tells told closed

pub returns-clause-crash : goal.returns-clause-crash
returns-clause-crash g c = λ tells durable told makes.
    let closed : IsClosed c.args.db told (g.D.Device.disk c.arrive.new.dev) = c.in_ok-arrive.ensures.closed tells durable makes.body makes.records told makes.is makes.log makes.suffices in
    effect_then (c.arrive.ensures.crash tells) (opened-touches (g.D.Device.disk c.arrive.new.dev) (g.D.Device.disk c.load.new.dev) c.args.db c.args.files.items told makes.suffices.suffices.files (c.load.ensures.crash tells told closed))

pub returns-clause-touches : goal.returns-clause-touches
returns-clause-touches g c = λ tells.
    opened-both (g.D.Device.disk c.args.dev.now) (g.D.Device.disk c.arrive.new.dev) (g.D.Device.disk c.load.new.dev) c.args.db c.args.files.items c.in_ok-store.store c.in_ok-store.ensures.ends.0 (c.arrive.ensures.crash tells) (c.in_ok-store.ensures.touches tells)

pub returns-in_err-arrive-clause-mine : goal.returns-in_err-arrive-clause-mine
returns-in_err-arrive-clause-mine g c = λ tells. files-touched c.args.db c.args.files.items (c.arrive.ensures.crash tells)

pub returns-in_err-store-clause-mine : goal.returns-in_err-store-clause-mine
returns-in_err-store-clause-mine g c = λ tells. effect_then (files-touched c.args.db c.args.files.items (c.arrive.ensures.crash tells)) (c.load.ensures.mine tells)

pub returns-clause-mine : goal.returns-clause-mine
returns-clause-mine g c = λ tells. effect_then (files-touched c.args.db c.args.files.items (c.arrive.ensures.crash tells)) (c.load.ensures.mine tells)
