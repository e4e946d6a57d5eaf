use Rattle.std.proofs.Common.{rules}
use Rattle.std.specs.Prelude.{IsErrOf}
use Rattle.bk_device.specs.Compose.{effect_then}
use Rattle.bk_reopening.specs.OpeningTouchLaws.{own-touched}
use Rattle.bk_recovering.specs.declared.error.RecoverError.TheVariants.{Unfit}
use Rattle.bk_recovering.proofs.Recovered.{said-both, said-touches}
use Rattle.bk_recovering.proofs.recovering.recover.Goals as goal

pub returns-in_err-store-clause-unfit : goal.returns-in_err-store-clause-unfit
returns-in_err-store-clause-unfit g c = λ tells durable told makes unfit.
    let err : IsErrOf c.open_set.result Unfit = search rules in
    c.open_set.ensures.unfit tells durable told makes err

pub returns-in-Ok-clause-stands : goal.returns-in-Ok-clause-stands
returns-in-Ok-clause-stands g c = λ tells durable told r makes last.
    c.in-Ok.ensures.stands tells told r (c.in_ok-store.ensures.stands tells durable told makes) last

pub returns-in-Ok-clause-crash : goal.returns-in-Ok-clause-crash
returns-in-Ok-clause-crash g c = λ tells durable told makes.
    effect_then (c.open_set.ensures.crash tells durable told makes)
    (said-touches (g.D.Device.disk c.open_set.new.dev) (g.D.Device.disk c.open_set.new.dev) (g.D.Device.disk c.say_last.new.dev) c.args.db c.args.files.items told c.in_ok-store.store makes.suffices.suffices.files c.in_ok-store.ensures.ends.0
    (c.in_ok-store.ensures.stands tells durable told makes) (c.say_last.ensures.touches tells))

pub returns-in-Err-clause-crash : goal.returns-in-Err-clause-crash
returns-in-Err-clause-crash g c = λ tells durable told makes.
    effect_then (c.open_set.ensures.crash tells durable told makes)
    (said-touches (g.D.Device.disk c.open_set.new.dev) (g.D.Device.disk c.open_set.new.dev) (g.D.Device.disk c.say_last.new.dev) c.args.db c.args.files.items told c.in_ok-store.store makes.suffices.suffices.files c.in_ok-store.ensures.ends.0
    (c.in_ok-store.ensures.stands tells durable told makes) (c.say_last.ensures.touches tells))

pub returns-in-Ok-clause-touches : goal.returns-in-Ok-clause-touches
returns-in-Ok-clause-touches g c = λ tells.
    said-both (g.D.Device.disk c.args.dev.now) (g.D.Device.disk c.open_set.new.dev) (g.D.Device.disk c.say_last.new.dev) c.args.db c.args.files.items c.in_ok-store.store c.say_last.new.store c.in_ok-store.ensures.ends.0 c.in-Ok.ensures.files
    (c.in_ok-store.ensures.touches tells) (c.say_last.ensures.touches tells)

pub returns-in-Ok-clause-mine : goal.returns-in-Ok-clause-mine
returns-in-Ok-clause-mine g c = λ tells. effect_then (c.open_set.ensures.mine tells) (own-touched c.args.db c.in_ok-store.store.paged c.in_ok-store.ensures.ends.0 (c.say_last.ensures.touches tells))

pub returns-in-Err-clause-mine : goal.returns-in-Err-clause-mine
returns-in-Err-clause-mine g c = λ tells. effect_then (c.open_set.ensures.mine tells) (own-touched c.args.db c.in_ok-store.store.paged c.in_ok-store.ensures.ends.0 (c.say_last.ensures.touches tells))
