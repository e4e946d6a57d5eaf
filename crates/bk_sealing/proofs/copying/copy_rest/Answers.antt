use Rattle.std.proofs.Common.{[], ◌++◌, ◌∙◌}
use Rattle.std.proofs.lemmas.Result.{on_ok_weaker}
use Rattle.bk_device.specs.Compose.{effect_then}
use Rattle.bk_sealing.proofs.Fronts.{all-copied}
use Rattle.bk_sealing.proofs.copying.copy_rest.Goals as goal

pub returns-clause-holds : goal.returns-clause-holds
returns-clause-holds g c = λ tells w now is set guid named apart there front.
    let copied = c.in_ok-copy_extents.ensures.added tells w now.db is there front.extents front.parts in
    on_ok_weaker c.copy_log.result (λ logged. all-copied w c.args.header.now now c.args.rest.now (g.D.Device.disk c.args.dev.now) (g.D.Device.disk c.copy_log.new.dev) c.args.staged.now c.copy_log.new.staged front copied.0 copied.2.0 logged.0 copied.1 copied.2.1 logged.1 logged.2)
    (c.copy_log.ensures.added tells w now.db (c.in_ok-copy_extents.ensures.stands tells w is set guid named apart) there (front.extents ++ copied.2.0) [] copied.2.2)

pub returns-clause-crash : goal.returns-clause-crash
returns-clause-crash g c = λ tells w is set guid named apart. effect_then (c.copy_extents.ensures.crash tells w is) (c.copy_log.ensures.crash tells w (c.in_ok-copy_extents.ensures.stands tells w is set guid named apart))

pub returns-in_err-copy_extents-clause-crash : goal.returns-in_err-copy_extents-clause-crash
returns-in_err-copy_extents-clause-crash g c = λ tells w is set guid named apart. c.copy_extents.ensures.crash tells w is

pub returns-clause-stands : goal.returns-clause-stands
returns-clause-stands g c = λ tells w is set guid named apart.
    on_ok_weaker c.copy_log.result (λ counted. c.copy_log.ensures.stands tells w (c.in_ok-copy_extents.ensures.stands tells w is set guid named apart) set guid (c.copy_extents.ensures.name ∙ named) apart) c.copy_log.ensures.counted

pub returns-clause-touches : goal.returns-clause-touches
returns-clause-touches g c = λ tells. effect_then (c.copy_extents.ensures.touches tells) (c.copy_log.ensures.touches tells)
