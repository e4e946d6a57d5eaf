use Rattle.std.proofs.lemmas.Result.{on_ok_weaker}
use Rattle.std.proofs.Common.{ap}
use Rattle.bk_device.specs.Calls.{contents}
use Rattle.bk_device.specs.Compose.{effect_then}
use Rattle.bk_control.proofs.Making.{blank_filled, fill_blank, open_step, open_done}
use Rattle.bk_control.proofs.fresh.open_first.Goals as goal

pub returns-in_err-fill-clause-crash : goal.returns-in_err-fill-clause-crash
returns-in_err-fill-clause-crash g c t =
    fill_blank c.args.name.now c.args.bytes.now (g.D.Device.disk c.args.dev.now) (g.D.Device.disk c.fill.new.dev) (c.requires.blank t) (c.fill.ensures.crash t)

pub returns-clause-crash : goal.returns-clause-crash
returns-clause-crash g c t =
    let disk = g.D.Device.disk in
    let name = c.args.name.now in
    let bytes = c.args.bytes.now in
    effect_then (fill_blank name bytes (disk c.args.dev.now) (disk c.fill.new.dev) (c.requires.blank t) (c.fill.ensures.crash t))
    (open_step name bytes (disk c.fill.new.dev) (disk c.write_durably.new.dev) (blank_filled _ _ (c.requires.blank t) (c.in_ok-fill.ensures.changed t)) (c.in_ok-fill.ensures.filled t) c.requires.short (c.write_durably.ensures.crash t))

pub returns-clause-stands : goal.returns-clause-stands
returns-clause-stands g c t =
    on_ok_weaker c.write_durably.result (λ wrote. open_done c.args.bytes.now _ _ (blank_filled _ _ (c.requires.blank t) (c.in_ok-fill.ensures.changed t)) (c.in_ok-fill.ensures.filled t) c.requires.short (ap contents wrote)) (c.write_durably.ensures.written t)
