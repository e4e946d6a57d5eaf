use Rattle.bk_device.specs.Laws.{nothing_then}
use Rattle.bk_control.proofs.control.Control.load.Goals as goal

pub returns-in_err-read_content-clause-effect : goal.returns-in_err-read_content-clause-effect
returns-in_err-read_content-clause-effect g c t =
    let lawful = g.met.D.Device.lawful t c.args.dev.now in
    nothing_then lawful (nothing_then lawful (c.file_len.ensures.effect t) (c.find.ensures.effect t)) (c.read_content.ensures.effect t)

pub returns-clause-effect : goal.returns-clause-effect
returns-clause-effect g c t =
    let lawful = g.met.D.Device.lawful t c.args.dev.now in
    nothing_then lawful (nothing_then lawful (c.file_len.ensures.effect t) (c.find.ensures.effect t)) (c.read_content.ensures.effect t)
