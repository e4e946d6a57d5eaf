use Rattle.std.proofs.Common.{◌∙◌, refl, take}
use Rattle.bk_device.specs.Calls.{contents}
use Rattle.bk_device.specs.Laws.{filled_whole}
use Rattle.bk_gate.proofs.Reading.{tested}
use Rattle.bk_gate.proofs.read.begins_well.Goals as goal

pub returns-clause-value : goal.returns-clause-value
returns-clause-value g c t whole =
    let file = contents ((g.D.Device.disk c.args.dev.now).files c.args.name.now) in
    tested c.eq.result c.read.new.buf (take 16 file) (c.in_ok-read.ensures.bytes t ∙ filled_whole _ file 0 16 refl whole) c.eq.ensures
