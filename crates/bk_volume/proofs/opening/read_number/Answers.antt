use Rattle.std.proofs.Common.{refl, ap, ◌∙◌}
use Rattle.bk_bytes.specs.Field.{number_of}
use Rattle.bk_device.specs.Calls.{contents}
use Rattle.bk_device.specs.Laws.{filled_whole}
use Rattle.bk_volume.proofs.opening.read_number.Goals as goal

pub returns-clause-number : goal.returns-clause-number
returns-clause-number g c t =
    c.number_in.ensures ∙ ap (number_of 8) (c.in_ok-read.ensures.bytes t ∙ filled_whole _ (contents ((g.D.Device.disk c.args.dev.now).files c.args.from.now)) c.args.at 8 refl (c.requires t))
