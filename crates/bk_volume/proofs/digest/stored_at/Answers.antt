use Rattle.std.proofs.Common.{refl, ◌∙◌}
use Rattle.bk_device.specs.Calls.{contents}
use Rattle.bk_device.specs.Laws.{filled_whole}
use Rattle.bk_volume.proofs.digest.stored_at.Goals as goal

pub returns-clause-digest : goal.returns-clause-digest
returns-clause-digest g c t =
    c.in_ok-read.ensures.bytes t ∙ filled_whole _ (contents ((g.D.Device.disk c.args.dev.now).files c.args.from.now)) c.args.at 32 refl (c.requires t)
