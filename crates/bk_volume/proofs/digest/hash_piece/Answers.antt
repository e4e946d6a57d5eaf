use Rattle.bk_device.specs.Calls.{contents}
use Rattle.bk_volume.proofs.Digests.{hashed_read}
use Rattle.bk_volume.proofs.digest.hash_piece.Goals as goal

pub returns-clause-hashed : goal.returns-clause-hashed
returns-clause-hashed g c t = λ bytes holds.
    hashed_read c.update.new.self bytes c.args.buffer.now c.read.new.buf (contents ((g.D.Device.disk c.args.dev.now).files c.args.from.now)) c.args.at (c.requires t) (c.in_ok-read.ensures.bytes t) (c.update.ensures bytes holds)
