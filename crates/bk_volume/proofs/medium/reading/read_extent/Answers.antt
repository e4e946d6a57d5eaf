use Rattle.std.proofs.Common.{replicate, ◌+◌, refl, ap, arith}
use Rattle.bk_device.specs.Calls.{contents}
use Rattle.bk_device.specs.Laws.{nothing_then}
use Rattle.bk_volume.proofs.Behind.{read_whole, extent_read}
use Rattle.bk_volume.proofs.medium.reading.read_extent.Goals as goal

pub returns-clause-extent : goal.returns-clause-extent
returns-clause-extent g c t = λ extent at.
    let file = contents ((g.D.Device.disk c.args.dev.now).files c.args.from.now) in
    extent_read file c.read.new.buf c.read-2.new.buf c.args.at c.place_in.result.0 c.place_in.result.1 extent at
    (read_whole (replicate 6 0) c.read.new.buf file file c.args.at 6 refl refl (omega (arith, at.inside)) (c.in_ok-read.ensures.bytes t))
    (read_whole c.args.buf.now c.read-2.new.buf file (contents ((g.D.Device.disk c.read.new.self).files c.args.from.now)) (c.args.at + 6) 65536 c.requires.size (ap contents ((c.read.ensures.effect t).files c.args.from.now)) (omega (arith, at.inside)) (c.in_ok-read-2.ensures.bytes t))
    c.place_in.ensures.file c.place_in.ensures.extent

pub returns-clause-effect : goal.returns-clause-effect
returns-clause-effect g c t = nothing_then (g.met.D.Device.lawful t c.args.dev.now) (c.read.ensures.effect t) (c.read-2.ensures.effect t)

pub returns-in_err-read-2-clause-effect : goal.returns-in_err-read-2-clause-effect
returns-in_err-read-2-clause-effect g c t = nothing_then (g.met.D.Device.lawful t c.args.dev.now) (c.read.ensures.effect t) (c.read-2.ensures.effect t)
