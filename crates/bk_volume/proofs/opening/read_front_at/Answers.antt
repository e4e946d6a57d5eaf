use Rattle.std.proofs.Common.{◌≡◌, length, take, arith}
use Rattle.std.proofs.lemmas.List.{length-take}
use Rattle.bk_device.specs.Calls.{contents}
use Rattle.bk_volume.proofs.Behind.{front_found}
use Rattle.bk_volume.proofs.opening.read_front_at.Goals as goal

pub returns-clause-front : goal.returns-clause-front
returns-clause-front g c t = λ body is spelled.
    let size : length (take c.min-size.result c.args.buffer.now) ≡ c.min-size.result = simp length-take (omega (arith, c.requires.size, c.min-size.ensures)) in
    front_found (contents ((g.D.Device.disk c.args.dev.now).files c.args.from.now)) (take c.min-size.result c.args.buffer.now) c.read.new.buf c.args.at c.args.len c.min-size.result body c.in_ok-found.found is spelled (c.requires.inside t) c.min-size.ensures size
    (c.in_ok-read.ensures.bytes t) c.in_ok-found.ensures.front c.in_ok-found.ensures.inside
