use Rattle.std.proofs.Common.{ap, ◌∙◌, arith}
use Rattle.bk_device.specs.Calls.{contents}
use Rattle.bk_gate.specs.Gate.{Kept}
use Rattle.bk_volume.proofs.Behind.{no_extent, extent_found}
use Rattle.bk_volume.proofs.medium.Medium.extent_at.Goals as goal

pub returns-then-extents-i-clause-extent : goal.returns-then-extents-i-clause-extent
returns-then-extents-i-clause-extent g c t = λ body is.
    no_extent (contents ((g.D.Device.disk c.args.dev.now).files c.args.self.now.name)) body c.args.set.now c.args.i is (omega (arith, c.extents.ensures, c.if-extents-i.true))

pub returns-clause-extent : goal.returns-clause-extent
returns-clause-extent g c t = λ body is.
    extent_found (g.D.Device.disk c.args.dev.now).files c.args.self.now.name c.name.result.now c.read_extent.new.buf body c.args.set.now c.args.i c.extent_place-at.result c.in_ok-place.place.0 c.in_ok-place.place.1
    (c.name.ensures ∙ ap (λ (k : Kept). k.name) c.self.view_is) is (omega (arith, c.extents.ensures, c.if-extents-i.false)) c.extent_place-at.ensures.place (λ extent at. c.in_ok-place.ensures.extent t extent at)
