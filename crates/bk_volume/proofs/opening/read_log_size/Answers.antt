use Rattle.std.proofs.Common.{◌≡◌, ℕ, Some, length, ap, arith, ◌∙◌}
use Rattle.bk_device.specs.Calls.{contents}
use Rattle.bk_volume.proofs.Behind.{behind_length, log_number}
use Rattle.bk_volume.proofs.opening.read_log_size.Goals as goal

pub returns-then-len-least-clause-size : goal.returns-then-len-least-clause-size
returns-then-len-least-clause-size g c = λ t body are.
    absurd (omega (arith, c.if-len-least.true, behind_length (contents ((g.D.Device.disk c.args.dev.now).files c.args.from.now)) c.args.at c.args.len c.args.extents body (c.requires.inside t) are))

pub returns-then-size-rest-clause-size : goal.returns-then-size-rest-clause-size
returns-then-size-rest-clause-size g c = λ t body are.
    let size_is : c.in_ok-size.size ≡ length body.log = c.in_ok-size.ensures.number t ∙ log_number (contents ((g.D.Device.disk c.args.dev.now).files c.args.from.now)) c.args.at c.args.len c.args.extents body (c.requires.inside t) are in
    absurd (c.if-size-rest.true (omega (arith, size_is, behind_length (contents ((g.D.Device.disk c.args.dev.now).files c.args.from.now)) c.args.at c.args.len c.args.extents body (c.requires.inside t) are)))

pub returns-clause-size : goal.returns-clause-size
returns-clause-size g c = λ t body are.
    ap (λ (n : ℕ). Some n) (c.in_ok-size.ensures.number t ∙ log_number (contents ((g.D.Device.disk c.args.dev.now).files c.args.from.now)) c.args.at c.args.len c.args.extents body (c.requires.inside t) are)
