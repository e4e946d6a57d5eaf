use Rattle.std.proofs.Common.{ap}
use Rattle.bk_device.specs.Calls.{contents}
use Rattle.bk_volume.proofs.Opened.{set_given}
use Rattle.bk_volume.proofs.opening.open_body.Goals as goal

pub returns-clause-set : goal.returns-clause-set
returns-clause-set g c t = λ body is spelled.
    set_given (contents ((g.D.Device.disk c.args.dev.now).files c.args.from.now)) (contents ((g.D.Device.disk c.read_front_at.new.dev).files c.args.from.now)) c.args.at c.args.len body c.in_ok-front.field-0 c.in-Some.front c.in-Some.size c.in_ok-set.set
    (ap contents ((c.read_front_at.ensures.effect t).files c.args.from.now)) c.in-Some.is (c.in_ok-front.ensures.front t body is spelled) spelled (λ here of. c.in_ok-set.ensures.set t body is here of)
