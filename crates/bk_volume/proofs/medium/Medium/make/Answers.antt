use Rattle.std.proofs.Common.{false}
use Rattle.bk_volume.proofs.Steps.{made_medium, medium_flag}
use Rattle.bk_volume.proofs.medium.Medium.make.Goals as goal

pub returns-clause-stands : goal.returns-clause-stands
returns-clause-stands g c t = medium_flag false (made_medium c.deref.result.now c.in_ok-gate.ensures.name (c.in_ok-gate.ensures.stands t) (c.in_ok-gate.ensures.sets t))
