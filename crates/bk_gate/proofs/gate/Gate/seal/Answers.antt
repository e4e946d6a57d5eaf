use Rattle.std.proofs.Common.{inl}
use Rattle.bk_device.specs.Compose.{effect_weaken}
use Rattle.bk_gate.proofs.Steps.{at_none}
use Rattle.bk_gate.proofs.gate.Gate.seal.Goals as goal

pub returns-in_err-reserve_one_more-clause-crash : goal.returns-in_err-reserve_one_more-clause-crash
returns-in_err-reserve_one_more-clause-crash g c t =
    let gate = c.args.self.now in
    effect_weaken (λ image kept. inl kept) (at_none gate.spans gate.end gate.is_closed gate.name (g.D.Device.disk c.args.dev.now) (c.requires.stands t).at)
