use Rattle.std.proofs.Common.{ap, arith, length}
use Rattle.bk_device.specs.Calls.{contents}
use Rattle.bk_device.specs.Laws.{nothing_then}
use Rattle.bk_gate.proofs.Steps.{on_ok_any}
use Rattle.bk_gate.proofs.whole.read_file.Goals as goal

pub read_span-requires : goal.read_span-requires
read_span-requires g c t = omega (arith, c.in_ok-len.ensures.len t, ap length (ap contents ((c.check.ensures.effect t).files c.args.name.now)))

pub returns-in_err-len-clause-effect : goal.returns-in_err-len-clause-effect
returns-in_err-len-clause-effect g c = c.check.ensures.effect

pub returns-clause-effect : goal.returns-clause-effect
returns-clause-effect g c t = nothing_then (g.met.D.Device.lawful t c.args.dev.now) (c.check.ensures.effect t) (c.read_span.ensures.effect t)

pub returns-clause-gate_file : goal.returns-clause-gate_file
returns-clause-gate_file g c t = on_ok_any c.read_span.result (c.in_ok-len.ensures.gate_file t)
