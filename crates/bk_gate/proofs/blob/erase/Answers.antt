use Rattle.std.proofs.Common.{refl, inl, arith}
use Rattle.bk_device.specs.Compose.{effect_weaken}
use Rattle.bk_gate.proofs.Steps.{erase_crash, erase_quiet, no_spans, only_cause, last_cause, on_ok_both}
use Rattle.bk_gate.proofs.blob.erase.Goals as goal

pub returns-clause-crash : goal.returns-clause-crash
returns-clause-crash g c t =
    let disk = g.D.Device.disk in
    let at = c.requires t in
    erase_crash at.0 c.args.end c.args.name.now (disk c.args.dev.now) (disk c.settle.new.dev) (disk c.write_durably.new.dev) at.2 (c.in_ok-settle.ensures.quiet t at.0 at.1) (c.in_ok-settle.ensures.same t) (c.settle.ensures.crash t) (c.write_durably.ensures.crash t)

pub returns-clause-quiet : goal.returns-clause-quiet
returns-clause-quiet g c t =
    let at = c.requires t in
    on_ok_both c.write_durably.result (erase_quiet at.0 c.args.end c.args.name.now (g.D.Device.disk c.settle.new.dev) (g.D.Device.disk c.write_durably.new.dev) (c.in_ok-settle.ensures.quiet t at.0 at.1)) (c.write_durably.ensures.written t) (c.write_durably.ensures.durable t)

pub returns-clause-sealed : goal.returns-clause-sealed
returns-clause-sealed g c t =
    let at = c.requires t in
    on_ok_both c.write_durably.result (λ wrote durable. no_spans c.args.name.now (g.D.Device.disk c.write_durably.new.dev) (erase_quiet at.0 c.args.end c.args.name.now (g.D.Device.disk c.settle.new.dev) (g.D.Device.disk c.write_durably.new.dev) (c.in_ok-settle.ensures.quiet t at.0 at.1) wrote durable)) (c.write_durably.ensures.written t) (c.write_durably.ensures.durable t)

pub settle-requires : goal.settle-requires
settle-requires g c t = ((c.requires t).0, (c.requires t).1)

pub write_durably-requires-clause-inside : goal.write_durably-requires-clause-inside
write_durably-requires-clause-inside g c t =
    let at = c.requires t in
    let stands = (c.in_ok-settle.ensures.quiet t at.0 at.1).stands in
    omega (arith, stands.is_gate.1)

pub write_durably-requires-clause-settled : goal.write_durably-requires-clause-settled
write_durably-requires-clause-settled g c = c.in_ok-settle.ensures.durable

pub returns-in_err-settle-clause-crash : goal.returns-in_err-settle-clause-crash
returns-in_err-settle-clause-crash g c t = effect_weaken (λ image kept. inl kept) (c.settle.ensures.crash t)

pub returns-in_err-settle-clause-cause : goal.returns-in_err-settle-clause-cause
returns-in_err-settle-clause-cause g c = only_cause c.in_err-settle.ensures.cause (λ _. refl)

pub returns-clause-cause : goal.returns-clause-cause
returns-clause-cause g c = last_cause c.in_ok-settle.ensures.cause c.write_durably.ensures.cause (λ is. is)
