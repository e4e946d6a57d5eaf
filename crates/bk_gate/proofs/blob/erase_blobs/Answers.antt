use Rattle.std.proofs.Common.{inl}
use Rattle.bk_device.specs.Compose.{effect_weaken}
use Rattle.bk_gate.proofs.Steps.{none_quiet, no_spans, quiet_none}
use Rattle.bk_gate.proofs.blob.erase_blobs.Goals as goal

pub returns-then-not-has_blobs-clause-quiet : goal.returns-then-not-has_blobs-clause-quiet
returns-then-not-has_blobs-clause-quiet g c t =
    let at = c.requires t in
    none_quiet at.0 c.args.end c.args.name.now (g.D.Device.disk c.args.dev.now) (at.3 c.if-not-has_blobs.true) at.1

pub returns-then-not-has_blobs-clause-sealed : goal.returns-then-not-has_blobs-clause-sealed
returns-then-not-has_blobs-clause-sealed g c t =
    let at = c.requires t in
    no_spans c.args.name.now (g.D.Device.disk c.args.dev.now) (none_quiet at.0 c.args.end c.args.name.now (g.D.Device.disk c.args.dev.now) (at.3 c.if-not-has_blobs.true) at.1)

pub returns-then-not-has_blobs-clause-crash : goal.returns-then-not-has_blobs-clause-crash
returns-then-not-has_blobs-clause-crash g c t =
    let at = c.requires t in
    effect_weaken (λ image kept. inl kept) (quiet_none at.0 c.args.end c.args.name.now (g.D.Device.disk c.args.dev.now) at.1)
