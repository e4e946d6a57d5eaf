use Rattle.std.proofs.lemmas.Result.{on_ok_weaker}
use Rattle.std.proofs.Common.{◌+◌, length, ap, ◌∙◌}
use Rattle.bk_device.specs.Calls.{contents}
use Rattle.bk_gate.specs.Gate.{Kept, begun_of}
use Rattle.bk_volume.specs.Writing.{parts_of}
use Rattle.bk_volume.proofs.Blobs.{parts_sealed_from, parts_crash_from}
use Rattle.bk_volume.proofs.sealing.seal_parts.Goals as goal

pub returns-clause-crash : goal.returns-clause-crash
returns-clause-crash g c t =
    let adds = c.in_ok-put_parts.ensures.added t in
    parts_crash_from c.args.gate.now c.begin.new.self c.put_parts.new.gate (parts_of c.args.parts.front.now (contents ((g.D.Device.disk c.args.dev.now).files c.args.parts.file.now)) c.args.parts.extents c.args.parts.size.now c.args.parts.log)
    c.finalize-digest.result c.put_parts.new.hasher c.begin.ensures c.put_parts.ensures.name adds (c.finalize-digest.ensures (begun_of (g.D.Device.disk c.put_parts.new.dev) c.put_parts.new.gate) adds.hashed)
    (c.put_parts.ensures.crash t) (c.seal_digest.ensures.crash t)

pub returns-clause-sealed : goal.returns-clause-sealed
returns-clause-sealed g c t =
    let adds = c.in_ok-put_parts.ensures.added t in
    on_ok_weaker c.seal_digest.result (parts_sealed_from c.args.gate.now c.begin.new.self c.put_parts.new.gate (parts_of c.args.parts.front.now (contents ((g.D.Device.disk c.args.dev.now).files c.args.parts.file.now)) c.args.parts.extents c.args.parts.size.now c.args.parts.log)
    c.finalize-digest.result c.put_parts.new.hasher (g.D.Device.disk c.seal_digest.new.dev) c.begin.ensures c.put_parts.ensures.name adds (c.finalize-digest.ensures (begun_of (g.D.Device.disk c.put_parts.new.dev) c.put_parts.new.gate) adds.hashed)) (c.seal_digest.ensures.sealed t)

pub returns-clause-count : goal.returns-clause-count
returns-clause-count g c = on_ok_weaker c.seal_digest.result (λ count. count ∙ ap (λ (k : Kept). length k.spans + 1) (c.in_ok-put_parts.ensures.same ∙ ap (λ (k : Kept). record k { begun = c.put_parts.new.gate.begun; is_closed = c.put_parts.new.gate.is_closed }) c.begin.ensures)) c.seal_digest.ensures.count
