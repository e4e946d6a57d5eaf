use Rattle.std.proofs.Common.{◌∙◌}
use Rattle.bk_segments.specs.Files.{segment_file}
use Rattle.bk_segments.proofs.Walks.{opened_gate}
use Rattle.bk_segments.proofs.walk.walk_last.Goals as goal

pub returns-clause-stands : goal.returns-clause-stands
returns-clause-stands g c t durable =
    opened_gate (segment_file c.args.db c.args.n) c.deref.result.now c.deref-4.result.now (g.D.Device.disk c.args.dev.now) (g.D.Device.disk c.read_gate.new.dev) c.in_ok-gate.gate (c.deref.ensures ∙ c.in_ok-name.ensures)
    (c.in_ok-gate.ensures.name ∙ (c.deref-3.ensures ∙ c.in_ok-name.ensures)) c.in_ok-gate.ensures.opened (c.deref-4.ensures.value ∙ c.in_ok-file.ensures.bytes t) (c.read_gate.ensures.effect t) durable
