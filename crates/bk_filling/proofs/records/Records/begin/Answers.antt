use Rattle.bk_segments.specs.Files.{segment_file}
use Rattle.bk_filling.proofs.Blobs.{any_effect, durable_more, first_begun, first_records}
use Rattle.bk_filling.proofs.records.Records.begin.Goals as goal

pub returns-in_err-gate-clause-crash : goal.returns-in_err-gate-clause-crash
returns-in_err-gate-clause-crash g c t = any_effect c.args.db 1 (g.D.Device.disk c.args.dev.now) (g.D.Device.disk c.begin_segment.new.dev) (c.begin_segment.ensures.crash t)

pub returns-clause-stands : goal.returns-clause-stands
returns-clause-stands g c t =
    first_begun c.args.db c.args.kept c.in_ok-gate.gate (g.D.Device.disk c.args.dev.now) (g.D.Device.disk c.begin_segment.new.dev) (c.requires t) c.in_ok-gate.ensures.name (c.in_ok-gate.ensures.stands t) (c.in_ok-gate.ensures.durable t)
    (c.in_ok-gate.ensures.sealed t) (c.begin_segment.ensures.crash t)

pub returns-clause-none : goal.returns-clause-none
returns-clause-none g c t = first_records c.args.db c.args.kept c.in_ok-gate.gate (g.D.Device.disk c.begin_segment.new.dev) (c.in_ok-gate.ensures.sealed t)

pub returns-clause-crash : goal.returns-clause-crash
returns-clause-crash g c t = any_effect c.args.db 1 (g.D.Device.disk c.args.dev.now) (g.D.Device.disk c.begin_segment.new.dev) (c.begin_segment.ensures.crash t)

pub returns-clause-durable : goal.returns-clause-durable
returns-clause-durable g c t = durable_more c.args.db (segment_file c.args.db 1) (g.D.Device.disk c.args.dev.now) (g.D.Device.disk c.begin_segment.new.dev) (c.begin_segment.ensures.crash t) (c.in_ok-gate.ensures.durable t)
