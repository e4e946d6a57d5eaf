use Rattle.bk_gate.proofs.Steps.{settle_crash, settle_quiet, on_ok_both}
use Rattle.bk_gate.proofs.blob.settle.Goals as goal

pub returns-clause-crash : goal.returns-clause-crash
returns-clause-crash g c t =
    let quiet = c.requires t in
    settle_crash quiet.0 c.args.end c.args.name.now (g.D.Device.disk c.args.dev.now) (g.D.Device.disk c.sync.new.self) quiet.1 (c.sync.ensures.effect t)

pub returns-clause-quiet : goal.returns-clause-quiet
returns-clause-quiet g c t spans quiet =
    on_ok_both c.sync.result (settle_quiet spans c.args.end c.args.name.now (g.D.Device.disk c.args.dev.now) (g.D.Device.disk c.sync.new.self) quiet) (c.sync.ensures.durable t) (c.sync.ensures.same t)
