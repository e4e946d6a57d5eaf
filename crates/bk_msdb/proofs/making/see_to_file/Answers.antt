use Rattle.std.proofs.lemmas.Result.{on_ok_weaker}
use Rattle.bk_msdb.proofs.Steps.{is_made_gate, is_unmade_gate, made_gate, made_same, made_sealed, still_same, on_ok_both}
use Rattle.bk_msdb.proofs.making.see_to_file.Goals as goal

pub returns-then-is_made-clause-stands : goal.returns-then-is_made-clause-stands
returns-then-is_made-clause-stands g c t = is_made_gate (g.D.Device.disk c.args.dev.now) c.args.gate.now c.args.is_made c.if-is_made.true (c.requires t)

pub returns-then-is_made-clause-crash : goal.returns-then-is_made-clause-crash
returns-then-is_made-clause-crash g c t = still_same (g.D.Device.disk c.args.dev.now) c.args.gate.now (is_made_gate (g.D.Device.disk c.args.dev.now) c.args.gate.now c.args.is_made c.if-is_made.true (c.requires t))

pub returns-clause-crash : goal.returns-clause-crash
returns-clause-crash g c t =
    let unmade = is_unmade_gate (g.D.Device.disk c.args.dev.now) c.args.gate.now c.args.is_made c.if-is_made.false (c.requires t) in
    made_same c.args.gate.now.name c.name.result.now (g.D.Device.disk c.args.dev.now) (g.D.Device.disk c.make.new.dev) c.name.ensures unmade.durable unmade.none (c.make.ensures.crash t)

pub returns-clause-same : goal.returns-clause-same
returns-clause-same g c t =
    let unmade = is_unmade_gate (g.D.Device.disk c.args.dev.now) c.args.gate.now c.args.is_made c.if-is_made.false (c.requires t) in
    on_ok_weaker c.make.result (made_sealed c.args.gate.now.name c.name.result.now (g.D.Device.disk c.args.dev.now) (g.D.Device.disk c.make.new.dev) c.name.ensures unmade.none) (c.make.ensures.made t)

pub returns-clause-stands : goal.returns-clause-stands
returns-clause-stands g c t =
    let unmade = is_unmade_gate (g.D.Device.disk c.args.dev.now) c.args.gate.now c.args.is_made c.if-is_made.false (c.requires t) in
    on_ok_both c.make.result (made_gate c.name.result.now (g.D.Device.disk c.make.new.dev) c.name.ensures unmade.opened) (c.make.ensures.made t) (c.make.ensures.durable t)
