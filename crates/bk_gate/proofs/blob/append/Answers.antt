use Rattle.std.proofs.Common.{arith, length}
use Rattle.bk_gate.proofs.Steps.{append_any, append_quiet, append_sealed, on_ok_both}
use Rattle.bk_gate.proofs.blob.append.Goals as goal

pub returns-clause-crash : goal.returns-clause-crash
returns-clause-crash g c t =
    let quiet = c.requires.quiet t in
    append_any quiet.0 c.args.end c.args.at (length c.args.bytes.now) c.args.name.now (g.D.Device.disk c.args.dev.now) (g.D.Device.disk c.write.new.self) quiet.1 c.requires.behind (c.write.ensures.effect t) (c.write.ensures.refused t)

pub returns-clause-quiet : goal.returns-clause-quiet
returns-clause-quiet g c t spans quiet =
    on_ok_both c.write.result (λ small wrote. append_quiet spans c.args.end c.args.at c.args.name.now c.args.bytes.now (g.D.Device.disk c.args.dev.now) (g.D.Device.disk c.write.new.self) quiet (c.requires.behind (omega (arith, small))) (c.write.ensures.effect t) wrote) c.write.ensures.small (c.write.ensures.written t)

pub returns-clause-sealed : goal.returns-clause-sealed
returns-clause-sealed g c t =
    let quiet = c.requires.quiet t in
    on_ok_both c.write.result (λ small wrote. append_sealed quiet.0 c.args.end c.args.at c.args.name.now c.args.bytes.now (g.D.Device.disk c.args.dev.now) (g.D.Device.disk c.write.new.self) quiet.1 (c.requires.behind (omega (arith, small))) wrote) c.write.ensures.small (c.write.ensures.written t)
