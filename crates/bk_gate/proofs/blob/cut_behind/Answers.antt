use Rattle.std.proofs.lemmas.Result.{on_ok_weaker}
use Rattle.std.proofs.Common.{refl}
use Rattle.bk_gate.proofs.Steps.{cut_crash, cut_sealed, cut_quiet, cut_there, quiet_none}
use Rattle.bk_gate.proofs.blob.cut_behind.Goals as goal

pub cut-requires : goal.cut-requires
cut-requires g c t =
    let quiet = c.requires t in
    cut_there _ c.args.end _ quiet.1.inside refl

pub returns-then-end-eq18446744073709551615-clause-crash : goal.returns-then-end-eq18446744073709551615-clause-crash
returns-then-end-eq18446744073709551615-clause-crash g c t =
    let quiet = c.requires t in
    quiet_none quiet.0 c.args.end c.args.name.now (g.D.Device.disk c.args.dev.now) quiet.1

pub returns-clause-crash : goal.returns-clause-crash
returns-clause-crash g c t =
    let quiet = c.requires t in
    cut_crash quiet.0 c.args.end _ c.args.name.now (g.D.Device.disk c.args.dev.now) (g.D.Device.disk c.cut.new.self) quiet.1 refl (c.cut.ensures.effect t)

pub returns-clause-sealed : goal.returns-clause-sealed
returns-clause-sealed g c t =
    let quiet = c.requires t in
    on_ok_weaker c.cut.result (cut_sealed quiet.0 c.args.end _ c.args.name.now (g.D.Device.disk c.args.dev.now) (g.D.Device.disk c.cut.new.self) quiet.1 refl) (c.cut.ensures.cut t)

pub returns-clause-quiet : goal.returns-clause-quiet
returns-clause-quiet g c t spans quiet =
    on_ok_weaker c.cut.result (cut_quiet spans c.args.end _ c.args.name.now (g.D.Device.disk c.args.dev.now) (g.D.Device.disk c.cut.new.self) quiet refl (c.cut.ensures.effect t)) (c.cut.ensures.cut t)
