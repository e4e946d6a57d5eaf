use Rattle.std.proofs.lemmas.Result.{on_ok_weaker}
use Rattle.std.proofs.Common.{rules}
use Rattle.bk_segments.proofs.Settled.{left_then, settled_none}
use Rattle.bk_device.specs.Laws.{nothing_then}
use Rattle.bk_segments.proofs.settling.settle.Goals as goal

pub returns-in_default-clause-settled : goal.returns-in_default-clause-settled
returns-in_default-clause-settled g c t = settled_none c.args.db (c.in_ok-sync_control.ensures.durable t) (c.in_ok-head.ensures.none t (search rules)) (c.find_head.ensures.effect t)

pub returns-clause-crash : goal.returns-clause-crash
returns-clause-crash g c t =
    let lawful = g.met.D.Device.lawful t c.args.dev.now in
    left_then c.args.db lawful (nothing_then lawful (c.in_ok-sync_control.ensures.effect t) (c.find_head.ensures.effect t)) (c.sync_segments.ensures.crash t)

pub returns-clause-effect : goal.returns-clause-effect
returns-clause-effect g c t =
    let lawful = g.met.D.Device.lawful t c.args.dev.now in
    on_ok_weaker c.sync_segments.result (nothing_then lawful (nothing_then lawful (c.in_ok-sync_control.ensures.effect t) (c.find_head.ensures.effect t))) (c.sync_segments.ensures.effect t)
