use Rattle.std.proofs.Common.{sym, subst, ◌∙◌}
use Rattle.bk_filling.specs.Removing.{IsRecorded}
use Rattle.bk_filling.proofs.Blobs.{durable_more}
use Rattle.bk_filling.proofs.Removed.{Gone, all_gone, control_effect}
use Rattle.bk_filling.proofs.removing.remove_log.Goals as goal

pub returns-in_err-remove_durably-clause-crash : goal.returns-in_err-remove_durably-clause-crash
returns-in_err-remove_durably-clause-crash g c t =
    let a = g.D.Device.disk c.args.dev.now in
    let b = g.D.Device.disk c.remove_recorded.new.dev in
    let d = g.D.Device.disk c.remove_durably.new.dev in
    control_effect c.args.db c.deref.result.now a b d (c.deref.ensures ∙ c.in_ok-name.ensures) (c.remove_recorded.ensures.crash t) (c.remove_durably.ensures.crash t)

pub returns-clause-crash : goal.returns-clause-crash
returns-clause-crash g c t =
    let a = g.D.Device.disk c.args.dev.now in
    let b = g.D.Device.disk c.remove_recorded.new.dev in
    let d = g.D.Device.disk c.remove_durably.new.dev in
    control_effect c.args.db c.deref.result.now a b d (c.deref.ensures ∙ c.in_ok-name.ensures) (c.remove_recorded.ensures.crash t) (c.remove_durably.ensures.crash t)

pub returns-clause-segments : goal.returns-clause-segments
returns-clause-segments g c t =
    all_gone (IsRecorded (g.D.Device.disk c.args.dev.now).files c.args.db) c.deref.result.now (g.D.Device.disk c.remove_recorded.new.dev) (g.D.Device.disk c.remove_durably.new.dev) (c.in_ok-remove_recorded.ensures.gone t) (c.remove_durably.ensures.crash t)
    (c.in_ok-remove_durably.ensures.removed t, c.in_ok-remove_durably.ensures.durable t)

pub returns-clause-control : goal.returns-clause-control
returns-clause-control g c t name at =
    subst (Gone (g.D.Device.disk c.remove_durably.new.dev)) (c.deref.ensures ∙ c.in_ok-name.ensures ∙ sym at) (c.in_ok-remove_durably.ensures.removed t, c.in_ok-remove_durably.ensures.durable t)

pub returns-clause-durable : goal.returns-clause-durable
returns-clause-durable g c t are =
    durable_more c.args.db c.deref.result.now (g.D.Device.disk c.remove_recorded.new.dev) (g.D.Device.disk c.remove_durably.new.dev) (c.remove_durably.ensures.crash t) (c.in_ok-remove_durably.ensures.durable t) (c.in_ok-remove_recorded.ensures.durable t are)
