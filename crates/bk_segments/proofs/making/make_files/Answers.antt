use Rattle.std.proofs.Common.{◌∙◌}
use Rattle.bk_segments.proofs.Makes.{make_first, make_second, make_third}
use Rattle.bk_segments.proofs.making.make_files.Goals as goal

pub returns-in_err-remove_durably-clause-crash : goal.returns-in_err-remove_durably-clause-crash
returns-in_err-remove_durably-clause-crash g c t durable none =
    make_first c.args.db c.args.bytes.now c.deref.result.now (g.D.Device.disk c.args.dev.now) (g.D.Device.disk c.remove_durably.new.dev) (c.deref.ensures ∙ c.in_ok-segment.ensures) durable none (c.remove_durably.ensures.crash t)

pub returns-in_err-control-clause-crash : goal.returns-in_err-control-clause-crash
returns-in_err-control-clause-crash g c t durable none =
    make_second c.args.db c.args.bytes.now c.deref-2.result.now c.deref.result.now (g.D.Device.disk c.args.dev.now) (g.D.Device.disk c.remove_durably.new.dev) (g.D.Device.disk c.make_control.new.dev)
    (c.deref.ensures ∙ c.in_ok-segment.ensures) (c.deref-2.ensures ∙ c.in_ok-name.ensures) durable none (c.remove_durably.ensures.crash t) (c.in_ok-remove_durably.ensures.removed t) (c.in_ok-remove_durably.ensures.durable t) (c.make_control.ensures.crash t)

pub returns-in_err-gate-clause-crash : goal.returns-in_err-gate-clause-crash
returns-in_err-gate-clause-crash g c t durable none =
    let a = g.D.Device.disk c.args.dev.now in
    let b = g.D.Device.disk c.remove_durably.new.dev in
    let d = g.D.Device.disk c.make_control.new.dev in
    let first = c.deref.ensures ∙ c.in_ok-segment.ensures in
    let so_far = make_second c.args.db c.args.bytes.now c.deref-2.result.now c.deref.result.now a b d first (c.deref-2.ensures ∙ c.in_ok-name.ensures) durable none
    (c.remove_durably.ensures.crash t) (c.in_ok-remove_durably.ensures.removed t) (c.in_ok-remove_durably.ensures.durable t) (c.make_control.ensures.crash t) in
    make_third c.args.db c.args.bytes.now c.deref.result.now c.deref-2.result.now a b d (g.D.Device.disk c.begin_segment.new.dev) c.in_ok-control.control first (c.deref-2.ensures ∙ c.in_ok-name.ensures)
    (c.in_ok-control.ensures.name ∙ (c.deref-2.ensures ∙ c.in_ok-name.ensures)) c.in_ok-control.ensures.content (c.in_ok-control.ensures.stands t) (c.in_ok-remove_durably.ensures.removed t) (c.in_ok-remove_durably.ensures.durable t) so_far (c.make_control.ensures.crash t) (c.begin_segment.ensures.crash t)

pub returns-clause-crash : goal.returns-clause-crash
returns-clause-crash g c t durable none =
    let a = g.D.Device.disk c.args.dev.now in
    let b = g.D.Device.disk c.remove_durably.new.dev in
    let d = g.D.Device.disk c.make_control.new.dev in
    let first = c.deref.ensures ∙ c.in_ok-segment.ensures in
    let so_far = make_second c.args.db c.args.bytes.now c.deref-2.result.now c.deref.result.now a b d first (c.deref-2.ensures ∙ c.in_ok-name.ensures) durable none
    (c.remove_durably.ensures.crash t) (c.in_ok-remove_durably.ensures.removed t) (c.in_ok-remove_durably.ensures.durable t) (c.make_control.ensures.crash t) in
    make_third c.args.db c.args.bytes.now c.deref.result.now c.deref-2.result.now a b d (g.D.Device.disk c.begin_segment.new.dev) c.in_ok-control.control first (c.deref-2.ensures ∙ c.in_ok-name.ensures)
    (c.in_ok-control.ensures.name ∙ (c.deref-2.ensures ∙ c.in_ok-name.ensures)) c.in_ok-control.ensures.content (c.in_ok-control.ensures.stands t) (c.in_ok-remove_durably.ensures.removed t) (c.in_ok-remove_durably.ensures.durable t) so_far (c.make_control.ensures.crash t) (c.begin_segment.ensures.crash t)
