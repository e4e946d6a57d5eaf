use Rattle.std.proofs.Common.{rules, ◌+◌, ◌∙◌}
use Rattle.bk_segments.specs.Files.{Holds}
use Rattle.bk_log.proofs.Removals.{remove_nothing, remove_between, remove_all, removed_foreign, removed_begun, none_held, unheld_foreign, unheld_moved}
use Rattle.bk_log.proofs.log.Log.remove.Goals as goal

pub returns-in_err-head-clause-crash : goal.returns-in_err-head-clause-crash
returns-in_err-head-clause-crash g c t durable = remove_nothing c.args.db (g.D.Device.disk c.args.dev.now) (g.D.Device.disk c.find_head.new.dev) durable (c.find_head.ensures.effect t)

pub returns-in_default-clause-gone : goal.returns-in_default-clause-gone
returns-in_default-clause-gone g c t =
    unheld_foreign (g.D.Device.disk c.find_head.new.dev).files c.args.db (unheld_moved (g.D.Device.disk c.args.dev.now) (g.D.Device.disk c.find_head.new.dev) c.args.db (c.find_head.ensures.effect t) (c.in_ok-head.ensures.none t (search rules)))

pub returns-in_default-clause-segments : goal.returns-in_default-clause-segments
returns-in_default-clause-segments g c t = none_held (g.D.Device.disk c.args.dev.now).files (g.D.Device.disk c.find_head.new.dev).files c.args.db (c.in_ok-head.ensures.none t (search rules))

pub returns-in_default-clause-crash : goal.returns-in_default-clause-crash
returns-in_default-clause-crash g c t durable = remove_nothing c.args.db (g.D.Device.disk c.args.dev.now) (g.D.Device.disk c.find_head.new.dev) durable (c.find_head.ensures.effect t)

pub returns-in_err-remove_segments-clause-crash : goal.returns-in_err-remove_segments-clause-crash
returns-in_err-remove_segments-clause-crash g c t durable =
    remove_between c.args.db c.in-Some.head.gone (c.in-Some.head.back + 2) (g.D.Device.disk c.args.dev.now) (g.D.Device.disk c.find_head.new.dev) (g.D.Device.disk c.remove_segments.new.dev) durable (c.find_head.ensures.effect t) (c.remove_segments.ensures.crash t)

pub returns-in_err-remove_durably-clause-crash : goal.returns-in_err-remove_durably-clause-crash
returns-in_err-remove_durably-clause-crash g c t durable =
    remove_all c.args.db c.in-Some.head.gone (c.in-Some.head.back + 2) c.deref.result.now (g.D.Device.disk c.args.dev.now) (g.D.Device.disk c.find_head.new.dev) (g.D.Device.disk c.remove_segments.new.dev) (g.D.Device.disk c.remove_durably.new.dev)
    (c.deref.ensures ∙ c.in_ok-name.ensures) durable (c.find_head.ensures.effect t) (c.remove_segments.ensures.crash t) (c.remove_durably.ensures.crash t)

pub returns-clause-gone : goal.returns-clause-gone
returns-clause-gone g c t = removed_foreign (g.D.Device.disk c.remove_durably.new.dev).files c.args.db c.deref.result.now (c.deref.ensures ∙ c.in_ok-name.ensures) (c.in_ok-remove_durably.ensures.removed t)

pub returns-clause-crash : goal.returns-clause-crash
returns-clause-crash g c t durable =
    remove_all c.args.db c.in-Some.head.gone (c.in-Some.head.back + 2) c.deref.result.now (g.D.Device.disk c.args.dev.now) (g.D.Device.disk c.find_head.new.dev) (g.D.Device.disk c.remove_segments.new.dev) (g.D.Device.disk c.remove_durably.new.dev)
    (c.deref.ensures ∙ c.in_ok-name.ensures) durable (c.find_head.ensures.effect t) (c.remove_segments.ensures.crash t) (c.remove_durably.ensures.crash t)

pub returns-clause-begun : goal.returns-clause-begun
returns-clause-begun g c t =
    let holds : Holds (g.D.Device.disk c.args.dev.now).files c.args.db c.in-Some.head = rw c.in-Some.is at (c.in_ok-head.ensures.some t) in
    removed_begun c.args.db c.in-Some.head c.deref.result.now (g.D.Device.disk c.args.dev.now) (g.D.Device.disk c.remove_segments.new.dev) (g.D.Device.disk c.remove_durably.new.dev)
    (c.deref.ensures ∙ c.in_ok-name.ensures) holds (c.in_ok-remove_segments.ensures.gone t) (c.remove_durably.ensures.crash t)

pub returns-in_default-clause-begun : goal.returns-in_default-clause-begun
returns-in_default-clause-begun g c t head holds = absurd (c.in_ok-head.ensures.none t (search rules) head holds)

pub returns-in_default-clause-control : goal.returns-in_default-clause-control
returns-in_default-clause-control g c t head holds = absurd (c.in_ok-head.ensures.none t (search rules) head holds)
