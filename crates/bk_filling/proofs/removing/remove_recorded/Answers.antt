use Rattle.std.proofs.lemmas.Result.{on_ok_weaker}
use Rattle.std.proofs.Common.{rules, ◌+◌}
use Rattle.bk_segments.specs.Files.{Holds}
use Rattle.bk_filling.proofs.Removed.{between_effect, none_recorded, nothing_durable, nothing_effect, recorded_gone}
use Rattle.bk_filling.proofs.removing.remove_recorded.Goals as goal

pub returns-in_err-head-clause-crash : goal.returns-in_err-head-clause-crash
returns-in_err-head-clause-crash g c t = nothing_effect c.args.db (g.D.Device.disk c.args.dev.now) (g.D.Device.disk c.find_head.new.dev) (c.find_head.ensures.effect t)

pub returns-in_default-clause-gone : goal.returns-in_default-clause-gone
returns-in_default-clause-gone g c t = none_recorded c.args.db (g.D.Device.disk c.args.dev.now) (g.D.Device.disk c.find_head.new.dev) (c.in_ok-head.ensures.none t (search rules))

pub returns-in_default-clause-durable : goal.returns-in_default-clause-durable
returns-in_default-clause-durable g c t are = nothing_durable c.args.db (g.D.Device.disk c.args.dev.now) (g.D.Device.disk c.find_head.new.dev) (c.find_head.ensures.effect t) are

pub returns-in_default-clause-crash : goal.returns-in_default-clause-crash
returns-in_default-clause-crash g c t = nothing_effect c.args.db (g.D.Device.disk c.args.dev.now) (g.D.Device.disk c.find_head.new.dev) (c.find_head.ensures.effect t)

pub returns-clause-gone : goal.returns-clause-gone
returns-clause-gone g c t =
    let holds : Holds (g.D.Device.disk c.args.dev.now).files c.args.db c.in-Some.head = rw c.in-Some.is at (c.in_ok-head.ensures.some t) in
    on_ok_weaker c.remove_segments.result (recorded_gone c.args.db c.in-Some.head (g.D.Device.disk c.args.dev.now) (g.D.Device.disk c.remove_segments.new.dev) holds) (c.remove_segments.ensures.gone t)

pub returns-clause-durable : goal.returns-clause-durable
returns-clause-durable g c t are = c.remove_segments.ensures.durable t (nothing_durable c.args.db (g.D.Device.disk c.args.dev.now) (g.D.Device.disk c.find_head.new.dev) (c.find_head.ensures.effect t) are)

pub returns-clause-crash : goal.returns-clause-crash
returns-clause-crash g c t =
    between_effect c.args.db c.in-Some.head.gone (c.in-Some.head.back + 2) (g.D.Device.disk c.args.dev.now) (g.D.Device.disk c.find_head.new.dev) (g.D.Device.disk c.remove_segments.new.dev) (c.find_head.ensures.effect t) (c.remove_segments.ensures.crash t)
