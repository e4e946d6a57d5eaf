use Rattle.bk_control.proofs.Making.{laid_crash, make_crash, made_control}
use Rattle.bk_control.proofs.control.Control.make.Goals as goal

pub returns-in_err-lay-clause-crash : goal.returns-in_err-lay-clause-crash
returns-in_err-lay-clause-crash g c t =
    laid_crash c.args.name.now c.args.bytes.now (g.D.Device.disk c.args.dev.now) (g.D.Device.disk c.lay.new.dev) (c.lay.ensures.crash t)

pub returns-in_err-open_first-clause-crash : goal.returns-in_err-open_first-clause-crash
returns-in_err-open_first-clause-crash g c t =
    make_crash c.args.name.now c.args.bytes.now (g.D.Device.disk c.args.dev.now) (g.D.Device.disk c.lay.new.dev) (g.D.Device.disk c.open_first.new.dev) (c.lay.ensures.crash t) (c.open_first.ensures.crash t)

pub returns-clause-crash : goal.returns-clause-crash
returns-clause-crash g c t =
    make_crash c.args.name.now c.args.bytes.now (g.D.Device.disk c.args.dev.now) (g.D.Device.disk c.lay.new.dev) (g.D.Device.disk c.open_first.new.dev) (c.lay.ensures.crash t) (c.open_first.ensures.crash t)

pub returns-clause-name : goal.returns-clause-name
returns-clause-name g c = c.in_ok-name_kept.ensures.ok

pub returns-clause-stands : goal.returns-clause-stands
returns-clause-stands g c t =
    made_control c.args.name.now c.args.bytes.now _ _ (g.D.Device.disk c.open_first.new.dev) (c.in_ok-open_first.ensures.stands t) (c.in_ok-open_first.ensures.durable t) c.in_ok-name_kept.ensures.ok c.refill.ensures.items
