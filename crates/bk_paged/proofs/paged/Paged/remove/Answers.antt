use Rattle.bk_device.specs.Compose.{effect_then}
use Rattle.bk_paged.proofs.Made.{foreign_none}
use Rattle.bk_paged.proofs.Removed.{absent_then, holds_still, log_gone, log_left_then}
use Rattle.bk_paged.proofs.paged.Paged.remove.Goals as goal

pub returns-in_err-remove-clause-crash : goal.returns-in_err-remove-clause-crash
returns-in_err-remove-clause-crash g c t durable files names =
    let named = c.in_ok-remove_named.ensures in
    effect_then (c.remove_named.ensures.crash t durable files names)
    (log_left_then c.args.db files (g.D.Device.disk c.remove_named.new.dev) (g.D.Device.disk c.remove.new.dev) (named.gone t files names) (c.remove.ensures.crash t (named.control t)))

pub returns-clause-crash : goal.returns-clause-crash
returns-clause-crash g c t durable files names =
    let named = c.in_ok-remove_named.ensures in
    effect_then (c.remove_named.ensures.crash t durable files names)
    (log_left_then c.args.db files (g.D.Device.disk c.remove_named.new.dev) (g.D.Device.disk c.remove.new.dev) (named.gone t files names) (c.remove.ensures.crash t (named.control t)))

pub returns-clause-pages : goal.returns-clause-pages
returns-clause-pages g c t files names =
    let named = c.in_ok-remove_named.ensures in
    absent_then c.args.db files (g.D.Device.disk c.remove_named.new.dev) (g.D.Device.disk c.remove.new.dev) (named.gone t files names) (c.remove.ensures.crash t (named.control t))

pub returns-clause-log : goal.returns-clause-log
returns-clause-log g c t = foreign_none c.args.db (g.D.Device.disk c.remove.new.dev).files (c.in_ok-remove.ensures.gone t)

pub returns-clause-gone : goal.returns-clause-gone
returns-clause-gone g c t head holds =
    let b = (g.D.Device.disk c.remove_named.new.dev).files in
    let log = c.in_ok-remove.ensures in
    log_gone c.args.db head b (g.D.Device.disk c.remove.new.dev).files (holds_still c.args.db (g.D.Device.disk c.args.dev.now).files b head (c.in_ok-remove_named.ensures.same t) holds) (log.control t) (log.segments t) (log.begun t)
