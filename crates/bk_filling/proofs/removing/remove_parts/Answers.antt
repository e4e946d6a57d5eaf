use Rattle.std.proofs.lemmas.Result.{on_ok_weaker}
use Rattle.std.proofs.Common.{map, inl, inr}
use Rattle.bk_device.specs.Effects.{IsName}
use Rattle.bk_segments.specs.Files.{control_file}
use Rattle.bk_side.specs.Names.{data_file}
use Rattle.bk_filling.specs.Removing.{IsRecorded}
use Rattle.bk_filling.proofs.Removed.{durable_stays, log_effect, log_stays, parts_effect}
use Rattle.bk_filling.proofs.removing.remove_parts.Goals as goal

pub returns-in_err-remove_log-clause-crash : goal.returns-in_err-remove_log-clause-crash
returns-in_err-remove_log-clause-crash g c t = log_effect c.args.db (map data_file c.args.paths.now) (g.D.Device.disk c.args.dev.now) (g.D.Device.disk c.remove_log.new.dev) (c.remove_log.ensures.crash t)

pub returns-clause-segments : goal.returns-clause-segments
returns-clause-segments g c t =
    on_ok_weaker c.remove_pages.result (λ gone. log_stays c.args.db c.args.paths.now (IsRecorded (g.D.Device.disk c.args.dev.now).files c.args.db) (g.D.Device.disk c.remove_log.new.dev) (g.D.Device.disk c.remove_pages.new.dev) (λ name at. inr (at.1, at.5)) (c.in_ok-remove_log.ensures.segments t)
    (c.remove_pages.ensures.crash t)) (c.remove_pages.ensures.gone t)

pub returns-clause-control : goal.returns-clause-control
returns-clause-control g c t =
    on_ok_weaker c.remove_pages.result (λ gone. log_stays c.args.db c.args.paths.now (IsName (control_file c.args.db)) (g.D.Device.disk c.remove_log.new.dev) (g.D.Device.disk c.remove_pages.new.dev) (λ name at. inl at) (c.in_ok-remove_log.ensures.control t) (c.remove_pages.ensures.crash t))
    (c.remove_pages.ensures.gone t)

pub returns-clause-durable : goal.returns-clause-durable
returns-clause-durable g c t are =
    on_ok_weaker c.remove_pages.result (λ gone. durable_stays c.args.db c.args.paths.now (g.D.Device.disk c.remove_log.new.dev) (g.D.Device.disk c.remove_pages.new.dev) (c.remove_pages.ensures.crash t) (c.in_ok-remove_log.ensures.durable t are)) (c.remove_pages.ensures.gone t)

pub returns-clause-crash : goal.returns-clause-crash
returns-clause-crash g c t =
    parts_effect c.args.db (map data_file c.args.paths.now) (g.D.Device.disk c.args.dev.now) (g.D.Device.disk c.remove_log.new.dev) (g.D.Device.disk c.remove_pages.new.dev) (c.remove_log.ensures.crash t) (c.remove_pages.ensures.crash t)
