use Rattle.std.proofs.lemmas.Result.{on_ok_weaker}
use Rattle.std.proofs.Common.{refl}
use Rattle.bk_msdb.proofs.Steps.{made_file, made_removed, made_written}
use Rattle.bk_msdb.proofs.making.make.Goals as goal

pub returns-in_err-remove_durably-clause-crash : goal.returns-in_err-remove_durably-clause-crash
returns-in_err-remove_durably-clause-crash g c t = made_removed c.args.name.now (g.D.Device.disk c.args.dev.now) (g.D.Device.disk c.remove_durably.new.dev) (c.remove_durably.ensures.crash t)

pub returns-clause-crash : goal.returns-clause-crash
returns-clause-crash g c t =
    made_written 17 c.args.name.now (g.D.Device.disk c.args.dev.now) (g.D.Device.disk c.remove_durably.new.dev) (g.D.Device.disk c.write_durably.new.dev) refl (c.remove_durably.ensures.crash t) (c.in_ok-remove_durably.ensures.removed t)
    (c.write_durably.ensures.crash t)

pub returns-clause-made : goal.returns-clause-made
returns-clause-made g c t = on_ok_weaker c.write_durably.result (made_file c.args.name.now (g.D.Device.disk c.remove_durably.new.dev) (g.D.Device.disk c.write_durably.new.dev) (c.in_ok-remove_durably.ensures.removed t)) (c.write_durably.ensures.written t)
