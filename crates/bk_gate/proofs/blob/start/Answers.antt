use Rattle.std.proofs.Common.{refl}
use Rattle.bk_gate.proofs.Steps.{start_crash, start_removed, start_quiet, on_ok_both}
use Rattle.bk_gate.proofs.blob.start.Goals as goal

pub returns-in_err-remove_durably-clause-crash : goal.returns-in_err-remove_durably-clause-crash
returns-in_err-remove_durably-clause-crash g c t = start_removed c.args.name.now (g.D.Device.disk c.args.dev.now) (g.D.Device.disk c.remove_durably.new.dev) (c.remove_durably.ensures.crash t)

pub returns-clause-crash : goal.returns-clause-crash
returns-clause-crash g c t = start_crash 17 c.args.name.now (g.D.Device.disk c.args.dev.now) (g.D.Device.disk c.remove_durably.new.dev) (g.D.Device.disk c.write_durably.new.dev) refl (c.remove_durably.ensures.crash t) (c.in_ok-remove_durably.ensures.removed t) (c.write_durably.ensures.crash t)

pub returns-clause-quiet : goal.returns-clause-quiet
returns-clause-quiet g c t = on_ok_both c.write_durably.result (start_quiet c.args.name.now (g.D.Device.disk c.remove_durably.new.dev) (g.D.Device.disk c.write_durably.new.dev) (c.in_ok-remove_durably.ensures.removed t)) (c.write_durably.ensures.written t) (c.write_durably.ensures.durable t)
