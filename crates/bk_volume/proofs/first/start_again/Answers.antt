use Rattle.std.proofs.lemmas.Result.{on_ok_weaker}
use Rattle.std.proofs.Common.{◌≡◌}
use Rattle.bk_gate.specs.Blobs.{sealed}
use Rattle.bk_volume.proofs.Steps.{made_first, made_crash, made_sets}
use Rattle.bk_volume.proofs.first.start_again.Goals as goal

pub returns-in_err-clear-clause-crash : goal.returns-in_err-clear-clause-crash
returns-in_err-clear-clause-crash g c t =
    made_first (λ file. sealed file ≡ sealed ((g.D.Device.disk c.args.dev.now).files c.args.gate.now.name)) c.args.gate.now.name (g.D.Device.disk c.args.dev.now) (g.D.Device.disk c.clear.new.dev) (c.clear.ensures.crash t)

pub returns-clause-crash : goal.returns-clause-crash
returns-clause-crash g c t =
    made_crash (λ file. sealed file ≡ sealed ((g.D.Device.disk c.args.dev.now).files c.args.gate.now.name)) c.args.gate.now.name c.clear.new.self.name (g.D.Device.disk c.args.dev.now) (g.D.Device.disk c.clear.new.dev) (g.D.Device.disk c.append_reserved.new.dev)
    c.clear.ensures.name (c.in_ok-clear.ensures.sealed t) (c.clear.ensures.crash t) (c.append_reserved.ensures.crash t)

pub returns-clause-sets : goal.returns-clause-sets
returns-clause-sets g c t =
    on_ok_weaker c.append_reserved.result (made_sets c.args.gate.now.name c.clear.new.self.name (g.D.Device.disk c.clear.new.dev) (g.D.Device.disk c.append_reserved.new.dev) c.clear.ensures.name (c.in_ok-clear.ensures.sealed t)) (c.append_reserved.ensures.sealed t)
