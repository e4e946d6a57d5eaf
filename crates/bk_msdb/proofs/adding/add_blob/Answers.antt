use Rattle.std.proofs.Common.{◌≡◌, ◌∙◌}
use Rattle.bk_msdb.specs.Msdb.{msdb_file}
use Rattle.bk_msdb.proofs.Steps.{durable_there, grown_there, ready_at, same_name, sealed_there}
use Rattle.bk_msdb.proofs.adding.add_blob.Goals as goal

pub seal_blob-requires-clause-ready : goal.seal_blob-requires-clause-ready
seal_blob-requires-clause-ready g c t =
    ready_at (g.D.Device.disk c.open_file.new.dev) _ c.reserve.new.self _ c.in_ok-reserve.ensures.same (c.in_ok-gate.ensures.ready t (c.requires.durable t))

pub returns-in_err-seal_blob-clause-crash : goal.returns-in_err-seal_blob-clause-crash
returns-in_err-seal_blob-clause-crash g c t =
    let named : c.reserve.new.self.name ≡ msdb_file = same_name c.in_ok-gate.gate c.reserve.new.self c.in_ok-reserve.ensures.same ∙ c.in_ok-gate.ensures.name in
    grown_there c.reserve.new.self.name c.args.bytes.now (g.D.Device.disk c.args.dev.now) (g.D.Device.disk c.open_file.new.dev) (g.D.Device.disk c.seal_blob.new.dev) named (g.met.D.Device.lawful t c.args.dev.now) (c.open_file.ensures.effect t) (c.seal_blob.ensures.crash t)

pub returns-clause-crash : goal.returns-clause-crash
returns-clause-crash g c t =
    let named : c.reserve.new.self.name ≡ msdb_file = same_name c.in_ok-gate.gate c.reserve.new.self c.in_ok-reserve.ensures.same ∙ c.in_ok-gate.ensures.name in
    grown_there c.reserve.new.self.name c.args.bytes.now (g.D.Device.disk c.args.dev.now) (g.D.Device.disk c.open_file.new.dev) (g.D.Device.disk c.seal_blob.new.dev) named (g.met.D.Device.lawful t c.args.dev.now) (c.open_file.ensures.effect t) (c.seal_blob.ensures.crash t)

pub returns-clause-sealed : goal.returns-clause-sealed
returns-clause-sealed g c t =
    let named : c.reserve.new.self.name ≡ msdb_file = same_name c.in_ok-gate.gate c.reserve.new.self c.in_ok-reserve.ensures.same ∙ c.in_ok-gate.ensures.name in
    sealed_there c.reserve.new.self.name c.args.bytes.now (g.D.Device.disk c.args.dev.now) (g.D.Device.disk c.open_file.new.dev) (g.D.Device.disk c.seal_blob.new.dev) named (c.open_file.ensures.effect t) (c.in_ok-seal_blob.ensures.sealed t)

pub returns-clause-durable : goal.returns-clause-durable
returns-clause-durable g c t =
    let named : c.reserve.new.self.name ≡ msdb_file = same_name c.in_ok-gate.gate c.reserve.new.self c.in_ok-reserve.ensures.same ∙ c.in_ok-gate.ensures.name in
    durable_there (g.D.Device.disk c.seal_blob.new.dev) c.reserve.new.self.name named (c.in_ok-seal_blob.ensures.durable t)
