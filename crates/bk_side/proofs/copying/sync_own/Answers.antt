use Rattle.std.proofs.lemmas.Result.{on_ok_weaker}
use Rattle.bk_device.specs.Laws.{nothing_by_sync, nothing_then}
use Rattle.bk_side.proofs.Finished.{own_synced, own_synced_files, own_synced_same, own_synced_durable}
use Rattle.bk_side.proofs.copying.sync_own.Goals as goal

pub returns-in_err-sync_files-clause-crash : goal.returns-in_err-sync_files-clause-crash
returns-in_err-sync_files-clause-crash g c t = own_synced_files (c.requires t) (c.sync_files.ensures.crash t)

pub returns-clause-same : goal.returns-clause-same
returns-clause-same g c t = on_ok_weaker c.sync.result (own_synced_same (g.D.Device.disk c.args.dev.now) (c.in_ok-sync_files.ensures.same t) (c.sync.ensures.effect t)) (c.sync.ensures.same t)

pub returns-clause-durable : goal.returns-clause-durable
returns-clause-durable g c t = on_ok_weaker c.sync.result (own_synced_durable c.args.names.now (c.in_ok-sync_files.ensures.durable t) (c.sync.ensures.effect t)) (c.sync.ensures.durable t)

pub returns-clause-crash : goal.returns-clause-crash
returns-clause-crash g c t = own_synced (c.requires t) (c.sync_files.ensures.crash t) (c.sync.ensures.effect t)

pub returns-clause-effect : goal.returns-clause-effect
returns-clause-effect g c t = on_ok_weaker c.sync.result (λ same. nothing_then (g.met.D.Device.lawful t c.args.dev.now) (c.in_ok-sync_files.ensures.effect t) (nothing_by_sync (c.sync.ensures.effect t) same)) (c.sync.ensures.same t)
