use Rattle.std.proofs.lemmas.Result.{on_ok_weaker}
use Rattle.bk_device.specs.Laws.{nothing_then, nothing_by_sync, durable_by_nothing}
use Rattle.bk_master.specs.Master.{made_file}
use Rattle.bk_stores.proofs.Answered.{both-ok}
use Rattle.bk_stores.proofs.Loaded.{own-durable}
use Rattle.bk_stores.proofs.loading.sync_own.Goals as goal

pub returns-clause-durable : goal.returns-clause-durable
returns-clause-durable g c t =
    let b = g.D.Device.disk c.sync-2.new.self in
    both-ok c.sync-2.result (λ same durable. own-durable b (durable_by_nothing made_file (nothing_by_sync (c.sync-2.ensures.effect t) same) (c.in_ok-sync.ensures.durable t)) durable) (c.sync-2.ensures.same t) (c.sync-2.ensures.durable t)

pub returns-clause-effect : goal.returns-clause-effect
returns-clause-effect g c t =
    let lawful = g.met.D.Device.lawful t c.args.dev.now in
    on_ok_weaker c.sync-2.result (λ same. nothing_then lawful (nothing_by_sync (c.sync.ensures.effect t) (c.in_ok-sync.ensures.same t)) (nothing_by_sync (c.sync-2.ensures.effect t) same)) (c.sync-2.ensures.same t)
