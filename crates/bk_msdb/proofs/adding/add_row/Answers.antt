use Rattle.std.proofs.lemmas.Result.{on_ok_weaker}
use Rattle.std.proofs.Common.{◌≡◌, Some, ◌∙◌, ap}
use Rattle.bk_device.specs.Laws.{nothing_by_sync}
use Rattle.bk_msdb.specs.Spelling.{read_row}
use Rattle.bk_msdb.proofs.Steps.{added_crash, added_shows, none_added, spares_added, spares_none, spares_synced, synced_added}
use Rattle.bk_msdb.proofs.adding.add_row.Goals as goal

pub returns-in_err-bytes-clause-crash : goal.returns-in_err-bytes-clause-crash
returns-in_err-bytes-clause-crash g c t tables durable shows = none_added c.args.row.now tables (g.D.Device.disk c.args.dev.now) durable shows

pub returns-in_err-sync-clause-crash : goal.returns-in_err-sync-clause-crash
returns-in_err-sync-clause-crash g c t tables durable shows = synced_added c.args.row.now tables (g.D.Device.disk c.args.dev.now) (g.D.Device.disk c.sync.new.self) durable shows (c.sync.ensures.effect t)

pub returns-clause-crash : goal.returns-clause-crash
returns-clause-crash g c t tables durable shows =
    let reads : read_row c.deref.result.now ≡ Some c.args.row.now = ap read_row c.deref.ensures.value ∙ c.in_ok-bytes.ensures in
    added_crash c.deref.result.now c.args.row.now tables (g.D.Device.disk c.args.dev.now) (g.D.Device.disk c.sync.new.self) (g.D.Device.disk c.add_blob.new.dev) (g.met.D.Device.lawful t c.args.dev.now)
    (nothing_by_sync (c.sync.ensures.effect t) (c.in_ok-sync.ensures.same t)) shows reads (c.add_blob.ensures.crash t)

pub returns-clause-added : goal.returns-clause-added
returns-clause-added g c t tables shows =
    let reads : read_row c.deref.result.now ≡ Some c.args.row.now = ap read_row c.deref.ensures.value ∙ c.in_ok-bytes.ensures in
    on_ok_weaker c.add_blob.result (added_shows c.deref.result.now c.args.row.now tables (g.D.Device.disk c.args.dev.now) (g.D.Device.disk c.sync.new.self) (g.D.Device.disk c.add_blob.new.dev) (nothing_by_sync (c.sync.ensures.effect t) (c.in_ok-sync.ensures.same t)) shows reads) (c.add_blob.ensures.sealed t)

pub returns-in_err-bytes-clause-spares : goal.returns-in_err-bytes-clause-spares
returns-in_err-bytes-clause-spares g c t = spares_none (g.D.Device.disk c.args.dev.now)

pub returns-in_err-sync-clause-spares : goal.returns-in_err-sync-clause-spares
returns-in_err-sync-clause-spares g c t = spares_synced (g.D.Device.disk c.args.dev.now) (g.D.Device.disk c.sync.new.self) (c.sync.ensures.effect t)

pub returns-clause-spares : goal.returns-clause-spares
returns-clause-spares g c t =
    spares_added (g.D.Device.disk c.args.dev.now) (g.D.Device.disk c.sync.new.self) (g.D.Device.disk c.add_blob.new.dev) (g.met.D.Device.lawful t c.args.dev.now) (nothing_by_sync (c.sync.ensures.effect t) (c.in_ok-sync.ensures.same t)) (c.add_blob.ensures.crash t)
