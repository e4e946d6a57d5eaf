use Rattle.bk_executing.proofs.Planned.{executed-by, failed-by, plan-executed, plan-failed, plan-touches, standing-nothing}
use Rattle.bk_executing.proofs.Catalogued.{catalog-planned, knows-catalog, selecting}
use Rattle.bk_executing.proofs.Queried.{asking, knows-query, query-planned}
use Rattle.bk_executing.proofs.executing.execute.Goals as goal

pub returns-in-BackupDatabase-clause-executed : goal.returns-in-BackupDatabase-clause-executed
returns-in-BackupDatabase-clause-executed g c =
    executed-by g.D.Device.tells c.args.engine.now c.backup.new.engine (g.D.Device.disk c.args.dev.now) (g.D.Device.disk c.backup.new.dev) c.args.statement.now _ c.args.now c.backup.result c.in-BackupDatabase.is c.backup.ensures.executed

pub returns-in-BackupDatabase-clause-failed : goal.returns-in-BackupDatabase-clause-failed
returns-in-BackupDatabase-clause-failed g c =
    failed-by g.D.Device.tells c.args.engine.now (g.D.Device.disk c.args.dev.now) (g.D.Device.disk c.backup.new.dev) c.args.statement.now _ c.args.now c.backup.result c.in-BackupDatabase.is c.backup.ensures.failed

pub returns-in-RestoreDatabase-clause-executed : goal.returns-in-RestoreDatabase-clause-executed
returns-in-RestoreDatabase-clause-executed g c =
    executed-by g.D.Device.tells c.args.engine.now c.restore.new.engine (g.D.Device.disk c.args.dev.now) (g.D.Device.disk c.restore.new.dev) c.args.statement.now _ c.args.now c.restore.result c.in-RestoreDatabase.is c.restore.ensures.executed

pub returns-in-RestoreDatabase-clause-failed : goal.returns-in-RestoreDatabase-clause-failed
returns-in-RestoreDatabase-clause-failed g c =
    failed-by g.D.Device.tells c.args.engine.now (g.D.Device.disk c.args.dev.now) (g.D.Device.disk c.restore.new.dev) c.args.statement.now _ c.args.now c.restore.result c.in-RestoreDatabase.is c.restore.ensures.failed

pub follow-requires-clause-standing : goal.follow-requires-clause-standing
follow-requires-clause-standing g c = λ tells. standing-nothing (g.D.Device.disk c.args.dev.now) (g.D.Device.disk c.answer.new.dev) c.args.engine.now.hosting.stores (c.answer.ensures.effect tells) (c.requires.standing tells)

pub returns-in_ok-reply-in-QueryMedium-clause-executed : goal.returns-in_ok-reply-in-QueryMedium-clause-executed
returns-in_ok-reply-in-QueryMedium-clause-executed g c =
    executed-by g.D.Device.tells c.args.engine.now c.follow.new.engine (g.D.Device.disk c.args.dev.now) (g.D.Device.disk c.follow.new.dev) c.args.statement.now _ c.args.now c.follow.result c.in-QueryMedium.is
    (plan-executed c.args.engine.now c.follow.new.engine (g.D.Device.disk c.args.dev.now) (g.D.Device.disk c.answer.new.dev) (g.D.Device.disk c.follow.new.dev) (asking c.args.statement.now.line c.in-QueryMedium.query c.in-QueryMedium.disk c.in-QueryMedium.file) c.args.now _ (query-planned c.args.engine.now c.args.statement.now.line c.in-QueryMedium.query c.in-QueryMedium.disk c.in-QueryMedium.file c.args.now c.in_ok-reply-in-QueryMedium.reply)
    (knows-query c.args.engine.now (g.D.Device.disk c.args.dev.now) (g.D.Device.disk c.answer.new.dev) c.args.statement.now.line c.in-QueryMedium.query c.in-QueryMedium.disk c.in-QueryMedium.file c.args.now c.in_ok-reply-in-QueryMedium.reply (λ t. g.met.D.Device.lawful t c.args.dev.now) c.answer.ensures.effect (λ t w stands. c.in_ok-reply-in-QueryMedium.ensures.replies t w stands.media))
    c.follow.result (record { replies = c.follow.ensures.replies; does = c.follow.ensures.does; crash = c.follow.ensures.crash; still = c.follow.ensures.still; touches = c.follow.ensures.touches }))

pub returns-in_ok-reply-in-QueryMedium-clause-failed : goal.returns-in_ok-reply-in-QueryMedium-clause-failed
returns-in_ok-reply-in-QueryMedium-clause-failed g c =
    failed-by g.D.Device.tells c.args.engine.now (g.D.Device.disk c.args.dev.now) (g.D.Device.disk c.follow.new.dev) c.args.statement.now _ c.args.now c.follow.result c.in-QueryMedium.is
    (plan-failed c.args.engine.now c.follow.new.engine (g.D.Device.disk c.args.dev.now) (g.D.Device.disk c.answer.new.dev) (g.D.Device.disk c.follow.new.dev) (asking c.args.statement.now.line c.in-QueryMedium.query c.in-QueryMedium.disk c.in-QueryMedium.file) c.args.now _ (query-planned c.args.engine.now c.args.statement.now.line c.in-QueryMedium.query c.in-QueryMedium.disk c.in-QueryMedium.file c.args.now c.in_ok-reply-in-QueryMedium.reply)
    (knows-query c.args.engine.now (g.D.Device.disk c.args.dev.now) (g.D.Device.disk c.answer.new.dev) c.args.statement.now.line c.in-QueryMedium.query c.in-QueryMedium.disk c.in-QueryMedium.file c.args.now c.in_ok-reply-in-QueryMedium.reply (λ t. g.met.D.Device.lawful t c.args.dev.now) c.answer.ensures.effect (λ t w stands. c.in_ok-reply-in-QueryMedium.ensures.replies t w stands.media))
    c.follow.result (record { replies = c.follow.ensures.replies; does = c.follow.ensures.does; crash = c.follow.ensures.crash; still = c.follow.ensures.still; touches = c.follow.ensures.touches }))

pub returns-in_ok-reply-in-QueryMedium-clause-touches : goal.returns-in_ok-reply-in-QueryMedium-clause-touches
returns-in_ok-reply-in-QueryMedium-clause-touches g c tells = plan-touches (g.D.Device.disk c.args.dev.now) (g.D.Device.disk c.answer.new.dev) (g.D.Device.disk c.follow.new.dev) (c.answer.ensures.effect tells) (c.follow.ensures.touches tells)

pub follow-requires-in-SelectCatalog-clause-standing : goal.follow-requires-in-SelectCatalog-clause-standing
follow-requires-in-SelectCatalog-clause-standing g c = λ tells. standing-nothing (g.D.Device.disk c.args.dev.now) (g.D.Device.disk c.list.new.dev) c.args.engine.now.hosting.stores (c.list.ensures.effect tells) (c.requires.standing tells)

pub returns-in_ok-reply-in-SelectCatalog-clause-executed : goal.returns-in_ok-reply-in-SelectCatalog-clause-executed
returns-in_ok-reply-in-SelectCatalog-clause-executed g c =
    executed-by g.D.Device.tells c.args.engine.now c.follow-in-SelectCatalog.new.engine (g.D.Device.disk c.args.dev.now) (g.D.Device.disk c.follow-in-SelectCatalog.new.dev) c.args.statement.now _ c.args.now c.follow-in-SelectCatalog.result c.in-SelectCatalog.is
    (plan-executed c.args.engine.now c.follow-in-SelectCatalog.new.engine (g.D.Device.disk c.args.dev.now) (g.D.Device.disk c.list.new.dev) (g.D.Device.disk c.follow-in-SelectCatalog.new.dev) (selecting c.args.statement.now.line c.in-SelectCatalog.catalog) c.args.now _ (catalog-planned c.args.engine.now c.args.statement.now.line c.in-SelectCatalog.catalog c.args.now c.in_ok-reply-in-SelectCatalog.reply)
    (knows-catalog c.args.engine.now (g.D.Device.disk c.args.dev.now) (g.D.Device.disk c.list.new.dev) c.args.statement.now.line c.in-SelectCatalog.catalog c.args.now c.in_ok-reply-in-SelectCatalog.reply (λ t. g.met.D.Device.lawful t c.args.dev.now) c.list.ensures.effect (λ t w stands. c.in_ok-reply-in-SelectCatalog.ensures.replies t w stands.calm.rows))
    c.follow-in-SelectCatalog.result (record { replies = c.follow-in-SelectCatalog.ensures.replies; does = c.follow-in-SelectCatalog.ensures.does; crash = c.follow-in-SelectCatalog.ensures.crash; still = c.follow-in-SelectCatalog.ensures.still; touches = c.follow-in-SelectCatalog.ensures.touches }))

pub returns-in_ok-reply-in-SelectCatalog-clause-failed : goal.returns-in_ok-reply-in-SelectCatalog-clause-failed
returns-in_ok-reply-in-SelectCatalog-clause-failed g c =
    failed-by g.D.Device.tells c.args.engine.now (g.D.Device.disk c.args.dev.now) (g.D.Device.disk c.follow-in-SelectCatalog.new.dev) c.args.statement.now _ c.args.now c.follow-in-SelectCatalog.result c.in-SelectCatalog.is
    (plan-failed c.args.engine.now c.follow-in-SelectCatalog.new.engine (g.D.Device.disk c.args.dev.now) (g.D.Device.disk c.list.new.dev) (g.D.Device.disk c.follow-in-SelectCatalog.new.dev) (selecting c.args.statement.now.line c.in-SelectCatalog.catalog) c.args.now _ (catalog-planned c.args.engine.now c.args.statement.now.line c.in-SelectCatalog.catalog c.args.now c.in_ok-reply-in-SelectCatalog.reply)
    (knows-catalog c.args.engine.now (g.D.Device.disk c.args.dev.now) (g.D.Device.disk c.list.new.dev) c.args.statement.now.line c.in-SelectCatalog.catalog c.args.now c.in_ok-reply-in-SelectCatalog.reply (λ t. g.met.D.Device.lawful t c.args.dev.now) c.list.ensures.effect (λ t w stands. c.in_ok-reply-in-SelectCatalog.ensures.replies t w stands.calm.rows))
    c.follow-in-SelectCatalog.result (record { replies = c.follow-in-SelectCatalog.ensures.replies; does = c.follow-in-SelectCatalog.ensures.does; crash = c.follow-in-SelectCatalog.ensures.crash; still = c.follow-in-SelectCatalog.ensures.still; touches = c.follow-in-SelectCatalog.ensures.touches }))

pub returns-in_ok-reply-in-SelectCatalog-clause-touches : goal.returns-in_ok-reply-in-SelectCatalog-clause-touches
returns-in_ok-reply-in-SelectCatalog-clause-touches g c tells = plan-touches (g.D.Device.disk c.args.dev.now) (g.D.Device.disk c.list.new.dev) (g.D.Device.disk c.follow-in-SelectCatalog.new.dev) (c.list.ensures.effect tells) (c.follow-in-SelectCatalog.ensures.touches tells)

pub returns-in-Wait-clause-executed : goal.returns-in-Wait-clause-executed
returns-in-Wait-clause-executed g c =
    executed-by g.D.Device.tells c.args.engine.now c.wait.new.engine (g.D.Device.disk c.args.dev.now) (g.D.Device.disk c.wait.new.dev) c.args.statement.now _ c.args.now c.wait.result c.in-Wait.is (c.wait.ensures.executed c.args.statement.now.line)

pub returns-in-Wait-clause-failed : goal.returns-in-Wait-clause-failed
returns-in-Wait-clause-failed g c =
    failed-by g.D.Device.tells c.args.engine.now (g.D.Device.disk c.args.dev.now) (g.D.Device.disk c.wait.new.dev) c.args.statement.now _ c.args.now c.wait.result c.in-Wait.is (c.wait.ensures.failed c.args.statement.now.line)
