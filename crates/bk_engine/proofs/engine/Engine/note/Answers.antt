use Rattle.std.proofs.Common.{sym, subst}
use Rattle.bk_device.specs.Disk.{IsDurable}
use Rattle.bk_device.specs.Effects.{Effect, IsName, MayLeaveOwn}
use Rattle.bk_hosting.specs.Hosting.{LeavesHosted, own_of}
use Rattle.bk_machine.specs.Acts.{noted}
use Rattle.bk_msdb.specs.Msdb.{Adds, Shows, msdb_file}
use Rattle.bk_stores.specs.Stores.{IsOurs as IsOfStores}
use Rattle.bk_engine.specs.BesideLaws.{stores-stand}
use Rattle.bk_engine.specs.Rows.{rows_in}
use Rattle.bk_engine.specs.Stands.{IsReady, Kept, StandsFor}
use Rattle.bk_engine.specs.TouchLaws.{rows-touch}
use Rattle.bk_engine.proofs.Named.{moved, of-ok, on-all}
use Rattle.bk_engine.proofs.Noted.{noted-crash, noted-stands, rows-keep}
use Rattle.bk_engine.proofs.engine.Engine.note.Goals as goal

pub returns-clause-standing : goal.returns-clause-standing
returns-clause-standing g c = λ tells.
    stores-stand c.args.self.now.hosting.stores (rows-keep (moved g.D.Device.disk c.args.dev.now c.at_rest.new.dev c.at_rest.ensures.same (c.add_row.ensures.spares tells))) (c.requires.standing tells)

pub returns-clause-stands : goal.returns-clause-stands
returns-clause-stands g c = λ tells w is.
    let a = g.D.Device.disk c.args.dev.now in
    let b = g.D.Device.disk c.add_row.new.dev in
    let row = c.args.row.now in
    let shows : Shows (g.D.Device.disk c.at_rest.new.dev).files (rows_in w) = subst (λ d. Shows (g.D.Device.disk d).files (rows_in w)) (sym c.at_rest.ensures.same) is.calm.rows in
    let hosts = c.hosted_databases_follow_acts.ensures.row_noted w row is.hosted is.hosts in
    on-all c.add_row.result (λ value ok.
    noted-stands a b c.args.self.now w row is hosts (c.acts_keep_worlds_sound.ensures.act w (noted row) is.sound tt)
    (moved g.D.Device.disk c.args.dev.now c.at_rest.new.dev c.at_rest.ensures.same (c.add_row.ensures.spares tells))
    (of-ok c.add_row.result value ok (c.add_row.ensures.added tells (rows_in w) shows)) (of-ok c.add_row.result value ok (c.add_row.ensures.durable tells)))

pub returns-clause-crash : goal.returns-clause-crash
returns-clause-crash g c = λ tells w was.
    let a = g.D.Device.disk c.args.dev.now in
    let b = g.D.Device.disk c.add_row.new.dev in
    let e : Kept = record { hosting = c.self.inside.hosting; drawn = c.self.inside.drawn; session = c.self.inside.session; sessions = c.self.inside.sessions.items } in
    let is : StandsFor a e w = subst (λ (k : Kept). StandsFor a k w) (sym c.self.view_is) was in
    let ready : IsReady e = subst IsReady (sym c.self.view_is) c.requires.ready in
    let row = c.args.row.now in
    let hosts = c.hosted_databases_follow_acts.ensures.row_noted w row is.hosted is.hosts in
    let effect = subst (λ d. IsDurable (g.D.Device.disk d) msdb_file → Shows (g.D.Device.disk d).files (rows_in w) → Effect (IsName msdb_file) (Adds (rows_in w) row) (g.D.Device.disk d) b) c.at_rest.ensures.same (c.add_row.ensures.crash tells (rows_in w)) in
    let left = subst (λ d. (image : _) → MayLeaveOwn IsOfStores (g.D.Device.disk d) image → LeavesHosted (own_of e.hosting) is.hosted image) c.at_rest.ensures.same (λ image mine. (c.at_rest.ensures.crash tells is.hosted is.hosting).now image mine) in
    noted-crash a b e w row is hosts ready left (effect is.calm.durable is.calm.rows)

pub returns-clause-touches : goal.returns-clause-touches
returns-clause-touches g c = λ tells. moved g.D.Device.disk c.args.dev.now c.at_rest.new.dev c.at_rest.ensures.same (rows-touch (c.add_row.ensures.spares tells))
