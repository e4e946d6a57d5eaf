use Rattle.std.proofs.lemmas.Result.{on_ok_weaker}
use Rattle.std.proofs.Common.{◌+◌, ◌++◌, length, ap, sym, subst, ◌∙◌}
use Rattle.std.specs.Prelude.{OnOk}
use Rattle.bk_device.specs.Effects.{Effect}
use Rattle.bk_filling.specs.Records.{Spell}
use Rattle.bk_paged.specs.Names.{IsOwn}
use Rattle.bk_segments.specs.Files.{AreDurable as LogsAreDurable}
use Rattle.bk_restoring.specs.contracts.arriving.Arriving.{the_view}
use Rattle.bk_restoring.specs.Arriving.{IsArriving, IsBegun, Kept}
use Rattle.bk_restoring.proofs.Arrived.{log_arrives, log_begun, log_effect, on_ok_both}
use Rattle.bk_restoring.proofs.arriving.Arriving.push_log.Goals as goal

pub returns-clause-stands : goal.returns-clause-stands
returns-clause-stands g c t =
    let a = g.D.Device.disk c.args.dev.now in
    let b = g.D.Device.disk c.push.new.dev in
    let is = subst (IsBegun a) (sym c.self.view_is) (c.requires.stands t) in
    on_ok_weaker c.push.result (λ both. log_begun (the_view c.self.inside) c.push.new.self a b both.0.0 (c.push.ensures.crash t) both.1 is) (on_ok_both _ _ c.push.result c.push.ensures.same (c.push.ensures.stands t))

pub returns-clause-arrives : goal.returns-clause-arrives
returns-clause-arrives g c t given records more arrives spell =
    let a = g.D.Device.disk c.args.dev.now in
    let b = g.D.Device.disk c.push.new.dev in
    let is = subst (λ (k : Kept). IsArriving a.files k given records) (sym c.self.view_is) arrives in
    let mine = subst (λ (k : Kept). Spell c.args.bytes.now (k.log.kept + length records) more) (sym c.self.view_is) spell in
    on_ok_weaker c.push.result (λ held. log_arrives (the_view c.self.inside) c.push.new.self given records (records ++ more) a b (c.push.ensures.crash t) held is) (c.push.ensures.records t records more is.log mine)

pub returns-clause-crash : goal.returns-clause-crash
returns-clause-crash g c t =
    let W : Kept → Type 0 = λ k. Effect (IsOwn k.log.db k.filling.files) (λ _. Unit {0}) (g.D.Device.disk c.args.dev.now) (g.D.Device.disk c.push.new.dev) in
    subst W c.self.view_is (log_effect c.self.inside.log.db c.self.inside.filling.files (g.D.Device.disk c.args.dev.now) (g.D.Device.disk c.push.new.dev) (c.push.ensures.crash t))

pub returns-clause-durable : goal.returns-clause-durable
returns-clause-durable g c t =
    let W : Kept → Type 0 = λ k. LogsAreDurable k.log.db (g.D.Device.disk c.args.dev.now) → OnOk c.push.result (LogsAreDurable k.log.db (g.D.Device.disk c.push.new.dev)) in
    subst W c.self.view_is (c.push.ensures.durable t)

pub returns-clause-same : goal.returns-clause-same
returns-clause-same g c =
    let is = c.self.view_is in
    on_ok_weaker c.push.result (λ same. (ap (λ (k : Kept). k.filling) is, same.0 ∙ ap (λ (k : Kept). k.log.db) is, same.1 ∙ ap (λ (k : Kept). k.log.kept) is)) c.push.ensures.same
