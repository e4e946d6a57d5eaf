use Rattle.std.proofs.lemmas.Result.{on_ok_weaker}
use Rattle.std.proofs.Common.{◌≡◌, ap, sym, subst}
use Rattle.bk_device.specs.Effects.{Effect}
use Rattle.bk_filling.specs.Filling.{one_more, place_of, Kept as KeptData}
use Rattle.bk_paged.specs.Names.{IsOwn}
use Rattle.bk_segments.specs.Files.{AreDurable as LogsAreDurable}
use Rattle.bk_restoring.specs.contracts.arriving.Arriving.{the_view}
use Rattle.bk_restoring.specs.Arriving.{IsArriving, IsBegun, Kept}
use Rattle.bk_restoring.proofs.Arrived.{data_effect, logs_durable, page_arrives, page_begun}
use Rattle.bk_restoring.proofs.arriving.Arriving.push_page.Goals as goal

pub returns-clause-stands : goal.returns-clause-stands
returns-clause-stands g c t =
    let a = g.D.Device.disk c.args.dev.now in
    let b = g.D.Device.disk c.push.new.dev in
    let is = subst (IsBegun a) (sym c.self.view_is) (c.requires.stands t) in
    on_ok_weaker c.push.result (λ stands. page_begun (the_view c.self.inside) c.push.new.self a b (c.push.ensures.crash t) stands is) (c.push.ensures.stands t)

pub returns-clause-arrives : goal.returns-clause-arrives
returns-clause-arrives g c t given records arrives here =
    let a = g.D.Device.disk c.args.dev.now in
    let b = g.D.Device.disk c.push.new.dev in
    let is = subst (λ (k : Kept). IsArriving a.files k given records) (sym c.self.view_is) arrives in
    let mine = subst (λ (k : Kept). given (place_of k.filling) ≡ c.args.bytes.now) (sym c.self.view_is) here in
    on_ok_weaker c.push.result (λ shows. page_arrives (the_view c.self.inside) c.push.new.self given records a b (c.push.ensures.crash t) shows is) (c.push.ensures.shows t given is.pages mine)

pub returns-clause-crash : goal.returns-clause-crash
returns-clause-crash g c t =
    let W : Kept → Type 0 = λ k. Effect (IsOwn k.log.db k.filling.files) (λ _. Unit {0}) (g.D.Device.disk c.args.dev.now) (g.D.Device.disk c.push.new.dev) in
    subst W c.self.view_is (data_effect c.self.inside.log.db c.self.inside.filling.files (g.D.Device.disk c.args.dev.now) (g.D.Device.disk c.push.new.dev) (c.push.ensures.crash t))

pub returns-clause-durable : goal.returns-clause-durable
returns-clause-durable g c t are =
    let a = g.D.Device.disk c.args.dev.now in
    let b = g.D.Device.disk c.push.new.dev in
    let W : Kept → Type 0 = λ k. LogsAreDurable k.log.db a → LogsAreDurable k.log.db b in
    on_ok_weaker c.push.result (λ stands. subst W c.self.view_is (logs_durable c.self.inside.log.db c.self.inside.filling.files a b (c.push.ensures.crash t)) are) (c.push.ensures.stands t)

pub returns-clause-next : goal.returns-clause-next
returns-clause-next g c =
    let With : KeptData → Kept = λ filling. record (the_view c.self.inside) { filling = filling } in
    let W : Kept → Type 0 = λ k. With c.push.new.self ≡ record k { filling = one_more k.filling } in
    on_ok_weaker c.push.result (λ next. subst W c.self.view_is (ap With next)) c.push.ensures.next
