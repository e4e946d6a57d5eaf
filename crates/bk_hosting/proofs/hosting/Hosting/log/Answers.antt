use Rattle.std.proofs.Common.{rules, true, ◌≡◌, ◌∙◌, inl, sym, ap, subst, set}
use Rattle.bk_device.specs.Compose.{effect_weaken}
use Rattle.bk_stores.specs.TouchLaws.{none-touched}
use Rattle.bk_hosting.specs.declared.hosting.State.{State}
use Rattle.bk_hosting.specs.Hosting.{IsHosting, Kept, LeavesSaid}
use Rattle.bk_hosting.proofs.Checked.{as-viewed, rest-hosted}
use Rattle.bk_hosting.proofs.SaidHosted.{opened-as, put-there, read-there, said-crash, said-hosting}
use Rattle.bk_hosting.proofs.hosting.Hosting.log.Goals as goal

pub returns-then-not-is_open-clause-crash : goal.returns-then-not-is_open-clause-crash
returns-then-not-is_open-clause-crash g c = λ tells hosted h said is here may. effect_weaken (λ image before. inl before) (rest-hosted (g.D.Device.disk c.args.dev.now) c.args.self.now hosted is)

pub say_on-requires-clause-opened : goal.say_on-requires-clause-opened
say_on-requires-clause-opened g c =
    let x : Kept = record { stores = c.self.inside.stores; states = c.self.inside.states.items } in
    let yes : c.is_open.result ≡ true = search rules in
    opened-as x c.args.self.now c.args.at (sym c.self.view_is) c.requires.ready (c.is_open.ensures.open yes)

pub returns-in_err-say_on-clause-crash : goal.returns-in_err-say_on-clause-crash
returns-in_err-say_on-clause-crash g c = λ tells hosted h said is here may.
    let x : Kept = record { stores = c.self.inside.stores; states = c.self.inside.states.items } in
    let yes : c.is_open.result ≡ true = search rules in
    let opened = opened-as x c.args.self.now c.args.at (sym c.self.view_is) c.requires.ready (c.is_open.ensures.open yes) in
    as-viewed (λ own. LeavesSaid own hosted c.args.at h said c.args.transactions) x c.args.self.now c.self.view_is
    (said-crash (g.D.Device.disk c.args.dev.now) (g.D.Device.disk c.say_on.new.dev) x hosted c.args.at h said c.args.transactions c.args.records.now c.args.lasting
    (subst (λ (k : Kept). IsHosting (g.D.Device.disk c.args.dev.now) k hosted) (sym c.self.view_is) is) here opened may (c.say_on.ensures.crash tells))

pub returns-clause-stands : goal.returns-clause-stands
returns-clause-stands g c = λ tells hosted h said is here may.
    let x : Kept = record { stores = c.self.inside.stores; states = c.self.inside.states.items } in
    let then = c.in_ok-say_on.ensures.slots in
    let yes : c.is_open.result ≡ true = search rules in
    let opened = opened-as x c.args.self.now c.args.at (sym c.self.view_is) c.requires.ready (c.is_open.ensures.open yes) in
    said-hosting (g.D.Device.disk c.args.dev.now) (g.D.Device.disk c.say_on.new.dev) x _ hosted c.args.at h said c.args.transactions c.args.records.now c.args.lasting
    (subst (λ (k : Kept). IsHosting (g.D.Device.disk c.args.dev.now) k hosted) (sym c.self.view_is) is) here opened may
    (record {
      then = then.0;
      slots = then.1;
      stands = c.in_ok-say_on.ensures.stands tells;
      seals = λ tolds told next s stores there all filled. c.in_ok-say_on.ensures.seals tells tolds told next s then.0 stores there all filled (put-there c.self.inside.stores c.say_on.new.stores c.args.at then.0 opened then.1);
    })
    (λ st there. ap (λ (old : State). set c.self.inside.states.items c.args.at (record old { transactions = c.args.transactions })) (c.index_mut.ensures.value ∙ read-there c.self.inside.states.items c.args.at _ st there))

pub returns-clause-crash : goal.returns-clause-crash
returns-clause-crash g c = λ tells hosted h said is here may.
    let x : Kept = record { stores = c.self.inside.stores; states = c.self.inside.states.items } in
    let yes : c.is_open.result ≡ true = search rules in
    let opened = opened-as x c.args.self.now c.args.at (sym c.self.view_is) c.requires.ready (c.is_open.ensures.open yes) in
    as-viewed (λ own. LeavesSaid own hosted c.args.at h said c.args.transactions) x c.args.self.now c.self.view_is
    (said-crash (g.D.Device.disk c.args.dev.now) (g.D.Device.disk c.say_on.new.dev) x hosted c.args.at h said c.args.transactions c.args.records.now c.args.lasting
    (subst (λ (k : Kept). IsHosting (g.D.Device.disk c.args.dev.now) k hosted) (sym c.self.view_is) is) here opened may (c.say_on.ensures.crash tells))

pub returns-clause-lasts : goal.returns-clause-lasts
returns-clause-lasts g c = λ lasts.
    let x : Kept = record { stores = c.self.inside.stores; states = c.self.inside.states.items } in
    let yes : c.is_open.result ≡ true = search rules in
    let then = c.in_ok-say_on.ensures.slots in
    let opened = opened-as x c.args.self.now c.args.at (sym c.self.view_is) c.requires.ready (c.is_open.ensures.open yes) in
    (then.0, put-there c.self.inside.stores c.say_on.new.stores c.args.at then.0 opened then.1, then.3 lasts)

pub returns-then-not-is_open-clause-touches : goal.returns-then-not-is_open-clause-touches
returns-then-not-is_open-clause-touches g c = λ tells. none-touched (g.D.Device.disk c.args.dev.now)
