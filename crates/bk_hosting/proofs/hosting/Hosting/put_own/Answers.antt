use Rattle.std.proofs.Common.{◌⊎◌, ◌∙◌, refl, sym, ap, subst}
use Rattle.bk_master.specs.declared.record.Record.{Record}
use Rattle.bk_hosting.specs.Hosting.{IsHosting, IsReady, Kept, LeavesHosted}
use Rattle.bk_hosting.proofs.Answered.{answered, so}
use Rattle.bk_hosting.proofs.Asked.{owned-hosting, owned-left, owned-ready}
use Rattle.bk_hosting.proofs.Checked.{as-viewed}
use Rattle.bk_hosting.proofs.hosting.Hosting.put_own.Goals as goal

pub returns-clause-ready : goal.returns-clause-ready
returns-clause-ready g c =
    answered c.put_own.result
    (λ _ got.
    let x : Kept = record { stores = c.self.inside.stores; states = c.self.inside.states.items } in
    let new : Kept = record { stores = c.put_own.new.self; states = c.self.inside.states.items } in
    let ready : IsReady x = subst IsReady (sym c.self.view_is) c.requires.ready in
    owned-ready x new ready (so c.put_own.result got (c.put_own.ensures.ready ready.stores)) (so c.put_own.result got c.put_own.ensures.slots) refl)

pub returns-clause-own : goal.returns-clause-own
returns-clause-own g c =
    answered c.put_own.result
    (λ _ got.
    ap (λ (r : Record). r.own) (so c.put_own.result got c.put_own.ensures.put))

pub returns-clause-same : goal.returns-clause-same
returns-clause-same g c =
    answered c.put_own.result
    (λ _ got.
    (ap (λ (k : Kept). k.states) c.self.view_is, (so c.put_own.result got c.put_own.ensures.slots) ∙ ap (λ (k : Kept). k.stores.slots) c.self.view_is))

pub returns-clause-stands : goal.returns-clause-stands
returns-clause-stands g c = λ tells hosted is.
    answered c.put_own.result
    (λ _ got.
    let a = g.D.Device.disk c.args.dev.now in
    let b = g.D.Device.disk c.put_own.new.dev in
    let x : Kept = record { stores = c.self.inside.stores; states = c.self.inside.states.items } in
    let new : Kept = record { stores = c.put_own.new.self; states = c.self.inside.states.items } in
    let is' : IsHosting a x hosted = subst (λ (k : Kept). IsHosting a k hosted) (sym c.self.view_is) is in
    owned-hosting a b x new c.args.own hosted is' (so c.put_own.result got c.put_own.ensures.put) (so c.put_own.result got c.put_own.ensures.slots) refl (so c.put_own.result got (c.put_own.ensures.stands tells is'.tolds is'.stores)))

pub returns-clause-crash : goal.returns-clause-crash
returns-clause-crash g c = λ tells hosted is.
    let a = g.D.Device.disk c.args.dev.now in
    let b = g.D.Device.disk c.put_own.new.dev in
    let x : Kept = record { stores = c.self.inside.stores; states = c.self.inside.states.items } in
    let is' : IsHosting a x hosted = subst (λ (k : Kept). IsHosting a k hosted) (sym c.self.view_is) is in
    as-viewed (λ own image. LeavesHosted own hosted image ⊎ LeavesHosted c.args.own hosted image) x c.args.self.now c.self.view_is (owned-left a b x c.args.own hosted is' (c.put_own.ensures.crash tells is'.tolds is'.stores))
