use Rattle.std.proofs.Common.{rules, true, ◌≡◌, ◌≤◌, ◌∙◌, refl, sym, ap, subst}
use Rattle.bk_hosting.proofs.CopiedStores.{none-copied}
use Rattle.bk_stores.specs.Stores.{Kept as KeptStores}
use Rattle.bk_hosting.specs.Copying.{AreAsBefore, HaveExtents}
use Rattle.bk_hosting.specs.Hosting.{IsHosting, IsReady, IsSealedAt, Kept}
use Rattle.bk_hosting.proofs.CopiedHosted.{copied-hosting, copied-ready, copied-sealed, copied-there, copied-viewed, leaves-copied, rest-copied}
use Rattle.bk_hosting.proofs.SaidHosted.{Placed, opened-as, placed-of}
use Rattle.bk_hosting.proofs.hosting.Hosting.copy_extents.Goals as goal

pub returns-then-not-is_open-clause-crash : goal.returns-then-not-is_open-clause-crash
returns-then-not-is_open-clause-crash g c = λ tells hosted is. rest-copied (g.D.Device.disk c.args.dev.now) c.args.self.now hosted c.args.staged.now is

pub extents_on-requires-clause-opened : goal.extents_on-requires-clause-opened
extents_on-requires-clause-opened g c =
    let x : Kept = record { stores = c.self.inside.stores; states = c.self.inside.states.items } in
    let yes : c.is_open.result ≡ true = search rules in
    opened-as x c.args.self.now c.args.at (sym c.self.view_is) c.requires.ready (c.is_open.ensures.open yes)

pub extents_on-requires-clause-there : goal.extents_on-requires-clause-there
extents_on-requires-clause-there g c = subst (λ (k : Kept). HaveExtents k.stores.slots c.args.at c.args.extents.now) (sym c.self.view_is) c.requires.there

pub returns-in_err-extents_on-clause-crash : goal.returns-in_err-extents_on-clause-crash
returns-in_err-extents_on-clause-crash g c = λ tells hosted is.
    let a = g.D.Device.disk c.args.dev.now in
    let b = g.D.Device.disk c.extents_on.new.dev in
    let x : Kept = record { stores = c.self.inside.stores; states = c.self.inside.states.items } in
    let is' : IsHosting a x hosted = subst (λ (k : Kept). IsHosting a k hosted) (sym c.self.view_is) is in
    copied-viewed x c.args.self.now hosted c.args.staged.now c.self.view_is (leaves-copied a b x hosted c.args.staged.now is' (c.extents_on.ensures.crash tells is'.tolds is'.stores))

pub returns-clause-ready : goal.returns-clause-ready
returns-clause-ready g c =
    let x : Kept = record { stores = c.self.inside.stores; states = c.self.inside.states.items } in
    let new : Kept = record { stores = c.extents_on.new.stores; states = c.self.inside.states.items } in
    copied-ready x new c.args.at (subst IsReady (sym c.self.view_is) c.requires.ready) c.in_ok-extents_on.ensures.ready c.in_ok-extents_on.ensures.same refl

pub returns-clause-own : goal.returns-clause-own
returns-clause-own g c = ap (λ (k : KeptStores). k.master.record.own) c.in_ok-extents_on.ensures.same.slots ∙ ap (λ (k : Kept). k.stores.master.record.own) c.self.view_is

pub returns-clause-same : goal.returns-clause-same
returns-clause-same g c = (
  ap (λ (k : Kept). k.states) c.self.view_is,
  subst (λ (k : Kept). AreAsBefore k.stores c.args.at c.extents_on.new.stores) c.self.view_is c.in_ok-extents_on.ensures.same,
)

pub returns-clause-lasts : goal.returns-clause-lasts
returns-clause-lasts g c = λ tells hosted is sealed.
    let a = g.D.Device.disk c.args.dev.now in
    let b = g.D.Device.disk c.extents_on.new.dev in
    let x : Kept = record { stores = c.self.inside.stores; states = c.self.inside.states.items } in
    let new : Kept = record { stores = c.extents_on.new.stores; states = c.self.inside.states.items } in
    let is' : IsHosting a x hosted = subst (λ (k : Kept). IsHosting a k hosted) (sym c.self.view_is) is in
    let done : AreAsBefore x.stores c.args.at new.stores = c.in_ok-extents_on.ensures.same in
    let later : done.store.paged.log.stored ≤ done.then.paged.log.stored = c.in_ok-extents_on.ensures.later tells is'.tolds done.store done.then is'.stores done.there (copied-there x.stores new.stores c.args.at done) in
    copied-sealed a b x new hosted c.args.at is' done later (c.in_ok-extents_on.ensures.stands tells is'.tolds is'.stores) (subst (λ (k : Kept). IsSealedAt k.stores.slots c.args.at) (sym c.self.view_is) sealed)

pub returns-clause-stands : goal.returns-clause-stands
returns-clause-stands g c = λ tells hosted is.
    let a = g.D.Device.disk c.args.dev.now in
    let b = g.D.Device.disk c.extents_on.new.dev in
    let x : Kept = record { stores = c.self.inside.stores; states = c.self.inside.states.items } in
    let new : Kept = record { stores = c.extents_on.new.stores; states = c.self.inside.states.items } in
    let is' : IsHosting a x hosted = subst (λ (k : Kept). IsHosting a k hosted) (sym c.self.view_is) is in
    let done : AreAsBefore x.stores c.args.at new.stores = c.in_ok-extents_on.ensures.same in
    let later : done.store.paged.log.stored ≤ done.then.paged.log.stored = c.in_ok-extents_on.ensures.later tells is'.tolds done.store done.then is'.stores done.there (copied-there x.stores new.stores c.args.at done) in
    copied-hosting a b x new hosted c.args.at is' done refl later (c.in_ok-extents_on.ensures.stands tells is'.tolds is'.stores)

pub returns-clause-added : goal.returns-clause-added
returns-clause-added g c = λ tells hosted h is here before parts.
    let a = g.D.Device.disk c.args.dev.now in
    let x : Kept = record { stores = c.self.inside.stores; states = c.self.inside.states.items } in
    let is' : IsHosting a x hosted = subst (λ (k : Kept). IsHosting a k hosted) (sym c.self.view_is) is in
    let placed : Placed x c.args.at h is'.tolds = placed-of a x hosted c.args.at h is' here in
    (placed.told, placed.tell, c.in_ok-extents_on.ensures.added tells is'.tolds placed.told is'.stores placed.there before parts)

pub returns-clause-crash : goal.returns-clause-crash
returns-clause-crash g c = λ tells hosted is.
    let a = g.D.Device.disk c.args.dev.now in
    let b = g.D.Device.disk c.extents_on.new.dev in
    let x : Kept = record { stores = c.self.inside.stores; states = c.self.inside.states.items } in
    let is' : IsHosting a x hosted = subst (λ (k : Kept). IsHosting a k hosted) (sym c.self.view_is) is in
    copied-viewed x c.args.self.now hosted c.args.staged.now c.self.view_is (leaves-copied a b x hosted c.args.staged.now is' (c.extents_on.ensures.crash tells is'.tolds is'.stores))

pub returns-then-not-is_open-clause-touches : goal.returns-then-not-is_open-clause-touches
returns-then-not-is_open-clause-touches g c = λ tells. none-copied c.args.staged.now (g.D.Device.disk c.args.dev.now)
