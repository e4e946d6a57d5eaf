use Rattle.std.proofs.Common.{◌≡◌, refl, subst}
use Rattle.bk_store.specs.Store.{Kept as KeptStore}
use Rattle.bk_stores.specs.TouchLaws.{none-touched, own-touched}
use Rattle.bk_hosting.specs.Saying.{SealsUpTo, telling}
use Rattle.bk_hosting.proofs.StoreSaid.{fit-there, given-slots, given-there, inside-lent, its-store, lent-standing, one-store, store-crash, store-standing, store-stands}
use Rattle.bk_hosting.proofs.saying.say_on.Goals as goal

pub say_lasting-said-requires-clause-fit : goal.say_lasting-said-requires-clause-fit
say_lasting-said-requires-clause-fit g c = fit-there c.args.stores.now.slots c.args.at c.in-Some.store c.requires.opened c.in-Some.ensures.store

pub say_lasting-said-requires-clause-standing : goal.say_lasting-said-requires-clause-standing
say_lasting-said-requires-clause-standing g c = λ tells.
    lent-standing (g.D.Device.disk c.args.dev.now) c.args.stores.now c.take.new.self c.args.at c.in-Some.store (c.requires.standing tells) c.in-Some.ensures.store c.take.ensures.master c.take.ensures.slots

pub give-requires : goal.give-requires
give-requires g c = record { inside = inside-lent c.args.stores.now c.take.new.self c.args.at c.in-Some.store c.in-Some.ensures.store c.take.ensures.slots }

pub returns-in_err-said-clause-crash : goal.returns-in_err-said-clause-crash
returns-in_err-said-clause-crash g c = λ tells tolds told next is here may.
    store-crash (g.D.Device.disk c.args.dev.now) (g.D.Device.disk c.say_lasting-said.new.dev) c.args.stores.now tolds c.args.at told (telling told next) c.in-Some.store is here c.in-Some.ensures.store refl
    (c.say_lasting-said.ensures.crash tells told next (its-store (g.D.Device.disk c.args.dev.now) c.args.stores.now tolds c.args.at told c.in-Some.store is here c.in-Some.ensures.store) may)

pub returns-clause-slots : goal.returns-clause-slots
returns-clause-slots g c = (
  c.say_lasting-said.new.store,
  given-slots c.args.stores.now c.take.new.self c.give.new.self c.args.at c.say_lasting-said.new.store c.take.ensures.master c.take.ensures.slots c.give.ensures.master c.give.ensures.slots,
  c.in_ok-said.ensures.fit,
  λ lasts. record { fit = c.in_ok-said.ensures.fit; all = c.in_ok-said.ensures.all lasts },
)

pub returns-clause-standing : goal.returns-clause-standing
returns-clause-standing g c = λ tells.
    store-standing (g.D.Device.disk c.args.dev.now) (g.D.Device.disk c.say_lasting-said.new.dev) c.args.stores.now c.take.new.self c.give.new.self c.args.at c.in-Some.store c.say_lasting-said.new.store (c.requires.standing tells)
    c.in-Some.ensures.store c.take.ensures.master c.take.ensures.slots c.give.ensures.master c.give.ensures.slots (c.say_lasting-said.ensures.touches tells) (c.in_ok-said.ensures.standing tells) c.in_ok-said.ensures.fit c.in_ok-said.ensures.number c.in_ok-said.ensures.files

pub returns-clause-stands : goal.returns-clause-stands
returns-clause-stands g c = λ tells tolds told next is here may.
    let store = its-store (g.D.Device.disk c.args.dev.now) c.args.stores.now tolds c.args.at told c.in-Some.store is here c.in-Some.ensures.store in
    store-stands (g.D.Device.disk c.args.dev.now) (g.D.Device.disk c.say_lasting-said.new.dev) c.args.stores.now c.give.new.self tolds c.args.at told (telling told next) c.in-Some.store c.say_lasting-said.new.store is here c.in-Some.ensures.store
    (record {
      same = refl;
      number = c.in_ok-said.ensures.number;
      fit = c.in_ok-said.ensures.fit;
      stands = c.in_ok-said.ensures.stands tells told next store may;
      crash = c.say_lasting-said.ensures.crash tells told next store may;
    }) (given-slots c.args.stores.now c.take.new.self c.give.new.self c.args.at c.say_lasting-said.new.store c.take.ensures.master c.take.ensures.slots c.give.ensures.master c.give.ensures.slots)

pub returns-clause-seals : goal.returns-clause-seals
returns-clause-seals g c = λ tells tolds told next s then is here may one two.
    let before : c.in-Some.store ≡ s = one-store c.args.stores.now.slots c.args.at c.in-Some.store s c.in-Some.ensures.store one in
    let after : c.say_lasting-said.new.store ≡ then = one-store c.give.new.self.slots c.args.at c.say_lasting-said.new.store then
    (given-there c.args.stores.now c.take.new.self c.give.new.self c.args.at c.in-Some.store c.say_lasting-said.new.store c.in-Some.ensures.store c.take.ensures.slots c.give.ensures.slots) two in
    subst (λ (t : KeptStore). SealsUpTo c.args.lasting s t) after (subst (λ (t : KeptStore). SealsUpTo c.args.lasting t c.say_lasting-said.new.store) before
    (c.in_ok-said.ensures.seals tells told next (its-store (g.D.Device.disk c.args.dev.now) c.args.stores.now tolds c.args.at told c.in-Some.store is here c.in-Some.ensures.store) may))

pub returns-clause-crash : goal.returns-clause-crash
returns-clause-crash g c = λ tells tolds told next is here may.
    store-crash (g.D.Device.disk c.args.dev.now) (g.D.Device.disk c.say_lasting-said.new.dev) c.args.stores.now tolds c.args.at told (telling told next) c.in-Some.store is here c.in-Some.ensures.store refl
    (c.say_lasting-said.ensures.crash tells told next (its-store (g.D.Device.disk c.args.dev.now) c.args.stores.now tolds c.args.at told c.in-Some.store is here c.in-Some.ensures.store) may)

pub returns-in_default-clause-touches : goal.returns-in_default-clause-touches
returns-in_default-clause-touches g c = λ tells. none-touched (g.D.Device.disk c.args.dev.now)

pub returns-in_err-said-clause-touches : goal.returns-in_err-said-clause-touches
returns-in_err-said-clause-touches g c = λ tells. own-touched c.in-Some.store.paged.log.db c.in-Some.store.paged.facts.files (c.say_lasting-said.ensures.touches tells)

pub returns-clause-touches : goal.returns-clause-touches
returns-clause-touches g c = λ tells. own-touched c.in-Some.store.paged.log.db c.in-Some.store.paged.facts.files (c.say_lasting-said.ensures.touches tells)
