use Rattle.std.proofs.Common.{refl}
use Rattle.bk_stores.specs.TouchLaws.{none-touched, own-touched}
use Rattle.bk_hosting.specs.Checkpointing.{marked}
use Rattle.bk_hosting.proofs.StoreSaid.{fit-there, given-slots, inside-lent, its-store, lent-standing, store-crash, store-standing, store-stands}
use Rattle.bk_hosting.proofs.checkpointing.mark_on.Goals as goal

pub mark_store-made-requires-clause-fit : goal.mark_store-made-requires-clause-fit
mark_store-made-requires-clause-fit g c = fit-there c.args.stores.now.slots c.args.at c.in-Some.store c.requires.opened c.in-Some.ensures.store

pub mark_store-made-requires-clause-standing : goal.mark_store-made-requires-clause-standing
mark_store-made-requires-clause-standing g c = λ tells.
    lent-standing (g.D.Device.disk c.args.dev.now) c.args.stores.now c.take.new.self c.args.at c.in-Some.store (c.requires.standing tells) c.in-Some.ensures.store c.take.ensures.master c.take.ensures.slots

pub give-requires : goal.give-requires
give-requires g c = record { inside = inside-lent c.args.stores.now c.take.new.self c.args.at c.in-Some.store c.in-Some.ensures.store c.take.ensures.slots }

pub returns-in_err-made-clause-crash : goal.returns-in_err-made-clause-crash
returns-in_err-made-clause-crash g c = λ tells tolds told is here.
    store-crash (g.D.Device.disk c.args.dev.now) (g.D.Device.disk c.mark_store-made.new.dev) c.args.stores.now tolds c.args.at told (marked told c.args.time) c.in-Some.store is here c.in-Some.ensures.store refl
    (c.mark_store-made.ensures.crash tells told (its-store (g.D.Device.disk c.args.dev.now) c.args.stores.now tolds c.args.at told c.in-Some.store is here c.in-Some.ensures.store))

pub returns-clause-slots : goal.returns-clause-slots
returns-clause-slots g c = (
  c.mark_store-made.new.store,
  given-slots c.args.stores.now c.take.new.self c.give.new.self c.args.at c.mark_store-made.new.store c.take.ensures.master c.take.ensures.slots c.give.ensures.master c.give.ensures.slots,
  c.in_ok-made.ensures.fit,
  c.in_ok-made.ensures.sealed,
)

pub returns-clause-standing : goal.returns-clause-standing
returns-clause-standing g c = λ tells.
    store-standing (g.D.Device.disk c.args.dev.now) (g.D.Device.disk c.mark_store-made.new.dev) c.args.stores.now c.take.new.self c.give.new.self c.args.at c.in-Some.store c.mark_store-made.new.store (c.requires.standing tells)
    c.in-Some.ensures.store c.take.ensures.master c.take.ensures.slots c.give.ensures.master c.give.ensures.slots (c.in_ok-made.ensures.touches tells) (c.in_ok-made.ensures.standing tells) c.in_ok-made.ensures.fit c.in_ok-made.ensures.number c.in_ok-made.ensures.files

pub returns-clause-stands : goal.returns-clause-stands
returns-clause-stands g c = λ tells tolds told is here.
    let store = its-store (g.D.Device.disk c.args.dev.now) c.args.stores.now tolds c.args.at told c.in-Some.store is here c.in-Some.ensures.store in
    store-stands (g.D.Device.disk c.args.dev.now) (g.D.Device.disk c.mark_store-made.new.dev) c.args.stores.now c.give.new.self tolds c.args.at told (marked told c.args.time) c.in-Some.store c.mark_store-made.new.store is here c.in-Some.ensures.store
    (record {
      same = refl;
      number = c.in_ok-made.ensures.number;
      fit = c.in_ok-made.ensures.fit;
      stands = c.in_ok-made.ensures.stands tells told store;
      crash = c.mark_store-made.ensures.crash tells told store;
    }) (given-slots c.args.stores.now c.take.new.self c.give.new.self c.args.at c.mark_store-made.new.store c.take.ensures.master c.take.ensures.slots c.give.ensures.master c.give.ensures.slots)

pub returns-clause-crash : goal.returns-clause-crash
returns-clause-crash g c = λ tells tolds told is here.
    store-crash (g.D.Device.disk c.args.dev.now) (g.D.Device.disk c.mark_store-made.new.dev) c.args.stores.now tolds c.args.at told (marked told c.args.time) c.in-Some.store is here c.in-Some.ensures.store refl
    (c.mark_store-made.ensures.crash tells told (its-store (g.D.Device.disk c.args.dev.now) c.args.stores.now tolds c.args.at told c.in-Some.store is here c.in-Some.ensures.store))

pub returns-in_default-clause-touches : goal.returns-in_default-clause-touches
returns-in_default-clause-touches g c = λ tells. none-touched (g.D.Device.disk c.args.dev.now)

pub returns-in_err-made-clause-touches : goal.returns-in_err-made-clause-touches
returns-in_err-made-clause-touches g c = λ tells. own-touched c.in-Some.store.paged.log.db c.in-Some.store.paged.facts.files (c.mark_store-made.ensures.touches tells)

pub returns-clause-touches : goal.returns-clause-touches
returns-clause-touches g c = λ tells. own-touched c.in-Some.store.paged.log.db c.in-Some.store.paged.facts.files (c.mark_store-made.ensures.touches tells)
