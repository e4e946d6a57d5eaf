use Rattle.std.proofs.Common.{◌≡◌, ◌-◌, refl, sym, ap, ◌∙◌}
use Rattle.bk_store.specs.Store.{sealed_in}
use Rattle.bk_stores.specs.TouchLaws.{none-touched, own-touched}
use Rattle.bk_hosting.proofs.StoreSaid.{fit-there, given-slots, given-there, inside-lent, its-store, lent-standing, one-store, store-either, store-standing, store-stands}
use Rattle.bk_hosting.proofs.noting.note_on.Goals as goal

pub set_note-noted-requires-clause-fit : goal.set_note-noted-requires-clause-fit
set_note-noted-requires-clause-fit g c = fit-there c.args.stores.now.slots c.args.at c.in-Some.store c.requires.opened c.in-Some.ensures.store

pub set_note-noted-requires-clause-standing : goal.set_note-noted-requires-clause-standing
set_note-noted-requires-clause-standing g c = λ tells.
    lent-standing (g.D.Device.disk c.args.dev.now) c.args.stores.now c.take.new.self c.args.at c.in-Some.store (c.requires.standing tells) c.in-Some.ensures.store c.take.ensures.master c.take.ensures.slots

pub give-requires : goal.give-requires
give-requires g c = record { inside = inside-lent c.args.stores.now c.take.new.self c.args.at c.in-Some.store c.in-Some.ensures.store c.take.ensures.slots }

pub returns-in_err-noted-clause-crash : goal.returns-in_err-noted-clause-crash
returns-in_err-noted-clause-crash g c = λ tells tolds told is here.
    store-either (g.D.Device.disk c.args.dev.now) (g.D.Device.disk c.set_note-noted.new.dev) c.args.stores.now tolds c.args.at told (record told { note = c.args.note.now }) c.in-Some.store is here c.in-Some.ensures.store refl
    (c.set_note-noted.ensures.crash tells told (its-store (g.D.Device.disk c.args.dev.now) c.args.stores.now tolds c.args.at told c.in-Some.store is here c.in-Some.ensures.store))

pub returns-clause-slots : goal.returns-clause-slots
returns-clause-slots g c = (
  c.set_note-noted.new.self,
  given-slots c.args.stores.now c.take.new.self c.give.new.self c.args.at c.set_note-noted.new.self c.take.ensures.master c.take.ensures.slots c.give.ensures.master c.give.ensures.slots,
  c.in_ok-noted.ensures.fit,
)

pub returns-clause-seals : goal.returns-clause-seals
returns-clause-seals g c = λ s then one two.
    let before : c.in-Some.store ≡ s = one-store c.args.stores.now.slots c.args.at c.in-Some.store s c.in-Some.ensures.store one in
    let after : c.set_note-noted.new.self ≡ then = one-store c.give.new.self.slots c.args.at c.set_note-noted.new.self then
    (given-there c.args.stores.now c.take.new.self c.give.new.self c.args.at c.in-Some.store c.set_note-noted.new.self c.in-Some.ensures.store c.take.ensures.slots c.give.ensures.slots) two in
    ap sealed_in (sym after) ∙ ap (λ n. n - 1) c.in_ok-noted.ensures.ends.2 ∙ ap sealed_in before

pub returns-clause-standing : goal.returns-clause-standing
returns-clause-standing g c = λ tells.
    store-standing (g.D.Device.disk c.args.dev.now) (g.D.Device.disk c.set_note-noted.new.dev) c.args.stores.now c.take.new.self c.give.new.self c.args.at c.in-Some.store c.set_note-noted.new.self (c.requires.standing tells)
    c.in-Some.ensures.store c.take.ensures.master c.take.ensures.slots c.give.ensures.master c.give.ensures.slots (c.set_note-noted.ensures.touches tells) (c.in_ok-noted.ensures.standing tells) c.in_ok-noted.ensures.fit c.in_ok-noted.ensures.ends.0 c.in_ok-noted.ensures.files

pub returns-clause-stands : goal.returns-clause-stands
returns-clause-stands g c = λ tells tolds told is here.
    let store = its-store (g.D.Device.disk c.args.dev.now) c.args.stores.now tolds c.args.at told c.in-Some.store is here c.in-Some.ensures.store in
    store-stands (g.D.Device.disk c.args.dev.now) (g.D.Device.disk c.set_note-noted.new.dev) c.args.stores.now c.give.new.self tolds c.args.at told (record told { note = c.args.note.now }) c.in-Some.store c.set_note-noted.new.self is here c.in-Some.ensures.store
    (record {
      same = refl;
      number = c.in_ok-noted.ensures.ends.0;
      fit = c.in_ok-noted.ensures.fit;
      stands = c.in_ok-noted.ensures.stands tells told store;
      crash = c.set_note-noted.ensures.crash tells told store;
    }) (given-slots c.args.stores.now c.take.new.self c.give.new.self c.args.at c.set_note-noted.new.self c.take.ensures.master c.take.ensures.slots c.give.ensures.master c.give.ensures.slots)

pub returns-clause-crash : goal.returns-clause-crash
returns-clause-crash g c = λ tells tolds told is here.
    store-either (g.D.Device.disk c.args.dev.now) (g.D.Device.disk c.set_note-noted.new.dev) c.args.stores.now tolds c.args.at told (record told { note = c.args.note.now }) c.in-Some.store is here c.in-Some.ensures.store refl
    (c.set_note-noted.ensures.crash tells told (its-store (g.D.Device.disk c.args.dev.now) c.args.stores.now tolds c.args.at told c.in-Some.store is here c.in-Some.ensures.store))

pub returns-in_default-clause-touches : goal.returns-in_default-clause-touches
returns-in_default-clause-touches g c = λ tells. none-touched (g.D.Device.disk c.args.dev.now)

pub returns-in_err-noted-clause-touches : goal.returns-in_err-noted-clause-touches
returns-in_err-noted-clause-touches g c = λ tells. own-touched c.in-Some.store.paged.log.db c.in-Some.store.paged.facts.files (c.set_note-noted.ensures.touches tells)

pub returns-clause-touches : goal.returns-clause-touches
returns-clause-touches g c = λ tells. own-touched c.in-Some.store.paged.log.db c.in-Some.store.paged.facts.files (c.set_note-noted.ensures.touches tells)
