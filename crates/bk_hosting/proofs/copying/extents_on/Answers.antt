use Rattle.std.proofs.Common.{◌≡◌, ◌≤◌, subst}
use Rattle.bk_store.specs.Store.{Kept as KeptStore}
use Rattle.bk_hosting.proofs.Answered.{answered, so}
use Rattle.bk_hosting.proofs.CopiedStores.{copied-as, copied-crash, copied-standing, told-there, copied-touched, none-copied}
use Rattle.bk_hosting.proofs.StoreSaid.{fit-there, given-slots, given-there, inside-lent, its-store, lent-standing, one-store}
use Rattle.bk_hosting.proofs.copying.extents_on.Goals as goal

pub copy_extents-copied-requires-clause-fit : goal.copy_extents-copied-requires-clause-fit
copy_extents-copied-requires-clause-fit g c = fit-there c.args.stores.now.slots c.args.at c.in-Some.store c.requires.opened c.in-Some.ensures.store

pub copy_extents-copied-requires-clause-there : goal.copy_extents-copied-requires-clause-there
copy_extents-copied-requires-clause-there g c = c.requires.there c.in-Some.store c.in-Some.ensures.store

pub copy_extents-copied-requires-clause-standing : goal.copy_extents-copied-requires-clause-standing
copy_extents-copied-requires-clause-standing g c = λ tells.
    lent-standing (g.D.Device.disk c.args.dev.now) c.args.stores.now c.take.new.self c.args.at c.in-Some.store (c.requires.standing tells) c.in-Some.ensures.store c.take.ensures.master c.take.ensures.slots

pub give-requires : goal.give-requires
give-requires g c = record { inside = inside-lent c.args.stores.now c.take.new.self c.args.at c.in-Some.store c.in-Some.ensures.store c.take.ensures.slots }

pub returns-clause-same : goal.returns-clause-same
returns-clause-same g c =
    answered c.copy_extents-copied.result
    (λ _ got.
    record {
      store = c.in-Some.store;
      then = c.copy_extents-copied.new.store;
      there = c.in-Some.ensures.store;
      slots = given-slots c.args.stores.now c.take.new.self c.give.new.self c.args.at c.copy_extents-copied.new.store c.take.ensures.master c.take.ensures.slots c.give.ensures.master c.give.ensures.slots;
      same = so c.copy_extents-copied.result got c.copy_extents-copied.ensures.same;
    })

pub returns-clause-later : goal.returns-clause-later
returns-clause-later g c = λ tells tolds s then is one two.
    answered c.copy_extents-copied.result
    (λ _ got.
    let a = g.D.Device.disk c.args.dev.now in
    let told = told-there a c.args.stores.now tolds c.args.at c.in-Some.store is c.in-Some.ensures.store in
    let store = its-store a c.args.stores.now tolds c.args.at told.0 c.in-Some.store is told.1 c.in-Some.ensures.store in
    let before : c.in-Some.store ≡ s = one-store c.args.stores.now.slots c.args.at c.in-Some.store s c.in-Some.ensures.store one in
    let after : c.copy_extents-copied.new.store ≡ then = one-store c.give.new.self.slots c.args.at c.copy_extents-copied.new.store then
    (given-there c.args.stores.now c.take.new.self c.give.new.self c.args.at c.in-Some.store c.copy_extents-copied.new.store c.in-Some.ensures.store c.take.ensures.slots c.give.ensures.slots) two in
    subst (λ (t : KeptStore). s.paged.log.stored ≤ t.paged.log.stored) after (subst (λ (t : KeptStore). t.paged.log.stored ≤ c.copy_extents-copied.new.store.paged.log.stored) before (so c.copy_extents-copied.result got (c.copy_extents-copied.ensures.later tells told.0 store))))

pub returns-clause-standing : goal.returns-clause-standing
returns-clause-standing g c = λ tells.
    answered c.copy_extents-copied.result
    (λ _ got.
    copied-standing (g.D.Device.disk c.args.dev.now) (g.D.Device.disk c.copy_extents-copied.new.dev) c.args.stores.now c.take.new.self c.give.new.self c.args.at c.in-Some.store c.copy_extents-copied.new.store c.args.staged.now c.requires.named (c.requires.standing tells)
    c.in-Some.ensures.store c.take.ensures.master c.take.ensures.slots c.give.ensures.master c.give.ensures.slots (c.copy_extents-copied.ensures.touches tells) (so c.copy_extents-copied.result got (c.copy_extents-copied.ensures.standing tells)) (so c.copy_extents-copied.result got c.copy_extents-copied.ensures.same))

pub returns-clause-stands : goal.returns-clause-stands
returns-clause-stands g c = λ tells tolds is.
    answered c.copy_extents-copied.result
    (λ _ got.
    let a = g.D.Device.disk c.args.dev.now in
    let b = g.D.Device.disk c.copy_extents-copied.new.dev in
    let told = told-there a c.args.stores.now tolds c.args.at c.in-Some.store is c.in-Some.ensures.store in
    let store = its-store a c.args.stores.now tolds c.args.at told.0 c.in-Some.store is told.1 c.in-Some.ensures.store in
    copied-as a b c.args.stores.now c.take.new.self c.give.new.self tolds c.args.at told.0 c.in-Some.store c.copy_extents-copied.new.store c.args.staged.now c.requires.named is told.1 c.in-Some.ensures.store c.take.ensures.master c.take.ensures.slots c.give.ensures.master c.give.ensures.slots
    (c.copy_extents-copied.ensures.crash tells told.0 store) (so c.copy_extents-copied.result got (c.copy_extents-copied.ensures.stands tells told.0 store)) (so c.copy_extents-copied.result got c.copy_extents-copied.ensures.same))

pub returns-clause-added : goal.returns-clause-added
returns-clause-added g c = λ tells tolds told is here before parts.
    answered c.copy_extents-copied.result
    (λ _ got.
    so c.copy_extents-copied.result got (c.copy_extents-copied.ensures.added tells told (its-store (g.D.Device.disk c.args.dev.now) c.args.stores.now tolds c.args.at told c.in-Some.store is here c.in-Some.ensures.store) before parts))

pub returns-clause-crash : goal.returns-clause-crash
returns-clause-crash g c = λ tells tolds is.
    let a = g.D.Device.disk c.args.dev.now in
    let b = g.D.Device.disk c.copy_extents-copied.new.dev in
    let told = told-there a c.args.stores.now tolds c.args.at c.in-Some.store is c.in-Some.ensures.store in
    let store = its-store a c.args.stores.now tolds c.args.at told.0 c.in-Some.store is told.1 c.in-Some.ensures.store in
    copied-crash a b c.args.stores.now tolds c.args.at told.0 c.in-Some.store c.args.staged.now c.requires.named is told.1 c.in-Some.ensures.store (c.copy_extents-copied.ensures.crash tells told.0 store)

pub returns-in_default-clause-touches : goal.returns-in_default-clause-touches
returns-in_default-clause-touches g c = λ tells. none-copied c.args.staged.now (g.D.Device.disk c.args.dev.now)

pub returns-clause-touches : goal.returns-clause-touches
returns-clause-touches g c = λ tells. copied-touched c.in-Some.store c.args.staged.now (c.copy_extents-copied.ensures.touches tells)
