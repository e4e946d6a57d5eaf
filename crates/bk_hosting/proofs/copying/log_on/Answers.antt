use Rattle.std.proofs.Common.{rules, ◌≡◌, Some}
use Rattle.std.specs.Prelude.{slice_get}
use Rattle.bk_hosting.specs.Hosting.{IsFitSlot}
use Rattle.bk_hosting.proofs.CopiedStores.{copied-crash, rest-stores, still-standing, still-stands, told-there, copied-touched, none-copied}
use Rattle.bk_hosting.proofs.Lists.{all-at}
use Rattle.bk_hosting.proofs.StoreSaid.{its-store}
use Rattle.bk_hosting.proofs.copying.log_on.Goals as goal

pub returns-in_default-clause-crash : goal.returns-in_default-clause-crash
returns-in_default-clause-crash g c = λ tells tolds is. rest-stores (g.D.Device.disk c.args.dev.now) c.args.stores.now tolds c.args.staged.now is

pub returns-then-not-has_log-clause-crash : goal.returns-then-not-has_log-clause-crash
returns-then-not-has_log-clause-crash g c = λ tells tolds is. rest-stores (g.D.Device.disk c.args.dev.now) c.args.stores.now tolds c.args.staged.now is

pub copy_log-requires-clause-fit : goal.copy_log-requires-clause-fit
copy_log-requires-clause-fit g c =
    let there : slice_get c.args.stores.now.slots c.args.at ≡ Some (Some c.in-Some.store.now) = search rules in
    all-at IsFitSlot c.args.stores.now.slots c.args.at (Some c.in-Some.store.now) there c.requires.fit

pub copy_log-requires-clause-standing : goal.copy_log-requires-clause-standing
copy_log-requires-clause-standing g c = λ tells.
    let there : slice_get c.args.stores.now.slots c.args.at ≡ Some (Some c.in-Some.store.now) = search rules in
    ((c.requires.standing tells).stores.each c.args.at c.in-Some.store.now there).2.standing

pub returns-clause-standing : goal.returns-clause-standing
returns-clause-standing g c = λ tells.
    let there : slice_get c.args.stores.now.slots c.args.at ≡ Some (Some c.in-Some.store.now) = search rules in
    still-standing (g.D.Device.disk c.args.dev.now) (g.D.Device.disk c.copy_log.new.dev) c.args.stores.now c.args.at c.in-Some.store.now c.args.staged.now c.requires.named (c.requires.standing tells) there (c.copy_log.ensures.touches tells) (c.copy_log.ensures.standing tells)
    (all-at IsFitSlot c.args.stores.now.slots c.args.at (Some c.in-Some.store.now) there c.requires.fit)

pub returns-clause-stands : goal.returns-clause-stands
returns-clause-stands g c = λ tells tolds is.
    let a = g.D.Device.disk c.args.dev.now in
    let b = g.D.Device.disk c.copy_log.new.dev in
    let there : slice_get c.args.stores.now.slots c.args.at ≡ Some (Some c.in-Some.store.now) = search rules in
    let told = told-there a c.args.stores.now tolds c.args.at c.in-Some.store.now is there in
    let store = its-store a c.args.stores.now tolds c.args.at told.0 c.in-Some.store.now is told.1 there in
    still-stands a b c.args.stores.now tolds c.args.at told.0 c.in-Some.store.now c.args.staged.now c.requires.named is told.1 there (c.copy_log.ensures.crash tells told.0 store) (c.copy_log.ensures.stands tells told.0 store)
    (all-at IsFitSlot c.args.stores.now.slots c.args.at (Some c.in-Some.store.now) there c.requires.fit)

pub returns-clause-added : goal.returns-clause-added
returns-clause-added g c = λ tells tolds told is here extents before parts.
    let there : slice_get c.args.stores.now.slots c.args.at ≡ Some (Some c.in-Some.store.now) = search rules in
    c.copy_log.ensures.added tells told (its-store (g.D.Device.disk c.args.dev.now) c.args.stores.now tolds c.args.at told c.in-Some.store.now is here there) extents before parts

pub returns-clause-crash : goal.returns-clause-crash
returns-clause-crash g c = λ tells tolds is.
    let a = g.D.Device.disk c.args.dev.now in
    let b = g.D.Device.disk c.copy_log.new.dev in
    let there : slice_get c.args.stores.now.slots c.args.at ≡ Some (Some c.in-Some.store.now) = search rules in
    let told = told-there a c.args.stores.now tolds c.args.at c.in-Some.store.now is there in
    let store = its-store a c.args.stores.now tolds c.args.at told.0 c.in-Some.store.now is told.1 there in
    copied-crash a b c.args.stores.now tolds c.args.at told.0 c.in-Some.store.now c.args.staged.now c.requires.named is told.1 there (c.copy_log.ensures.crash tells told.0 store)

pub returns-in_default-clause-touches : goal.returns-in_default-clause-touches
returns-in_default-clause-touches g c = λ tells. none-copied c.args.staged.now (g.D.Device.disk c.args.dev.now)

pub returns-then-not-has_log-clause-touches : goal.returns-then-not-has_log-clause-touches
returns-then-not-has_log-clause-touches g c = λ tells. none-copied c.args.staged.now (g.D.Device.disk c.args.dev.now)

pub returns-clause-touches : goal.returns-clause-touches
returns-clause-touches g c = λ tells. copied-touched c.in-Some.store.now c.args.staged.now (c.copy_log.ensures.touches tells)
