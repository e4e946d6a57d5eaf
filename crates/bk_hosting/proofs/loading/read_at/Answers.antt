use Rattle.std.proofs.Common.{rules, ◌≡◌, Some}
use Rattle.std.specs.Prelude.{slice_get}
use Rattle.bk_hosting.proofs.Opening.{read-standing, standing-still, stores-still}
use Rattle.bk_hosting.proofs.StoreSaid.{its-store}
use Rattle.bk_hosting.proofs.loading.read_at.Goals as goal

pub read_state-requires-clause-standing : goal.read_state-requires-clause-standing
read_state-requires-clause-standing g c = λ tells.
    let filled : slice_get c.args.stores.now.slots c.args.at ≡ Some (Some c.in-Some.store.now) = search rules in
    read-standing (g.D.Device.disk c.args.dev.now) c.args.stores.now c.args.at c.in-Some.store.now (c.requires.standing tells) filled

pub returns-in-Some-clause-state : goal.returns-in-Some-clause-state
returns-in-Some-clause-state g c = λ tells tolds told h is here tell.
    let filled : slice_get c.args.stores.now.slots c.args.at ≡ Some (Some c.in-Some.store.now) = search rules in
    c.read_state.ensures.state tells told h (its-store (g.D.Device.disk c.args.dev.now) c.args.stores.now tolds c.args.at told c.in-Some.store.now is here filled) tell

pub returns-in-Some-clause-standing : goal.returns-in-Some-clause-standing
returns-in-Some-clause-standing g c = λ tells. standing-still c.args.stores.now (c.read_state.ensures.effect tells) (c.requires.standing tells)

pub returns-in-Some-clause-stands : goal.returns-in-Some-clause-stands
returns-in-Some-clause-stands g c = λ tells tolds is. stores-still c.args.stores.now tolds (c.read_state.ensures.effect tells) is

pub returns-in-Some-clause-broken : goal.returns-in-Some-clause-broken
returns-in-Some-clause-broken g c = λ tells broken tolds told h is here tell.
    let filled : slice_get c.args.stores.now.slots c.args.at ≡ Some (Some c.in-Some.store.now) = search rules in
    c.read_state.ensures.broken tells broken told h (its-store (g.D.Device.disk c.args.dev.now) c.args.stores.now tolds c.args.at told c.in-Some.store.now is here filled) tell
