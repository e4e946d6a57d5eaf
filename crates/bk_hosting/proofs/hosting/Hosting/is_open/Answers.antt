use Rattle.std.proofs.Common.{rules, ◌≡◌, Some}
use Rattle.std.specs.Prelude.{slice_get}
use Rattle.bk_hosting.proofs.hosting.Hosting.is_open.Goals as goal

pub returns-in-Some-clause-open : goal.returns-in-Some-clause-open
returns-in-Some-clause-open c = λ yes.
    let there : slice_get c.args.self.now.stores.slots c.args.at ≡ Some (Some c.in-Some._store.now) = search rules in
    (c.in-Some._store.now, there)
