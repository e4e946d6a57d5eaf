use Rattle.std.proofs.Common.{rules, ◌≡◌, Some, map}
use Rattle.std.specs.Prelude.{slice_get}
use Rattle.bk_hosting.proofs.hosting.Hosting.paths_at.Goals as goal

pub returns-clause-paths : goal.returns-clause-paths
returns-clause-paths c =
    let filled : slice_get c.args.self.now.stores.slots c.args.at ≡ Some (Some c.in-Some.store.now) = search rules in
    let paths : c.in_ok-paths.paths.items ≡ map (λ f. f.path) c.in-Some.store.now.paged.facts.files = search rules in
    (Some c.in-Some.store.now, filled, paths)
