use Rattle.std.proofs.Common.{rules, ◌≡◌, ℕ, List, map, true, subst}
use Rattle.bk_stores.specs.Standing.{AreUnused}
use Rattle.bk_stores.specs.Stores.{at_paths}
use Rattle.bk_hosting.specs.Hosting.{Kept}
use Rattle.bk_hosting.proofs.hosting.Hosting.room_for.Goals as goal

pub returns-clause-unused : goal.returns-clause-unused
returns-clause-unused c =
    let paths : c.deref.result.now ≡ map (λ f. f.path) c.args.files.now = search rules in
    let yes : c.are_unused.result ≡ true = search rules in
    let unused : AreUnused c.self.inside.stores.slots (at_paths c.deref.result.now) = c.are_unused.ensures.unused yes in
    subst (λ (ps : List (List ℕ)). AreUnused c.args.self.now.stores.slots (at_paths ps)) paths (subst (λ (k : Kept). AreUnused k.stores.slots (at_paths c.deref.result.now)) c.self.view_is unused)
