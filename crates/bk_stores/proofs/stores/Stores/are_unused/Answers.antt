use Rattle.std.proofs.Common.{◌≡◌, ◌∙◌, ℕ, List, Some, length, refl, slice_get, sym, subst}
use Rattle.std.proofs.lemmas.Option.{slice_get_read}
use Rattle.bk_paged.specs.Names.{names_of}
use Rattle.bk_side.specs.Names.{IsData, data_file}
use Rattle.bk_stores.specs.Standing.{IsUnused}
use Rattle.bk_stores.specs.Stores.{at_paths}
use Rattle.bk_stores.proofs.Named.{data-is, each-all, each-more, got-path, is-data, path-got}
use Rattle.bk_stores.proofs.stores.Stores.are_unused.Goals as goal

pub returns-then-not-is_unused-clause-all : goal.returns-then-not-is_unused-clause-all
returns-then-not-is_unused-clause-all c none =
    let paths = c.args.paths.now in
    let k = c.loop-path.path-index in
    let path : List ℕ = c.path-item.result in
    let there : slice_get paths k ≡ Some path = slice_get_read paths (length paths) k path refl c.loop-path-test.true c.path-item.is in
    let own : IsData (names_of (at_paths paths)) (data_file path) = is-data (at_paths paths) k (record { path = path; pages = 0 }) (data_file path) (path-got paths k path there) refl in
    sym c.if-not-is_unused.true ∙ c.is_unused.ensures.all (λ i store at its. none i store at (data_file path) own its)

pub loop-path-preserved : goal.loop-path-preserved
loop-path-preserved c =
    let paths = c.args.paths.now in
    let k = c.loop-path.path-index in
    let path : List ℕ = c.path-item.result in
    let there : slice_get paths k ≡ Some path = slice_get_read paths (length paths) k path refl c.loop-path-test.true c.path-item.is in
    each-more (λ (p : List ℕ). IsUnused c.args.self.now.slots (data_file p)) paths k path there (c.is_unused.ensures.unused c.if-not-is_unused.false) c.loop-path.invariant

pub returns-clause-unused : goal.returns-clause-unused
returns-clause-unused c is i store at name own its =
    let paths = c.args.paths.now in
    let one = data-is (at_paths paths) name own in
    let none = each-all (λ (p : List ℕ). IsUnused c.args.self.now.slots (data_file p)) paths c.loop-path.path-index c.loop-path-test.false c.loop-path.invariant one.0 one.1.path (got-path paths one.0 one.1 one.2) in
    subst (λ (n : List ℕ). IsData (names_of store.paged.facts.files) n → ⊥) one.3 (none i store at) its
