use Rattle.std.proofs.Common.{rules, ◌≡◌, ◌≤◌, ℕ, List, Some, length, refl, slice_get, subst}
use Rattle.std.proofs.lemmas.Option.{slice_get_read}
use Rattle.bk_paged.specs.Names.{names_of}
use Rattle.bk_side.specs.Names.{IsData, data_file}
use Rattle.bk_stores.specs.Stores.{at_paths}
use Rattle.bk_stores.proofs.Named.{data-is, each-all, each-more, got-path, is-data, path-got}
use Rattle.bk_stores.proofs.unused.share_no_path.Goals as goal

pub returns-then-has_path-clause-all : goal.returns-then-has_path-clause-all
returns-then-has_path-clause-all c none =
    let paths = c.args.paths.now in
    let path : List ℕ = c.path-item.result in
    let there : slice_get paths c.loop-path.path-index ≡ Some path = slice_get_read paths (length paths) c.loop-path.path-index path refl c.loop-path-test.true c.path-item.is in
    let has : IsData (names_of c.args.files.now) (data_file path) = search rules in
    absurd (none (data_file path) (is-data (at_paths paths) c.loop-path.path-index (record { path = path; pages = 0 }) (data_file path) (path-got paths c.loop-path.path-index path there) refl) has)

pub loop-path-preserved : goal.loop-path-preserved
loop-path-preserved c =
    let paths = c.args.paths.now in
    let path : List ℕ = c.path-item.result in
    let there : slice_get paths c.loop-path.path-index ≡ Some path = slice_get_read paths (length paths) c.loop-path.path-index path refl c.loop-path-test.true c.path-item.is in
    let none : IsData (names_of c.args.files.now) (data_file path) → ⊥ = search rules in
    each-more (λ (p : List ℕ). IsData (names_of c.args.files.now) (data_file p) → ⊥) paths c.loop-path.path-index path there none c.loop-path.invariant

pub returns-clause-none : goal.returns-clause-none
returns-clause-none c is name own its =
    let paths = c.args.paths.now in
    let one = data-is (at_paths paths) name own in
    let all : length paths ≤ c.loop-path.path-index = search rules in
    let none = each-all (λ (p : List ℕ). IsData (names_of c.args.files.now) (data_file p) → ⊥) paths c.loop-path.path-index all c.loop-path.invariant one.0 one.1.path (got-path paths one.0 one.1 one.2) in
    subst (λ (n : List ℕ). IsData (names_of c.args.files.now) n → ⊥) one.3 none its
