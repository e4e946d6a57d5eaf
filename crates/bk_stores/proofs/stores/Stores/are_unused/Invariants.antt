use Rattle.std.proofs.Common.{◌≡◌, ◌<◌, ℕ, List, Some, slice_get}
use Rattle.bk_side.specs.Names.{data_file}
use Rattle.bk_stores.specs.Standing.{IsUnused}
use Rattle.bk_stores.proofs.stores.Stores.are_unused.Given as goal

abbrev pub invariant-loop-path : goal.invariant-loop-path
invariant-loop-path l = (k : ℕ) (path : List ℕ) → k < l.path-index → slice_get l.paths k ≡ Some path → IsUnused l.self.slots (data_file path)
