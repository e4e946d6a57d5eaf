use Rattle.std.proofs.Common.{◌≡◌, ◌<◌, ℕ, List, Some, slice_get}
use Rattle.bk_paged.specs.Names.{names_of}
use Rattle.bk_side.specs.Names.{IsData, data_file}
use Rattle.bk_stores.proofs.unused.share_no_path.Given as goal

abbrev pub invariant-loop-path : goal.invariant-loop-path
invariant-loop-path l = (k : ℕ) (path : List ℕ) → k < l.path-index → slice_get l.paths k ≡ Some path → IsData (names_of l.files) (data_file path) → ⊥
