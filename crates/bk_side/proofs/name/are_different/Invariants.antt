use Rattle.std.proofs.Common.{◌≡◌, ℕ, ◌<◌, List, Some, slice_get}
use Rattle.bk_side.proofs.name.are_different.Given as goal

abbrev pub invariant-loop-i : goal.invariant-loop-i
invariant-loop-i l = (k j : ℕ) (name : List ℕ) → k < l.i → j < k → slice_get l.names j ≡ Some name → slice_get l.names k ≡ Some name → ⊥
