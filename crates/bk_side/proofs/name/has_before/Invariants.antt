use Rattle.std.proofs.Common.{◌≡◌, ℕ, ◌<◌, List, Some, slice_get}
use Rattle.bk_side.proofs.name.has_before.Given as goal

abbrev pub invariant-loop-j : goal.invariant-loop-j
invariant-loop-j l = (k : ℕ) (name : List ℕ) → k < l.j → slice_get l.names k ≡ Some name → slice_get l.names l.i ≡ Some name → ⊥
