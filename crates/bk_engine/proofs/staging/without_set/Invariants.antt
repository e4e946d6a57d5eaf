use Rattle.std.proofs.Common.{◌≤◌, length}
use Rattle.bk_engine.proofs.staging.without_set.Given as goal

abbrev pub invariant-loop-other : goal.invariant-loop-other
invariant-loop-other l = length l.copy.items ≤ l.other-index
