use Rattle.std.proofs.Common.{ℕ, ◌<◌}
use Rattle.bk_pool.specs.Pool.{IsIn}
use Rattle.bk_pool.proofs.pool.walk.Given as goal

abbrev pub invariant-loop-i : goal.invariant-loop-i
invariant-loop-i l = (k : ℕ) → k < l.i → IsIn l.pages k l.file l.page → ⊥
