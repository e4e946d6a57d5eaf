use Rattle.std.proofs.Common.{◌≡◌, ℕ, ◌<◌, ◌≤◌, length}
use Rattle.bk_groups.specs.Bits.{bit_of}
use Rattle.bk_groups.proofs.file_space.free_all.Given as goal

abbrev pub invariant-loop-cell : goal.invariant-loop-cell
invariant-loop-cell l = record {
  len : length l.free ≡ length l.fn.free;
  below : (other : ℕ) → other < l.cell → bit_of l.free other ≡ 1;
  above : (other : ℕ) → l.cell ≤ other → bit_of l.free other ≡ 0;
}
