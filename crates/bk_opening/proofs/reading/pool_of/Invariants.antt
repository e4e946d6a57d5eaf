use Rattle.std.proofs.Common.{◌≡◌, length}
use Rattle.bk_opening.specs.Opening.{ArePut}
use Rattle.bk_opening.proofs.reading.pool_of.Given as goal

abbrev pub invariant-loop-i : goal.invariant-loop-i
invariant-loop-i l = record {
  put : ArePut l.places l.i l.pool.pages;
  size : length l.pool.pages ≡ length l.initial.pool.pages;
  frames : l.pool.frames ≡ l.initial.pool.frames;
  dirty : l.pool.dirty ≡ l.initial.pool.dirty;
}
