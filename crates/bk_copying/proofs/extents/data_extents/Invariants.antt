use Rattle.std.proofs.Common.{◌≡◌}
use Rattle.bk_copying.specs.Extents.{extents_below}
use Rattle.bk_copying.proofs.extents.data_extents.Given as goal

abbrev pub invariant-loop-i : goal.invariant-loop-i
invariant-loop-i l = l.extents.items ≡ extents_below l.files l.i
