use Rattle.std.proofs.Common.{◌≡◌, ◌++◌}
use Rattle.bk_copying.specs.Extents.{extents_to}
use Rattle.bk_copying.proofs.extents.add_extents.Given as goal

abbrev pub invariant-loop-i : goal.invariant-loop-i
invariant-loop-i l = l.extents.items ≡ l.fn.extents.items ++ extents_to l.file l.i
