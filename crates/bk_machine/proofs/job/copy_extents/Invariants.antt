use Rattle.std.proofs.Common.{◌≡◌, take}
use Rattle.bk_machine.proofs.job.copy_extents.Given as goal

abbrev pub invariant-loop-extent : goal.invariant-loop-extent
invariant-loop-extent l = l.copy.items ≡ take l.extent-index l.extents
