use Rattle.std.proofs.Common.{◌≡◌, take}
use Rattle.bk_engine.proofs.running.extents_behind.Given as goal

abbrev pub invariant-loop-extent : goal.invariant-loop-extent
invariant-loop-extent l = l.rest.items ≡ take l.extent-index l.extent-items
