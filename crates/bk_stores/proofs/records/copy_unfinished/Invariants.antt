use Rattle.std.proofs.Common.{◌≡◌, take}
use Rattle.bk_stores.proofs.records.copy_unfinished.Given as goal

abbrev pub invariant-loop-it : goal.invariant-loop-it
invariant-loop-it l = l.copy.items ≡ take l.it-index l.unfinished
