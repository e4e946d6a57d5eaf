use Rattle.std.proofs.Common.{◌≡◌, None, replicate}
use Rattle.bk_stores.proofs.loading.shut_slots.Given as goal

abbrev pub invariant-shuts : goal.invariant-shuts
invariant-shuts l = l.slots.items ≡ replicate l.counter None
