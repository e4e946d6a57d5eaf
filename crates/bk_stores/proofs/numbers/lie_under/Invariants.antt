use Rattle.std.proofs.Common.{◌≡◌, ◌<◌, ℕ, Some, slice_get}
use Rattle.bk_master.specs.declared.record.Unfinished.{Unfinished as Unfinisheds}
use Rattle.bk_stores.proofs.numbers.lie_under.Given as goal

abbrev pub invariant-loop-it : goal.invariant-loop-it
invariant-loop-it l = (k : ℕ) (u : Unfinisheds) → k < l.it-index → slice_get l.unfinished k ≡ Some u → u.store < l.next
