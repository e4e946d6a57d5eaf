use Rattle.std.proofs.Common.{◌≡◌, ◌<◌, ℕ, Some, slice_get}
use Rattle.bk_master.specs.declared.record.Entry.{Entry as Entries}
use Rattle.bk_stores.proofs.numbers.lie_below.Given as goal

abbrev pub invariant-loop-entry : goal.invariant-loop-entry
invariant-loop-entry l = (k : ℕ) (e : Entries) → k < l.entry-index → slice_get l.entries k ≡ Some e → e.store < l.next
