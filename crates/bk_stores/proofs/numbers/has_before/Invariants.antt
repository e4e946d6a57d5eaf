use Rattle.std.proofs.Common.{◌≡◌, ◌<◌, ℕ, Some, slice_get}
use Rattle.bk_master.specs.declared.record.Entry.{Entry as Entries}
use Rattle.bk_stores.proofs.numbers.has_before.Given as goal

abbrev pub invariant-loop-j : goal.invariant-loop-j
invariant-loop-j l = (k : ℕ) (e : Entries) → k < l.j → slice_get l.entries k ≡ Some e → (f : Entries) → slice_get l.entries l.i ≡ Some f → e.store ≡ f.store → ⊥
