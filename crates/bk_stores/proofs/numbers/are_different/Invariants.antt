use Rattle.std.proofs.Common.{◌≡◌, ◌<◌, ℕ, Some, slice_get}
use Rattle.bk_master.specs.declared.record.Entry.{Entry as Entries}
use Rattle.bk_stores.proofs.numbers.are_different.Given as goal

abbrev pub invariant-loop-i : goal.invariant-loop-i
invariant-loop-i l = (k : ℕ) (f : Entries) → k < l.i → slice_get l.entries k ≡ Some f → (j : ℕ) (e : Entries) → j < k → slice_get l.entries j ≡ Some e → e.store ≡ f.store → ⊥
