use Rattle.std.proofs.Common.{◌≡◌, ◌<◌, ℕ, Option, Some, slice_get}
use Rattle.bk_paged.specs.Names.{names_of}
use Rattle.bk_side.specs.Names.{IsData, data_file}
use Rattle.bk_store.specs.Store.{Kept as KeptStore}
use Rattle.bk_stores.proofs.stores.Stores.is_unused.Given as goal

abbrev pub invariant-loop-slot : goal.invariant-loop-slot
invariant-loop-slot l = (k : ℕ) (slot : Option KeptStore) → k < l.slot-index → slice_get l.slot-items k ≡ Some slot → (s : KeptStore) → slot ≡ Some s → IsData (names_of s.paged.facts.files) (data_file l.path) → ⊥
