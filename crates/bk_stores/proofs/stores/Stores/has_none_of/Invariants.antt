use Rattle.std.proofs.Common.{◌≡◌, ◌<◌, ℕ, Some, slice_get}
use Rattle.bk_facts.specs.declared.facts.DataFile.{DataFile as DataFiles}
use Rattle.bk_side.specs.Names.{data_file}
use Rattle.bk_stores.specs.Standing.{IsUnused}
use Rattle.bk_stores.proofs.stores.Stores.has_none_of.Given as goal

abbrev pub invariant-loop-file : goal.invariant-loop-file
invariant-loop-file l = (k : ℕ) (f : DataFiles) → k < l.file-index → slice_get l.files k ≡ Some f → IsUnused l.self.slots (data_file f.path)
