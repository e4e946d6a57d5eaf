use Rattle.std.proofs.Common.{◌≡◌, ◌<◌, ℕ, Some, slice_get}
use Rattle.bk_facts.specs.declared.facts.DataFile.{DataFile as DataFiles}
use Rattle.bk_side.specs.Names.{data_file}
use Rattle.bk_stores.proofs.unused.has_path.Given as goal

abbrev pub invariant-loop-file : goal.invariant-loop-file
invariant-loop-file l = (k : ℕ) (f : DataFiles) → k < l.file-index → slice_get l.files k ≡ Some f → data_file f.path ≡ data_file l.path → ⊥
