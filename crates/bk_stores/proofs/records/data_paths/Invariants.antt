use Rattle.std.proofs.Common.{◌≡◌, map, take}
use Rattle.bk_stores.proofs.records.data_paths.Given as goal

abbrev pub invariant-loop-file : goal.invariant-loop-file
invariant-loop-file l = l.paths.items ≡ map (λ f. f.path) (take l.file-index l.files)
