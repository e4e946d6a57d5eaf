use Rattle.std.proofs.Common.{◌≡◌, take}
use Rattle.bk_paged.specs.Names.{paths_of}
use Rattle.bk_paged.proofs.parts.copy_paths.Given as goal

abbrev pub invariant-loop-file : goal.invariant-loop-file
invariant-loop-file l = l.paths.items ≡ paths_of (take l.file-index l.files)
