use Rattle.std.proofs.Common.{◌≡◌, take}
use Rattle.bk_executing.proofs.copies.copy_files.Given as goal

abbrev pub invariant-loop-file : goal.invariant-loop-file
invariant-loop-file l = l.copy.items ≡ take l.file-index l.files
