use Rattle.std.proofs.Common.{◌≡◌, map, take}
use Rattle.bk_world.specs.declared.header.HeaderFile.{HeaderFile}
use Rattle.bk_executing.proofs.copies.files_of.Given as goal

abbrev pub invariant-loop-file : goal.invariant-loop-file
invariant-loop-file l = l.specs.items ≡ map (λ (file : HeaderFile). file.spec) (take l.file-index l.files)
