use Rattle.std.proofs.Common.{◌≡◌, map, take}
use Rattle.bk_engine.proofs.coming.specs_of.Given as goal

abbrev pub invariant-loop-file : goal.invariant-loop-file
invariant-loop-file l = l.specs.items ≡ map (λ file. file.spec) (take l.file-index l.files)
