use Rattle.std.proofs.Common.{◌≡◌, map, take}
use Rattle.bk_store.specs.Told.{data_file}
use Rattle.bk_engine.proofs.coming.files_of.Given as goal

abbrev pub invariant-loop-file : goal.invariant-loop-file
invariant-loop-file l = l.made.items ≡ map data_file (take l.file-index l.files)
