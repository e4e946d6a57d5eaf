use Rattle.std.proofs.Common.{◌≡◌, take, map}
use Rattle.bk_side.specs.Names.{data_file}
use Rattle.bk_side.proofs.name.data_files.Given as goal

abbrev pub invariant-loop-path : goal.invariant-loop-path
invariant-loop-path l = l.names.items ≡ map data_file (take l.path-index l.paths)
