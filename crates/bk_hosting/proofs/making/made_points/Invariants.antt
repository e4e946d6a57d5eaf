use Rattle.std.proofs.Common.{◌≡◌, take}
use Rattle.bk_machine.specs.Acts.{online_files}
use Rattle.bk_hosting.proofs.making.made_points.Given as goal

abbrev pub invariant-loop-file : goal.invariant-loop-file
invariant-loop-file l = l.units.items ≡ online_files (take l.file-index l.files)
