use Rattle.std.proofs.Common.{◌≡◌, take}
use Rattle.bk_machine.specs.Acts.{file_units}
use Rattle.bk_hosted.proofs.parked.units_of.Given as goal

abbrev pub invariant-loop-file : goal.invariant-loop-file
invariant-loop-file l = l.units.items ≡ file_units l.state (take l.file-index l.files)
