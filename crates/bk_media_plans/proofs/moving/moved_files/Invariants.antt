use Rattle.std.proofs.Common.{◌≡◌, map, take}
use Rattle.bk_machine.specs.statements.Restore.{moved_file}
use Rattle.bk_media_plans.proofs.moving.moved_files.Given as goal

abbrev pub invariant-loop-file : goal.invariant-loop-file
invariant-loop-file l = l.made.items ≡ map (moved_file l.moves) (take l.file-index l.files)
