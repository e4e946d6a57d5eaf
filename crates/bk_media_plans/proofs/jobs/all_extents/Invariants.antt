use Rattle.std.proofs.Common.{◌≡◌, take}
use Rattle.bk_machine.specs.statements.Backup as backup
use Rattle.bk_media_plans.proofs.jobs.all_extents.Given as goal

abbrev pub invariant-loop-file : goal.invariant-loop-file
invariant-loop-file l = l.extents.items ≡ backup.all_extents (take l.file-index l.files)
